use Rattle.std.proofs.Common.{Some, subst}
use Rattle.sled_node.specs.Node.{WholeNode}
use Rattle.sled_tree.specs.Performs.{Performs}
use Rattle.sled_tree.specs.Splits.{Puts}
use Rattle.sled_tree.proofs.Putting.{put-none}
use Rattle.sled_tree.proofs.splits.put_left.Goals as goal

pub returns : goal.returns
returns g c = subst (λ (n : WholeNode). Performs g.L.Log (Puts c.args.child n c.put.result) c.args.cache.now c.put.new.cache) c.in_ok-left.ensures c.put.ensures

pub returns-in_err-left : goal.returns-in_err-left
returns-in_err-left g c = put-none g.L.Log c.args.child (record c.args.left { next = Some c.args.sibling }) c.from_residual.result c.args.cache.now c.from_residual.ensures.0
