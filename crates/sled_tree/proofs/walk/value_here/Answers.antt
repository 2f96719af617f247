use Rattle.std.proofs.Common.{Some, None}
use Rattle.sled_node.specs.Node.{Value}
use Rattle.sled_search.proofs.Pairs.{at-answer}
use Rattle.sled_tree.proofs.walk.value_here.Goals as goal

pub returns-in_ok-from_slice-in-Some : goal.returns-in_ok-from_slice-in-Some
returns-in_ok-from_slice-in-Some c =
    let is = c.in_ok-from_slice-in-Some.ensures.ok in
    at-answer c.args.node.now.pairs c.args.key.now (Some c.in_ok-from_slice-in-Some.field-0) (λ v. Value v) c.data.ensures.well_formed.ascending (rw is c.in-Some.ensures.value) tt

pub returns-in-None : goal.returns-in-None
returns-in-None c = at-answer c.args.node.now.pairs c.args.key.now None (λ v. Value v) c.data.ensures.well_formed.ascending tt (rw c.in-None.is at c.leaf_pair_for_key.ensures.absent)
