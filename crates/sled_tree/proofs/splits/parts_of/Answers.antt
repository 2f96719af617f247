use Rattle.std.proofs.Common.{◌≡◌, arith, subst}
use Rattle.std.proofs.lemmas.Grind.{common_steps}
use Rattle.sled_node.specs.Node.{WholeNode}
use Rattle.sled_node.specs.Splitting.{SplitsBehind}
use Rattle.sled_tree.proofs.splits.parts_of.Goals as goal

pub returns-clause-parts : goal.returns-clause-parts
returns-clause-parts c =
    let same : c.in_ok-clone.field-0 ≡ c.args.node.now = grind (arith, common_steps, c.in_ok-clone.ensures.cases) in
    record {
      many = c.left_count-count.result;
      splits = subst (λ (n : WholeNode). SplitsBehind n c.left_count-count.result c.in_ok-left.left c.in_ok-left.right) same c.in_ok-left.ensures.parts;
      well = c.data.ensures.well_formed;
      left = c.data-2.ensures.well_formed;
      right = c.data-3.ensures.well_formed;
    }
