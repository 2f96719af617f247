use Rattle.std.proofs.Common.{◌∙◌}
use Rattle.sled_tree.proofs.OrderedLists.{at-most-test}
use Rattle.sled_tree.proofs.neighbours.pieces.comes_before.Goals as goal

pub returns-in-Included : goal.returns-in-Included
returns-in-Included c = rw c.in-Included.is (c.le.ensures ∙ at-most-test c.args.key.now c.in-Included.end)
