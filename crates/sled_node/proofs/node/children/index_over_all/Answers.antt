use Rattle.sled_node.proofs.Children.{index_formed}
use Rattle.sled_node.proofs.node.children.index_over_all.Goals as goal

pub invariant_of-result : goal.invariant_of-result
invariant_of-result c = rw (c.default.ensures, c.default-2.ensures, c.of.ensures) (index_formed c.args.pairs.items c.requires)
