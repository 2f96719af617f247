use Rattle.sled_node.proofs.LeafNodes.{leaf_formed}
use Rattle.sled_node.proofs.node.payload.over_all_keys.Goals as goal

pub invariant_of-result : goal.invariant_of-result
invariant_of-result c = rw (c.default.ensures, c.default-2.ensures) (leaf_formed c.args.leaf c.strings.ensures.stored)
