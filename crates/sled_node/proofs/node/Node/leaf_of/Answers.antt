-- Pairs that can be stored make a well-formed node.
use Rattle.sled_node.proofs.LeafNodes.{leaf_found}
use Rattle.sled_node.proofs.node.Node.leaf_of.Goals as goal

pub returns : goal.returns
returns c =
    let has = rw c.in-Some.is at c.in_ok-leaf.ensures in
    leaf_found c.args.pairs.items c.from_parts.result has.value.0 (rw (c.default-lo.ensures, c.default-hi.ensures, has.value.1) at c.from_parts.ensures)
