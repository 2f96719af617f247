use Rattle.std.proofs.Common.{length, ap, arith}
use Rattle.sled_node.specs.LeafStrings.{paired}
use Rattle.sled_node.proofs.LeafStrings.{many_both}
use Rattle.sled_node.proofs.node.leaf.Leaf.len.Goals as goal

pub returns : goal.returns
returns c = rw (← c.self.view_is) (omega (arith, c.len.ensures, ap length c.self.invariant.whole, many_both (paired c.self.inside.strings)))
