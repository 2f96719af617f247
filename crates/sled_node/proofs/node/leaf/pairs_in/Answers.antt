use Rattle.std.proofs.Common.{sym, arith}
use Rattle.sled_node.specs.LeafStrings.{paired}
use Rattle.sled_node.proofs.LeafStrings.{half_is}
use Rattle.sled_node.proofs.node.leaf.pairs_in.Goals as goal

pub returns : goal.returns
returns c = omega (arith, c.len.ensures, half_is (paired c.args.strings.now) c.args.strings.now (sym c.requires))
