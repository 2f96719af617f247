use Rattle.std.proofs.Common.{◌≡◌, ◌+◌, ◌-◌, length, ap, ◌∙◌, arith}
use Rattle.std.specs.List.{slice_get}
use Rattle.sled_node.proofs.LeafStrings.{leaf_strings, pair_there}
use Rattle.sled_node.proofs.node.leaf.Leaf.pair.Goals as goal

pub returns : goal.returns
returns c =
    let strings = c.self.inside.strings in
    let pairs = c.args.self.now in
    let are = leaf_strings strings pairs c.self.invariant c.self.view_is in
    let place : length pairs + c.args.i ≡ c.len.result + c.args.i - 1 + 1 = omega (arith, c.len.ensures, c.requires) in
    pair_there pairs strings are c.args.i c.get.result.now c.get_next.result.now c.requires c.get.ensures (ap (slice_get strings) place ∙ c.get_next.ensures)
