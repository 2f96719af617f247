use Rattle.std.proofs.Common.{sym}
use Rattle.sled_node.specs.LeafStrings.{paired}
use Rattle.sled_node.proofs.LeafStrings.{short_parts, short_both}
use Rattle.sled_node.proofs.node.leaf.have_short_strings.Goals as goal

pub returns : goal.returns
returns c =
    let strings = c.args.strings.now in
    let are = sym c.requires in
    (λ yes. short_parts strings (paired strings) are (c.are_all_short.ensures.0 yes), λ both. c.are_all_short.ensures.1 (short_both strings (paired strings) are both.0 both.1))
