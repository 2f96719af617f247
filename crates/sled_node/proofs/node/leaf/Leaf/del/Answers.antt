use Rattle.std.proofs.Common.{◌∙◌}
use Rattle.sled_node.specs.Pairs.{del_pair}
use Rattle.sled_node.proofs.Edits.{has_del}
use Rattle.sled_node.proofs.LeafStrings.{leaf_strings, leaf_stored, pair_taken, is_leaf, paired_so}
use Rattle.sled_node.proofs.node.leaf.Leaf.del.Goals as goal

pub invariant_of-self : goal.invariant_of-self
invariant_of-self c =
    let strings = c.self.inside.strings in
    let pairs = c.args.self.now in
    let key = c.args.key.now in
    let are = leaf_strings strings pairs c.self.invariant c.self.view_is in
    let stored = leaf_stored strings pairs c.self.invariant c.self.view_is in
    is_leaf (del_pair key pairs) c.remove_both.new.self (c.remove_both.ensures ∙ pair_taken pairs strings are key c.in-Ok.at c.len-count.result c.len-count.ensures c.in-Ok.ensures.found) (has_del key pairs stored)

pub returns-in-Ok : goal.returns-in-Ok
returns-in-Ok c =
    let strings = c.self.inside.strings in
    let pairs = c.args.self.now in
    let key = c.args.key.now in
    let are = leaf_strings strings pairs c.self.invariant c.self.view_is in
    paired_so (del_pair key pairs) c.remove_both.new.self (c.remove_both.ensures ∙ pair_taken pairs strings are key c.in-Ok.at c.len-count.result c.len-count.ensures c.in-Ok.ensures.found)
