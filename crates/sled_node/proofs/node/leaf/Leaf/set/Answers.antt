use Rattle.std.proofs.Common.{◌≡◌, ◌++◌}
use Rattle.std.specs.Prelude.{OnOk}
use Rattle.sled_node.specs.Pairs.{set_pair}
use Rattle.sled_node.specs.Payloads.Pairs.{keys_of, items_of}
use Rattle.sled_node.proofs.Edits.{has_set}
use Rattle.sled_node.proofs.LeafStrings.{leaf_strings, leaf_stored, value_put, pair_put, leaf_after, pairs_after, on_ok_is}
use Rattle.sled_node.proofs.node.leaf.Leaf.set.Goals.{After-replace, After-insert_both}
use Rattle.sled_node.proofs.node.leaf.Leaf.set.Goals as goal

-- a value in the place of another
replaced : (c : After-replace) → let after = set_pair c.args.key.now c.args.value.now c.args.self.now in OnOk c.replace.result (c.replace.new.self ≡ keys_of after ++ items_of after)
replaced c =
    let are = leaf_strings c.self.inside.strings c.args.self.now c.self.invariant c.self.view_is in
    let put = value_put c.args.self.now c.self.inside.strings are c.args.key.now c.in-Ok.at c.len-count.result c.len-count.ensures c.args.value.now c.in-Ok.ensures.found c.in-Ok.ensures.same in
    on_ok_is c.self.inside.strings c.replace.new.self _ c.replace.result _ put c.replace.ensures.ok

pub invariant_of-self : goal.invariant_of-self
invariant_of-self c =
    let has = has_set c.args.key.now c.args.self.now (leaf_stored _ _ c.self.invariant c.self.view_is) c.args.value.now c.requires.key c.requires.value c.requires.room in
    leaf_after c.self.inside.strings c.replace.new.self _ c.replace.result c.self.invariant has (replaced (goal.at.invariant_of-self c).After-replace) c.replace.ensures.err

pub returns-in-Ok-clause-ok : goal.returns-in-Ok-clause-ok
returns-in-Ok-clause-ok c = pairs_after c.self.inside.strings c.replace.new.self _ c.replace.result (replaced (goal.at.returns-in-Ok-clause-ok c).After-replace)

-- a pair more
inserted : (c : After-insert_both) → let after = set_pair c.args.key.now c.args.value.now c.args.self.now in OnOk c.insert_both.result (c.insert_both.new.self ≡ keys_of after ++ items_of after)
inserted c =
    let are = leaf_strings c.self.inside.strings c.args.self.now c.self.invariant c.self.view_is in
    let put = pair_put c.args.self.now c.self.inside.strings are c.args.key.now c.in-Err.at c.len-count.result c.len-count.ensures c.args.value.now c.in-Err.ensures.missing in
    on_ok_is c.self.inside.strings c.insert_both.new.self _ c.insert_both.result _ put c.insert_both.ensures.ok

pub invariant_of-self-in-Err : goal.invariant_of-self-in-Err
invariant_of-self-in-Err c =
    let has = has_set c.args.key.now c.args.self.now (leaf_stored _ _ c.self.invariant c.self.view_is) c.args.value.now c.requires.key c.requires.value c.requires.room in
    leaf_after c.self.inside.strings c.insert_both.new.self _ c.insert_both.result c.self.invariant has (inserted (goal.at.invariant_of-self-in-Err c).After-insert_both) c.insert_both.ensures.err

pub returns-in-Err-clause-ok : goal.returns-in-Err-clause-ok
returns-in-Err-clause-ok c = pairs_after c.self.inside.strings c.insert_both.new.self _ c.insert_both.result (inserted (goal.at.returns-in-Err-clause-ok c).After-insert_both)
