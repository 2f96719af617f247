use Rattle.std.proofs.Common.{◌+◌, None, [], ◌∙◌, ap, refl, arith}
use Rattle.std.specs.Option.{option_or}
use Rattle.std.proofs.lemmas.List.{length-set}
use Rattle.sled_base.specs.Links.{with_after, listed_in}
use Rattle.sled_base.specs.declared.dll.links.Links.{Links}
use Rattle.sled_base.specs.declared.dll.cell.Cell.TheVariants.{Linked}
use Rattle.sled_base.proofs.LinkedLists.Keeping.{lists, out_within, last_within, unmarked}
use Rattle.sled_base.proofs.LinkedLists.Adding.{named_both, linked_at_tail}
use Rattle.sled_base.proofs.dll.links.Links.link_tail.Goals as goal

pub index_mut-requires : goal.index_mut-requires
index_mut-requires c = omega (arith, c.args.self.now.cells.ok.0, out_within _ _ c.requires)

pub linked-requires : goal.linked-requires
linked-requires c = unmarked c.args.self.now.tail c.args.self.now.cells.items (last_within _ c.args.self.now _ c.requires refl) c.requires.1.few

pub set_after-requires : goal.set_after-requires
set_after-requires c = last_within _ c.args.self.now _ c.requires (length-set _ _ _)

pub some-here-requires : goal.some-here-requires
some-here-requires c =
    omega (arith, c.requires.1.few, out_within _ _ c.requires)

pub returns : goal.returns
returns c =
    let old = c.args.self.now in
    let here = c.some-here.ensures in
    let put = c.linked.ensures ∙ ap (λ none. Linked (record { item = c.args.item; before = old.tail; after = none })) c.none.ensures in
    let changes = named_both with_after (λ end. Linked (record { item = c.args.item; before = end; after = None })) old.cells.items c.args.slot c.set_after.ensures here c.requires.1.tail put in
    let new : Links = record { cells = c.set_after.new.cells; head = c.or-self.result; tail = c.some-here.result; free = old.free; len = old.len + 1 } in
    let after = lists [] new _ c.requires.0 (linked_at_tail old new (listed_in old) c.requires.0 c.args.slot c.args.item c.requires.1 changes here (c.or-self.ensures ∙ ap (option_or old.head) here) refl refl) in
    record { kept = after.kept; list = after.is }
