use Rattle.std.proofs.Common.{◌+◌, Some, None, [], ◌∙◌, ap, refl, arith}
use Rattle.std.specs.Option.{option_or}
use Rattle.std.proofs.lemmas.List.{length-set}
use Rattle.sled_base.specs.Links.{with_before, listed_in}
use Rattle.sled_base.specs.OptionalSlots.{is_mark}
use Rattle.sled_base.specs.declared.dll.links.Links.{Links}
use Rattle.sled_base.specs.declared.dll.cell.Cell.TheVariants.{Linked}
use Rattle.sled_base.proofs.LinkedLists.Keeping.{lists, out_within, first_within, unmarked}
use Rattle.sled_base.proofs.LinkedLists.Adding.{named_both, linked_at_head}
use Rattle.sled_base.proofs.dll.links.Links.link_head.Goals as goal

pub index_mut-requires : goal.index_mut-requires
index_mut-requires c = omega (arith, c.args.self.now.cells.ok.0, out_within _ _ c.requires)

pub set_before-requires : goal.set_before-requires
set_before-requires c = record {
  there = first_within _ c.args.self.now _ c.requires (length-set _ _ _);
  other = ap is_mark c.some-here.ensures ∙ unmarked (Some c.args.slot) c.args.self.now.cells.items (out_within _ _ c.requires) c.requires.1.few;
}

pub some-here-requires : goal.some-here-requires
some-here-requires c =
    omega (arith, c.requires.1.few, out_within _ _ c.requires)

pub returns : goal.returns
returns c =
    let old = c.args.self.now in
    let here = c.some-here.ensures in
    let put = c.linked.ensures ∙ ap (λ none. Linked (record { item = c.args.item; before = none; after = old.head })) c.none.ensures in
    let changes = named_both with_before (λ end. Linked (record { item = c.args.item; before = None; after = end })) old.cells.items c.args.slot c.set_before.ensures here c.requires.1.head put in
    let new : Links = record { cells = c.set_before.new.cells; head = c.some-here.result; tail = c.or-self.result; free = old.free; len = old.len + 1 } in
    let after = lists [] new _ c.requires.0 (linked_at_head old new (listed_in old) c.requires.0 c.args.slot c.args.item c.requires.1 changes here (c.or-self.ensures ∙ ap (option_or old.tail) here) refl refl) in
    record { kept = after.kept; list = after.is }
