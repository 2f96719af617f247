use Rattle.std.proofs.Common.{◌≡◌, Some, sym, ◌∙◌, ap, refl, arith}
use Rattle.std.specs.List.{slice_get}
use Rattle.std.proofs.lemmas.Bool.{ltb-true}
use Rattle.std.proofs.lemmas.Option.{slice_get_read}
use Rattle.sled_base.proofs.LinkedLists.Keeping.{live_cell, live_within, linked_is_live}
use Rattle.sled_base.proofs.dll.links.Links.is_linked.Goals as goal

pub returns-in-Linked : goal.returns-in-Linked
returns-in-Linked c =
    let cells = c.args.self.now.cells in
    let read = slice_get_read cells.items _ c.args.slot.0 c.index.result.now cells.ok.0 (omega (arith, cells.ok.0)) c.index.ensures in
    (λ _. linked_is_live c.args.self.now c.args.slot _ c.requires (read ∙ ap Some (sym c.get.ensures.cell ∙ c.in-Linked.is)), λ _. refl)

pub returns-in_default : goal.returns-in_default
returns-in_default c =
    let cells = c.args.self.now.cells in
    let read : slice_get cells.items c.args.slot.0 ≡ Some c.index.result.now = slice_get_read cells.items _ c.args.slot.0 c.index.result.now cells.ok.0 (omega (arith, cells.ok.0)) c.index.ensures in
    let is = c.in_default.is in
    let got = c.get.ensures.cell in
    (λ none. absurd cc, λ live. let cell = (live_cell _ _ _ c.requires live).1 in absurd cc)

pub returns-else-place-len : goal.returns-else-place-len
returns-else-place-len c =
    (λ within. absurd (omega (arith, ltb-true _ _ within)), λ live. absurd (omega (arith, c.args.self.now.cells.ok.0, live_within _ _ _ c.requires live)))
