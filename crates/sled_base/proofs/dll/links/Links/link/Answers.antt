use Rattle.std.proofs.Common.{Some, sym, ◌∙◌, ap, arith}
use Rattle.std.proofs.lemmas.Option.{slice_get_read}
use Rattle.sled_base.proofs.LinkedLists.Keeping.{live_cell, live_within}
use Rattle.sled_base.proofs.dll.links.Links.link.Goals as goal

pub index-requires : goal.index-requires
index-requires c =
    omega (arith, c.args.self.now.cells.ok.0, live_within _ _ _ c.requires.kept c.requires.live)

pub unreachable-requires : goal.unreachable-requires
unreachable-requires c =
    let live = live_cell _ _ _ c.requires.kept c.requires.live in
    let there = live.1 in
    let read = slice_get_read c.args.self.now.cells.items _ c.args.slot.0 c.index.result.now c.args.self.now.cells.ok.0 (omega (arith, c.args.self.now.cells.ok.0, live_within _ _ _ c.requires.kept c.requires.live)) c.index.ensures in
    let is = sym c.get.ensures.cell ∙ c.in-Free.is in
    cc

pub returns : goal.returns
returns c =
    slice_get_read c.args.self.now.cells.items _ c.args.slot.0 c.index.result.now c.args.self.now.cells.ok.0 (omega (arith, c.args.self.now.cells.ok.0, live_within _ _ _ c.requires.kept c.requires.live)) c.index.ensures ∙ ap Some (sym c.get.ensures.cell ∙ c.in-Linked.is)
