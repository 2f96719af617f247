use Rattle.std.proofs.Common.{◌≡◌, ◌-◌, arith, sym, ◌∙◌, refl}
use Rattle.std.specs.Prelude.{MatchOption}
use Rattle.sled_base.specs.declared.dll.links.Links.{Links}
use Rattle.sled_base.proofs.LinkedLists.Keeping.{neighbours_within, unmarked}
use Rattle.sled_base.proofs.LinkedLists.Unlinking.{unlinks}
use Rattle.sled_base.proofs.dll.links.Links.unlink.Goals as goal
use Rattle.sled_base.proofs.dll.links.Links.unlink.Goals.{in-Some, in-None, in-Some-get, in-None-get}

pub set_after-requires : goal.set_after-requires
set_after-requires c =
    (neighbours_within c.args.self.now _ c.args.slot c.link-link.result c.requires.kept c.requires.live c.link-link.ensures refl).before

pub set_before-requires : goal.set_before-requires
set_before-requires c =
    let neighbours = neighbours_within c.args.self.now _ c.args.slot c.link-link.result c.requires.kept c.requires.live c.link-link.ensures c.set_after.ensures.length in
    record { there = neighbours.after; other = unmarked c.link-link.result.before c.set_after.new.cells.items neighbours.before (omega (arith, c.requires.kept.1.few, c.set_after.ensures.length)) }

pub returns : goal.returns
returns c =
    let old = c.args.self.now in
    let link = c.link-link.result in
    let new : Links = record { cells = c.set_before.new.cells; head = c.match-get.self; tail = c.match-get-2.self; free = old.free; len = old.len - 1 } in
    let head : MatchOption link.before (new.head ≡ link.after) (λ _. new.head ≡ old.head) = elim c.match-get.branch [ in-Some w ↦ rw (sym c.get.ensures ∙ w.in-Some.is) w.self-is | in-None w ↦ rw (sym c.get.ensures ∙ w.in-None.is) w.self-is ] in
    let tail : MatchOption link.after (new.tail ≡ link.before) (λ _. new.tail ≡ old.tail) = elim c.match-get-2.branch [ in-Some-get w ↦ rw (sym c.get-2.ensures ∙ w.in-Some-get.is) w.self-is | in-None-get w ↦ rw (sym c.get-2.ensures ∙ w.in-None-get.is) w.self-is ] in
    let after = unlinks old new c.set_after.new.cells.items c.args.slot link c.requires.kept c.requires.live c.link-link.ensures c.set_after.ensures c.set_before.ensures head tail refl refl in
    record { kept = after.kept; list = after.list }
