use Rattle.std.proofs.Common.{sym, ◌∙◌, refl}
use Rattle.sled_base.proofs.LinkedLists.Keeping.{first_free}
use Rattle.sled_base.proofs.LinkedLists.Adding.{taken}
use Rattle.sled_base.proofs.dll.links.Links.take.Goals as goal

pub next_free-self-requires : goal.next_free-self-requires
next_free-self-requires c =
    let kept = c.requires.1 in
    first_free c.args.self.now.cells.items c.requires.0 c.in-Some.slot (sym c.in-Some.is ∙ c.get.ensures ∙ kept.free) kept.unused

pub returns-in-Some-clause-ok : goal.returns-in-Some-clause-ok
returns-in-Some-clause-ok c =
    (taken c.args.self.now _ _ c.requires.0 c.in-Some.slot _ c.requires.1 (sym c.get.ensures ∙ c.in-Some.is) c.next_free-self.ensures refl refl refl refl refl).kept
