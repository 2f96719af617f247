use Rattle.std.proofs.Common.{[], ◌∷◌, ◌∙◌, set, ap, refl, arith}
use Rattle.std.specs.Vec.{with_item}
use Rattle.sled_base.specs.Links.{listed_in}
use Rattle.sled_base.specs.declared.dll.links.Links.{Links}
use Rattle.sled_base.proofs.LinkedLists.Keeping.{lists, out_within}
use Rattle.sled_base.proofs.LinkedLists.Adding.{released}
use Rattle.sled_base.proofs.dll.links.Links.remove.Goals as goal

pub index_mut-requires : goal.index_mut-requires
index_mut-requires c = omega (arith, c.unlink-item.new.self.cells.ok.0, out_within _ _ c.unlink-item.ensures.kept)

pub some-self-requires : goal.some-self-requires
some-self-requires c =
    let kept = c.unlink-item.ensures.kept in
    omega (arith, kept.1.few, out_within _ _ kept)

pub returns : goal.returns
returns c =
    let old = c.unlink-item.new.self in
    let slot = c.args.slot in
    let kept = c.unlink-item.ensures.kept in
    let new : Links = record { cells = with_item old.cells slot.0 c.free.result; head = old.head; tail = old.tail; free = c.some-self.result; len = old.len } in
    let after = lists [] new (listed_in old) (slot ∷ kept.0) (released old new (listed_in old) kept.0 slot kept.1 (ap (set old.cells.items slot.0) c.free.ensures) c.some-self.ensures refl refl refl) in
    record {
      kept = after.kept;
      list = λ front back x is. (let out = c.unlink-item.ensures.list front back x is in (out.0, after.is ∙ out.1));
    }
