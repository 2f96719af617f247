use Rattle.std.proofs.Common.{◌-◌, ◌++◌, ◌∷◌, [], None, sym, ap, subst, ◌∙◌, arith}
use Rattle.std.specs.Prelude.{slice_set}
use Rattle.sled_base.specs.Lru.{listing}
use Rattle.sled_base.specs.Shards.{Shelf, size_in, listings_of, IsIndexed}
use Rattle.sled_base.proofs.RecentUse.Keeping.{IsTaken, kept-taken}
use Rattle.sled_base.proofs.lru.shard.Shard.drop_last.Goals as goal
use Rattle.sled_base.proofs.lru.shard.Shard.drop_last.Goals.{After-none}

-- the list and the entries after it
is_taken : (c : After-none) → IsTaken c.self.inside.entries.items c.unwrap-item.result c.self.inside.list c.pop_tail.new.self c.self.inside.total
is_taken c =
    let popped = rw c.unwrap-item.ensures at c.pop_tail.ensures.some in
    kept-taken c.self.inside.entries.items c.self.inside.list c.pop_tail.new.self c.self.inside.total c.unwrap-item.result popped.0 c.self.invariant popped.1

pub index_mut-requires : goal.index_mut-requires
index_mut-requires c = omega (arith, (is_taken (goal.at.index_mut-requires c).After-none).within, c.place-place.ensures, c.self.inside.entries.ok.0)

pub invariant_of-self : goal.invariant_of-self
invariant_of-self c =
    let written = subst (λ place. IsIndexed (slice_set c.self.inside.entries.items place None) c.pop_tail.new.self (c.self.inside.total - size_in c.unwrap-item.result)) (sym c.place-place.ensures) (is_taken (goal.at.invariant_of-self c).After-none).kept in
    let none = subst (λ entry. IsIndexed (slice_set c.self.inside.entries.items c.place-place.result entry) c.pop_tail.new.self (c.self.inside.total - size_in c.unwrap-item.result)) (sym c.none.ensures) written in
    subst (λ n. IsIndexed (slice_set c.self.inside.entries.items c.place-place.result c.none.result) c.pop_tail.new.self (c.self.inside.total - n)) (sym (c.from.ensures ∙ c.size.ensures)) none

pub returns : goal.returns
returns c =
    let taken = is_taken (goal.at.returns c).After-none in
    record {
      capacity = ap (λ (shelf : Shelf). shelf.capacity) c.self.view_is;
      size = size_in c.unwrap-item.result;
      is = ap (λ (shelf : Shelf). shelf.listings) (sym c.self.view_is) ∙ taken.is ∙ ap (λ place. listings_of c.pop_tail.new.self ++ listing place (size_in c.unwrap-item.result) ∷ []) (sym c.place-place.ensures);
      near = omega (arith, taken.within, c.place-place.ensures, c.self.invariant.few);
    }
