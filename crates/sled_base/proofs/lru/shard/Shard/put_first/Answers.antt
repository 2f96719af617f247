use Rattle.std.proofs.Common.{◌≡◌, ℕ, ◌+◌, ◌<◌, Some, ◌∷◌, length, refl, sym, ap, subst, ◌∙◌, arith}
use Rattle.std.specs.Prelude.{slice_set, slice_index_or, Contains}
use Rattle.std.proofs.lemmas.Bool.{false≢true}
use Rattle.sled_base.specs.Lru.{listing, total, others}
use Rattle.sled_base.specs.Shards.{Shelf, place_in, size_in, entry_at, listings_of, IsIndexed, PutsFirst}
use Rattle.sled_base.proofs.RecentUse.Keeping.{HasEntry, IsPut, same-kept, listed_entry, within_entries, entry_read, found_there, puts_before, kept-put}
use Rattle.sled_base.proofs.lru.shard.Shard.put_first.Goals as goal
use Rattle.sled_base.proofs.lru.shard.Shard.put_first.Goals.{After-make_room, After-index, In_ok-self-inside}

-- a place that is listed has an entry
has_entry : (c : After-make_room) (x : ℕ) → Contains c.args.self.now.listings (listing (place_in c.args.item) x) → HasEntry c.self.inside.entries.items (place_in c.args.item)
has_entry c x there =
    listed_entry c.self.inside.entries.items c.self.inside.list c.self.inside.total (place_in c.args.item) x c.self.invariant (subst (λ (shelf : Shelf). Contains shelf.listings (listing (place_in c.args.item) x)) (sym c.self.view_is) there)

-- what was listed is listed still when there is room
still_kept : (c : After-make_room) → IsIndexed c.make_room.new.entries.items c.self.inside.list c.self.inside.total
still_kept c =
    same-kept c.self.inside.entries.items c.make_room.new.entries.items c.make_room.ensures.same c.self.inside.list c.self.inside.total (c.make_room.ensures.few c.self.invariant.few) c.self.invariant

within : (c : After-index) → place_in c.args.item < length c.make_room.new.entries.items
within c = omega (arith, c.in_ok-make_room.ensures.ok, c.place-index.ensures, c.make_room.new.entries.ok.0)

-- the entry that was read
read : (c : After-index) → entry_at c.make_room.new.entries.items (place_in c.args.item) ≡ c.index.result.now
read c =
    entry_read c.make_room.new.entries.items (place_in c.args.item) c.index.result.now (within c) (subst (λ place. c.index.result.now ≡ slice_index_or c.make_room.new.entries.items place c.index.result.now) c.place-index.ensures c.index.ensures)

pub returns-in_err-make_room-clause-always : goal.returns-in_err-make_room-clause-always
returns-in_err-make_room-clause-always c = λ x there.
    let has = has_entry (goal.at.returns-in_err-make_room-clause-always c).After-make_room x there in
    absurd (false≢true (c.in_err-make_room.ensures.always (omega (arith, within_entries c.self.inside.entries.items (place_in c.args.item) has.slot has.is, c.place-index.ensures, c.self.inside.entries.ok.0))))

pub put_in_front-requires : goal.put_in_front-requires
put_in_front-requires c = found_there c.make_room.new.entries.items c.self.inside.list c.self.inside.total (place_in c.args.item) c.index.result.now (still_kept (goal.at.put_in_front-requires c).After-make_room) (read (goal.at.put_in_front-requires c).After-index)

pub invariant_of-self-in_err-self-inside : goal.invariant_of-self-in_err-self-inside
invariant_of-self-in_err-self-inside c =
    subst (λ list. IsIndexed c.make_room.new.entries.items list c.self.inside.total) (sym c.in_err-self-inside.ensures.err) (still_kept (goal.at.invariant_of-self-in_err-self-inside c).After-make_room)

pub returns-in_err-self-inside-clause-always : goal.returns-in_err-self-inside-clause-always
returns-in_err-self-inside-clause-always c = λ x there.
    let has = has_entry (goal.at.returns-in_err-self-inside-clause-always c).After-make_room x there in
    let some : c.index.result.now ≡ Some has.slot = sym (read (goal.at.returns-in_err-self-inside-clause-always c).After-index) ∙ c.make_room.ensures.same (place_in c.args.item) ∙ has.is in
    absurd (false≢true (c.in_err-self-inside.ensures.always (rw some refl)))

-- the list and the entries after it
is_put : (c : In_ok-self-inside) → IsIndexed c.make_room.new.entries.items c.self.inside.list c.self.inside.total → place_in c.args.item < length c.make_room.new.entries.items → entry_at c.make_room.new.entries.items (place_in c.args.item) ≡ c.index.result.now → IsPut (slice_set c.make_room.new.entries.items c.place-index.result c.in_ok-self-inside.field-0) c.args.item (listings_of c.self.inside.list) c.put_in_front.new.list c.args.sum
is_put c kept within read =
    let entries = c.make_room.new.entries.items in
    let put = c.in_ok-self-inside.ensures.ok in
    let puts = subst (λ found. PutsFirst put.0 c.args.item found c.self.inside.list c.put_in_front.new.list) (sym read) put.2 in
    let sum = subst (λ (shelf : Shelf). c.args.sum ≡ size_in c.args.item + total (others (place_in c.args.item) shelf.listings)) (sym c.self.view_is) c.requires.sum in
    let is = kept-put entries c.self.inside.list c.put_in_front.new.list c.self.inside.total c.args.item c.args.sum put.0 kept within sum (puts_before entries c.self.inside.list c.put_in_front.new.list c.self.inside.total c.args.item put.0 kept puts) in
    let at_place = subst (λ place. IsPut (slice_set entries place (Some put.0)) c.args.item (listings_of c.self.inside.list) c.put_in_front.new.list c.args.sum) (sym c.place-index.ensures) is in
    subst (λ entry. IsPut (slice_set entries c.place-index.result entry) c.args.item (listings_of c.self.inside.list) c.put_in_front.new.list c.args.sum) (sym put.1) at_place

pub invariant_of-self-2 : goal.invariant_of-self-2
invariant_of-self-2 c =
    let at = goal.at.invariant_of-self-2 c in
    (is_put at.In_ok-self-inside (still_kept at.After-make_room) (within at.After-index) (read at.After-index)).kept

pub returns-clause-ok : goal.returns-clause-ok
returns-clause-ok c =
    let at = goal.at.returns-clause-ok c in
    ap (λ ls. record { capacity = c.self.inside.capacity; listings = ls }) (is_put at.In_ok-self-inside (still_kept at.After-make_room) (within at.After-index) (read at.After-index)).is
    ∙ ap (λ (shelf : Shelf). record { capacity = shelf.capacity; listings = listing (place_in c.args.item) (size_in c.args.item) ∷ others (place_in c.args.item) shelf.listings }) c.self.view_is
