-- What a shard of a list of recent use keeps.
use Rattle.std.specs.Prelude.{◌≡◌, ◌<◌, ◌≤◌, ◌+◌, ◌*◌, ◌^◌, ◌⊎◌, ◌/◌, ◌%◌, ℕ, Option, Some, None, List, [], ◌∷◌, ◌++◌, length, map, slice_index_or, Contains}
use Rattle.std.specs.List.{AllByRecursion}
use Rattle.sled_base.specs.Dll.{Listed, listed, slots, AreDistinct, IsRenewed}
use Rattle.sled_base.specs.Limits.{shard_count, exponent_count}
use Rattle.sled_base.specs.Lru.{Listing, listing, total, others, IsTooMuch, IsWithin, AreApart}
use Rattle.sled_base.specs.declared.dll.Slot.{Slot}

-- the capacity of a shard, and what it lists
pub record Shelf : Type 0 where
  pub capacity : ℕ
  pub listings : List Listing

-- an item of the list: a place, and the exponent of its size
abbrev pub item_of : ℕ → ℕ → ℕ
item_of place exponent = place * exponent_count + exponent

abbrev pub place_in : ℕ → ℕ
place_in item = item / exponent_count

abbrev pub size_in : ℕ → ℕ
size_in item = 2 ^ (item % exponent_count)

-- what is listed
abbrev pub listings_of : List Listed → List Listing
listings_of list = map (λ x. listing (place_in x.item) (size_in x.item)) list

-- the slot of a place
abbrev pub entry_at : List (Option Slot) → ℕ → Option Slot
entry_at entries place = slice_index_or entries place None

-- the entry of the item's place has the item's slot
abbrev pub HasSlot : List (Option Slot) → Listed → Type 0
HasSlot entries x = entry_at entries (place_in x.item) ≡ Some x.slot

-- an item of the place is in the slot
pub record StandsAt (place : ℕ) (slot : Slot) (list : List Listed) : Type 0 where
  pub item : ℕ
  pub there : Contains list (listed slot item)
  pub is : place_in item ≡ place

-- Each listed place has an entry with its slot, and no other place has a slot. The sizes add up to the sum.
pub record IsIndexed (entries : List (Option Slot)) (list : List Listed) (sum : ℕ) : Type 0 where
  pub named : AllByRecursion (HasSlot entries) list
  pub there : (place : ℕ) (slot : Slot) → entry_at entries place ≡ Some slot → StandsAt place slot list
  pub distinct : AreDistinct (slots list)
  pub sum_is : sum ≡ total (listings_of list)
  pub few : length entries ≤ 2 ^ 56

-- The item becomes the first of the list, in the slot of its place's entry, or else in a slot that no other item has.
abbrev pub PutsFirst : Slot → ℕ → Option Slot → List Listed → List Listed → Type 0
PutsFirst slot item None old new = (¬ Contains (slots old) slot) × (new ≡ listed slot item ∷ old)
PutsFirst slot item (Some named) old new = (slot ≡ named) × IsRenewed slot item old new

-- For a place of that size, this many of the other places are evicted.
pub record IsCut (capacity place size : ℕ) (old : List Listing) (count : ℕ) : Type 0 where
  pub stays : List Listing
  pub leaves : List Listing
  pub all : others place old ≡ stays ++ leaves
  pub counted : count ≡ length leaves
  pub fits : (size + total stays ≤ capacity) ⊎ (stays ≡ [])
  pub needed : IsTooMuch capacity (listing place size ∷ stays) leaves

-- The last place is removed.
pub record TakesLast (place : ℕ) (old new : Shelf) : Type 0 where
  pub capacity : new.capacity ≡ old.capacity
  pub size : ℕ
  pub is : old.listings ≡ new.listings ++ listing place size ∷ []
  pub near : place < 2 ^ 56

-- the shard has its part of the capacity, takes no more than that unless it lists a single place, and lists no place twice
pub record IsShardOf (capacity : ℕ) (shard : Shelf) : Type 0 where
  pub part : shard.capacity ≡ capacity / shard_count
  pub within : IsWithin (capacity / shard_count) shard.listings
  pub apart : AreApart shard.listings
  pub small : total shard.listings < 2 ^ 64

pub record AreShards (capacity : ℕ) (shards : List Shelf) : Type 0 where
  pub count : length shards ≡ shard_count
  pub each : AllByRecursion (IsShardOf capacity) shards
