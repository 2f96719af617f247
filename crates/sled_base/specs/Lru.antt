-- What a list of recent use is: shards of places with their sizes, in each the most recently used place first.
use Rattle.std.specs.Prelude.{◌≡◌, ◌<◌, ◌≤◌, ◌+◌, ◌*◌, ◌/◌, ◌%◌, ◌⊎◌, ◌==◌, nat_le, not, true, false, ℕ, zero, suc, List, [], ◌∷◌, ◌++◌, length, map, reverse, filter, slice_set, slice_index_or, Contains}
use Rattle.std.specs.List.{sum_by, AllByRecursion}
use Rattle.sled_base.specs.Limits.{shard_count}

-- a place that is listed, with its size
pub record Listing : Type 0 where
  pub place : ℕ
  pub size : ℕ

abbrev pub listing : ℕ → ℕ → Listing
listing place size = record { place = place; size = size }

-- the sum of the listed sizes
abbrev pub total : List Listing → ℕ
total shard = sum_by (λ l. l.size) shard

-- the capacity of all shards together, and what each of the shards lists
pub record Recency : Type 0 where
  pub capacity : ℕ
  pub shards : List (List Listing)

-- the listings of the shard except that of the place, in their order
abbrev pub others : ℕ → List Listing → List Listing
others place shard = filter (λ l. not (l.place == place)) shard

-- the first of power, 2 * power, 4 * power, .. that is not below the size, after at most the given number of doublings
abbrev pub doubled_to : ℕ → ℕ → ℕ → ℕ
doubled_to zero size power = power
doubled_to (suc n) size power = elim (nat_le size power) [ true ↦ power | false ↦ doubled_to n size (2 * power) ]

-- the first of 1, 2, 4, .. that is not below the size
abbrev pub rounded : ℕ → ℕ
rounded size = doubled_to size size 1

-- the first of the evicted listings would not have fit besides those that stay
abbrev pub IsTooMuch : ℕ → List Listing → List Listing → Type 0
IsTooMuch capacity stays [] = Unit {0}
IsTooMuch capacity stays (first ∷ leaves) = capacity < total (stays ++ first ∷ [])

-- A place was used, and has the given size from then on. It becomes the first. Of the others, in their order, as many stay, from
-- the front on, as fit into the capacity with it. The rest is evicted, the last one first.
pub record IsUsed (capacity place size : ℕ) (old new : List Listing) (gone : List ℕ) : Type 0 where
  pub stays : List Listing
  pub leaves : List Listing
  pub all : others place old ≡ stays ++ leaves
  pub is : new ≡ listing place size ∷ stays
  pub out : gone ≡ reverse (map (λ l. l.place) leaves)
  pub fits : (total new ≤ capacity) ⊎ (stays ≡ [])
  pub needed : IsTooMuch capacity new leaves

-- what a shard lists
abbrev pub shard_at : Recency → ℕ → List Listing
shard_at recency i = slice_index_or recency.shards i []

-- A page was used, and has the given size from then on. Each page has its place in one shard, and only that shard changes.
pub record IsAccessed (id size : ℕ) (old new : Recency) (gone : List ℕ) : Type 0 where
  pub capacity : new.capacity ≡ old.capacity
  pub shard : List Listing
  pub places : List ℕ
  pub used : IsUsed (old.capacity / shard_count) (id / shard_count) size (shard_at old (id % shard_count)) shard places
  pub shards : new.shards ≡ slice_set old.shards (id % shard_count) shard
  pub out : gone ≡ map (λ place. place * shard_count + id % shard_count) places

-- the page is listed with that size
abbrev pub IsListed : ℕ → ℕ → Recency → Type 0
IsListed id size recency = Contains (shard_at recency (id % shard_count)) (listing (id / shard_count) size)

-- a shard takes no more than its capacity, unless it lists a single place
abbrev pub IsWithin : ℕ → List Listing → Type 0
IsWithin capacity shard = (total shard ≤ capacity) ⊎ (length shard ≤ 1)

-- no place is listed twice
abbrev pub AreApart : List Listing → Type 0
AreApart [] = Unit {0}
AreApart (l ∷ shard) = (¬ Contains (map (λ k. k.place) shard) l.place) × AreApart shard

-- what holds for every list of recent use
pub record IsSound (recency : Recency) : Type 0 where
  pub count : length recency.shards ≡ shard_count
  pub within : AllByRecursion (IsWithin (recency.capacity / shard_count)) recency.shards
  pub apart : AllByRecursion AreApart recency.shards

-- a list of recent use that lists nothing yet
pub record IsUnused (limit : ℕ) (recency : Recency) : Type 0 where
  pub capacity : recency.capacity ≡ limit
  pub count : length recency.shards ≡ shard_count
  pub empty : AllByRecursion (λ shard. shard ≡ []) recency.shards
