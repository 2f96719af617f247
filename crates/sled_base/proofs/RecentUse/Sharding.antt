-- The shards of a list of recent use.
use Rattle.std.proofs.Common.{inl, inr, ◌≡◌, ℕ, ◌+◌, ◌*◌, ◌/◌, ◌%◌, ◌^◌, ◌<◌, ◌≤◌, List, [], ◌∷◌, ◌++◌, length, map, refl, sym, ap, subst, ◌∙◌, arith}
use Rattle.std.specs.Prelude.{slice_set, slice_index_or}
use Rattle.std.specs.List.{AllByRecursion}
use Rattle.std.proofs.lemmas.List.{map-set, get_or-map, length-map, length-set}
use Rattle.std.proofs.lemmas.List.Elements.{All-get_or, All-from_recursion}
use Rattle.sled_base.specs.Lru.{Listing, listing, total, Recency, IsUsed, IsAccessed, IsWithin, AreApart, IsSound, IsUnused}
use Rattle.sled_base.specs.LruLaws.{each-set, apart-used}
use Rattle.sled_base.specs.Shards.{Shelf, IsShardOf, AreShards}
use Rattle.sled_base.proofs.RecentUse.Keeping.{total-cons}

-- what callers see
abbrev pub recency_of : ℕ → List Shelf → Recency
recency_of capacity shards = record { capacity = capacity; shards = map (λ (s : Shelf). s.listings) shards }

each_mapped : {X Y : Type 0} (f : X → Y) (P : X → Type 0) (Q : Y → Type 0) → ((x : X) → P x → Q (f x)) → (xs : List X) → AllByRecursion P xs → AllByRecursion Q (map f xs)
each_mapped f P Q gives [] each = tt
each_mapped f P Q gives (x ∷ xs) each = (gives x each.0, each_mapped f P Q gives xs each.1)

pub each_weaker : {X : Type 0} (P Q : X → Type 0) → ((x : X) → P x → Q x) → (xs : List X) → AllByRecursion P xs → AllByRecursion Q xs
each_weaker P Q gives [] each = tt
each_weaker P Q gives (x ∷ xs) each = (gives x each.0, each_weaker P Q gives xs each.1)

pub each_push : {X : Type 0} (P : X → Type 0) (xs : List X) (y : X) → AllByRecursion P xs → P y → AllByRecursion P (xs ++ y ∷ [])
each_push P [] y each new = (new, tt)
each_push P (x ∷ xs) y each new = (each.0, each_push P xs y each.1 new)

pub sound_shards : (capacity : ℕ) (shards : List Shelf) → AreShards capacity shards → IsSound (recency_of capacity shards)
sound_shards capacity shards are = record {
  count = length-map shards (λ (s : Shelf). s.listings) ∙ are.count;
  within = each_mapped (λ (s : Shelf). s.listings) (IsShardOf capacity) (IsWithin (capacity / 256)) (λ s is. is.within) shards are.each;
  apart = each_mapped (λ (s : Shelf). s.listings) (IsShardOf capacity) AreApart (λ s is. is.apart) shards are.each;
}

-- a shard that was read
pub shard_read : (capacity i : ℕ) (shards : List Shelf) (shard : Shelf) → AreShards capacity shards → i < 256 → shard ≡ slice_index_or shards i shard → IsShardOf capacity shard
shard_read capacity i shards shard are within is =
    subst (IsShardOf capacity) (sym is) (All-get_or (IsShardOf capacity) shards i shard (omega (arith, are.count)) (All-from_recursion (IsShardOf capacity) shards are.each))

pub shards-set : (capacity i : ℕ) (shards : List Shelf) (shard : Shelf) → AreShards capacity shards → IsShardOf capacity shard → AreShards capacity (slice_set shards i shard)
shards-set capacity i shards shard are is = record {
  count = length-set shards i shard ∙ are.count;
  each = each-set (IsShardOf capacity) shards i shard is are.each;
}

-- a shard stays one when a place in it is used
pub shard-used : (capacity place size : ℕ) (old new : Shelf) (gone : List ℕ) → capacity < 2 ^ 64 → size ≤ 2 ^ 63 → IsShardOf capacity old → new.capacity ≡ old.capacity → IsUsed old.capacity place size old.listings new.listings gone → IsShardOf capacity new
shard-used capacity place size old new gone fits small is same used =
    let sizes = ap total used.is ∙ total-cons (listing place size) used.stays in
    let within : IsWithin (capacity / 256) new.listings = elim used.fits [ inl little ↦ inl (omega (arith, little, is.part)) | inr none ↦ inr (omega (arith, ap length used.is, ap length none)) ] in
    let below : total new.listings < 2 ^ 64 = elim used.fits [ inl little ↦ omega (arith, little, is.part) | inr none ↦ omega (arith, sizes, ap total none) ] in
    record {
      part = same ∙ is.part;
      within = within;
      apart = apart-used old.capacity place size old.listings new.listings gone used is.apart;
      small = below;
    }

-- what an access changes
pub accessed_shard : (id size capacity : ℕ) (shards : List Shelf) (old new : Shelf) (gone ids : List ℕ) → AreShards capacity shards → old ≡ slice_index_or shards (id % 256) old → IsUsed old.capacity (id / 256) size old.listings new.listings gone → ids ≡ map (λ place. place * 256 + id % 256) gone → IsAccessed id size (recency_of capacity shards) (recency_of capacity (slice_set shards (id % 256) new)) ids
accessed_shard id size capacity shards old new gone ids are is used out =
    let lt : id % 256 < length shards = omega (arith, are.count) in
    let listings : Shelf → List Listing = λ s. s.listings in
    let part = shard_read capacity (id % 256) shards old are (omega arith) is in
    let at : slice_index_or (map listings shards) (id % 256) [] ≡ old.listings = get_or-map listings shards (id % 256) old [] lt ∙ ap listings (sym is) in
    record {
      capacity = refl;
      shard = new.listings;
      places = gone;
      used = subst (λ shard. IsUsed (capacity / 256) (id / 256) size shard new.listings gone) (sym at) (subst (λ part. IsUsed part (id / 256) size old.listings new.listings gone) part.part used);
      shards = map-set listings shards (id % 256) new;
      out = out;
    }

-- ---- shards that list nothing

abbrev pub IsEmptyShard : ℕ → Shelf → Type 0
IsEmptyShard capacity shard = shard ≡ record { capacity = capacity / 256; listings = [] }

pub fresh_shards : (capacity : ℕ) (shards : List Shelf) → length shards ≡ 256 → AllByRecursion (IsEmptyShard capacity) shards → AreShards capacity shards
fresh_shards capacity shards count each = record {
  count = count;
  each = each_weaker (IsEmptyShard capacity) (IsShardOf capacity) (λ s is. subst (IsShardOf capacity) (sym is) (record { part = refl; within = inr (omega arith); apart = tt; small = omega arith })) shards each;
}

pub fresh_unused : (capacity : ℕ) (shards : List Shelf) → length shards ≡ 256 → AllByRecursion (IsEmptyShard capacity) shards → IsUnused capacity (recency_of capacity shards)
fresh_unused capacity shards count each = record {
  capacity = refl;
  count = length-map shards (λ (s : Shelf). s.listings) ∙ count;
  empty = each_mapped (λ (s : Shelf). s.listings) (IsEmptyShard capacity) (λ shard. shard ≡ []) (λ s is. ap (λ (t : Shelf). t.listings) is) shards each;
}
