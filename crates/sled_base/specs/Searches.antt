-- The position of a key in a sorted list of keys, which may hold a key more than once.
use Rattle.std.specs.Prelude.{◌≡◌, ◌≢◌, ℕ, ◌+◌, ◌<◌, List, [], ◌∷◌, length, filter, ⊤}
use Rattle.std.specs.List.{AllByRecursion, AllWithin, HoldsAt}
use Rattle.std.specs.List.Sorted.{IsPartitionPoint}
use Rattle.sled_base.specs.Order.{Bytes, is_below, IsBelow, IsAtMost}

-- no key is above a later one
abbrev pub IsSorted : List Bytes → Type 0
IsSorted [] = ⊤
IsSorted (key ∷ keys) = AllByRecursion (λ later. IsAtMost key later) keys × IsSorted keys

-- how many of the keys are below the given one
abbrev pub count_below : Bytes → List Bytes → ℕ
count_below key keys = length (filter (λ other. is_below other key) keys)

-- the first n of the keys aren't above the given one, and the others are
abbrev pub IsCountAtMost : Bytes → List Bytes → ℕ → Type 0
IsCountAtMost key keys n = IsPartitionPoint (λ other. IsAtMost other key) (λ other. IsBelow key other) keys n

-- the key is at index i and at no greater index
pub record IsLastEqual (key : Bytes) (keys : List Bytes) (i : ℕ) : Type 0 where
  pub within : i < length keys
  pub here : HoldsAt (λ other. other ≡ key) keys i
  pub behind : AllWithin (λ other. other ≢ key) keys (i + 1) (length keys)

-- the key at index i isn't above the given one, and those at greater indices are
pub record IsLastAtMost (key : Bytes) (keys : List Bytes) (i : ℕ) : Type 0 where
  pub within : i < length keys
  pub here : HoldsAt (λ other. IsAtMost other key) keys i
  pub behind : AllWithin (λ other. IsBelow key other) keys (i + 1) (length keys)
