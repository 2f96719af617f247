-- Pairs of a key and an item, in the order of their keys.
use Rattle.std.specs.Prelude.{◌≡◌, ℕ, ◌+◌, ◌<◌, ◌≤◌, List, [], ◌∷◌, ◌++◌, length, take, drop, filter, ⊤}
use Rattle.std.specs.List.{AllByRecursion}
use Rattle.sled_base.specs.Order.{Bytes, is_below, IsBelow}
use Rattle.sled_node.specs.Limits.{bytes_limit, pairs_limit}

-- the limit of a key, a value, a bound and a name
abbrev pub IsWithinLimit : Bytes → Type 0
IsWithinLimit bytes = length bytes ≤ bytes_limit

-- each key is below those after it
abbrev pub IsAscending : {V : Type 0} → List (Bytes × V) → Type 0
IsAscending [] = ⊤
IsAscending (pair ∷ pairs) = AllByRecursion (λ later. IsBelow pair.0 later.0) pairs × IsAscending pairs

abbrev pub pairs_below : {V : Type 0} → Bytes → List (Bytes × V) → List (Bytes × V)
pairs_below key pairs = filter (λ pair. is_below pair.0 key) pairs

abbrev pub pairs_above : {V : Type 0} → Bytes → List (Bytes × V) → List (Bytes × V)
pairs_above key pairs = filter (λ pair. is_below key pair.0) pairs

-- the pairs with the key mapped to the item, all other pairs as before
abbrev pub set_pair : {V : Type 0} → Bytes → V → List (Bytes × V) → List (Bytes × V)
set_pair key item pairs = pairs_below key pairs ++ (key, item) ∷ pairs_above key pairs

-- the pairs without that key
abbrev pub del_pair : {V : Type 0} → Bytes → List (Bytes × V) → List (Bytes × V)
del_pair key pairs = pairs_below key pairs ++ pairs_above key pairs

-- the key is at place i: the pairs before it have lower keys, and those after it higher ones
pub record StandsAt {V : Type 0} (pairs : List (Bytes × V)) (key : Bytes) (i : ℕ) : Type 0 where
  pub within : i < length pairs
  pub before : take i pairs ≡ pairs_below key pairs
  pub after : drop (i + 1) pairs ≡ pairs_above key pairs

-- the key is missing, and would be inserted at place i
pub record IsGap {V : Type 0} (pairs : List (Bytes × V)) (key : Bytes) (i : ℕ) : Type 0 where
  pub within : i ≤ length pairs
  pub before : take i pairs ≡ pairs_below key pairs
  pub after : drop i pairs ≡ pairs_above key pairs

-- the stored pairs of a leaf or an index, whose items must fit
pub record HasPairs {V : Type 0} (fits : V → Type 0) (pairs : List (Bytes × V)) : Type 0 where
  pub few : length pairs ≤ pairs_limit
  pub ascending : IsAscending pairs
  pub keys : AllByRecursion (λ pair. IsWithinLimit pair.0) pairs
  pub items : AllByRecursion (λ pair. fits pair.1) pairs
