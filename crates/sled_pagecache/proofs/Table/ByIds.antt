-- Lists whose items are so by their ids.
use Rattle.std.proofs.Common.{◌≡◌, ◌≤◌, ℕ, zero, suc, List, [], ◌∷◌, ◌++◌, length, slice_get, slice_set, slice_index_or, Option, Some, refl, subst, arith}
use Rattle.std.proofs.lemmas.Option.{none-some, same_Some, slice_get_within, get_or_from_slice_get}
use Rattle.std.specs.Option.{IfSome}
use Rattle.std.specs.List.{AllByRecursion, AllZip}
use Rattle.sled_pagecache.specs.Logged.{AllById, FitsId}
use Rattle.sled_log.specs.Inside.ZipLaws.{zip-at}

module _ {X : Type 0} where
  pub at-id : (P : ℕ → X → Type 0) (xs : List X) (i : ℕ) (x : X) → AllById P xs → slice_get xs i ≡ Some x → P i x
  at-id P xs i x all at = subst (λ (o : Option X). IfSome o (P i)) at (all i)

  -- another item is set
  pub set-by-id : (P : ℕ → X → Type 0) (xs : List X) (i : ℕ) (x : X) → AllById P xs → P i x → (k : ℕ) → IfSome (slice_get (slice_set xs i x) k) (P k)
  set-by-id P [] i x all so k = tt
  set-by-id P (y ∷ xs) zero x all so k = grind (arith, all k)
  set-by-id P (y ∷ xs) (suc i) x all so zero = all 0
  set-by-id P (y ∷ xs) (suc i) x all so (suc k) = set-by-id (λ n. P (suc n)) xs i x (λ n. all (suc n)) so k

  -- one is added
  pub add-by-id : (P : ℕ → X → Type 0) (xs : List X) (x : X) → AllById P xs → P (length xs) x → (k : ℕ) → IfSome (slice_get (xs ++ x ∷ []) k) (P k)
  add-by-id P [] x all so k = grind arith
  add-by-id P (y ∷ xs) x all so zero = all 0
  add-by-id P (y ∷ xs) x all so (suc k) = add-by-id (λ n. P (suc n)) xs x (λ n. all (suc n)) so k

  -- where the id says nothing
  pub all-by-id : (P : X → Type 0) (xs : List X) → AllByRecursion P xs → (k : ℕ) → IfSome (slice_get xs k) P
  all-by-id P [] all k = tt
  all-by-id P (x ∷ xs) all k = grind (arith, all-by-id P xs all.1)

  pub by-id-all : (P : X → Type 0) (xs : List X) → ((k : ℕ) → IfSome (slice_get xs k) P) → AllByRecursion P xs
  by-id-all P [] all = tt
  by-id-all P (x ∷ xs) all = (all 0, by-id-all P xs (λ k. all (suc k)))

  -- from 2 on the items are as the others
  pub past-two : (First Second Other : X → Type 0) (id : ℕ) (x : X) → 2 ≤ id → (Other x → FitsId First Second Other id x) × (FitsId First Second Other id x → Other x)
  past-two First Second Other id x h1 = grind arith

-- ---- lists side by side

module _ {A B : Type 0} (R : A → B → Type 0) where
  pub zip-first : (xs : List A) (ys : List B) (i : ℕ) (x : A) → AllZip R xs ys → slice_get xs i ≡ Some x → (y : B) × (slice_get ys i ≡ Some y) × R x y
  zip-first [] ys i x zip at = absurd (none-some x at)
  zip-first (z ∷ xs) [] i x zip at = absurd zip
  zip-first (z ∷ xs) (y ∷ ys) zero x zip at = (y, refl, subst (λ (z : A). R z y) (same_Some z x at) zip.0)
  zip-first (z ∷ xs) (y ∷ ys) (suc i) x zip at = zip-first xs ys i x zip.1 at

  pub zip-second : (xs : List A) (ys : List B) (i : ℕ) (y : B) (d : A) → AllZip R xs ys → slice_get ys i ≡ Some y → R (slice_index_or xs i d) y
  zip-second xs ys i y d zip at = subst (R (slice_index_or xs i d)) (get_or_from_slice_get ys i y y at) (zip-at R i xs ys d y zip (slice_get_within ys i y at))
