-- What lists have at a place once one item was set, or one was put behind them.
use Rattle.std.proofs.Common.{◌≡◌, ◌≢◌, ◌==◌, ℕ, zero, suc, Bool, true, false, List, [], ◌∷◌, ◌++◌, length, map, Some, slice_get, slice_set, refl, sym, ◌∙◌, ap, arith}
use Rattle.std.proofs.lemmas.Bool.{ne_eqb}
use Rattle.std.proofs.lemmas.List.{set-get_or}
use Rattle.std.proofs.lemmas.Option.{get_or_from_slice_get, slice_get-map, slice_get_within}
use Rattle.std.specs.Option.{option_map}
use Rattle.std.specs.Prelude.{MatchBool}

pub split : {A B X : Type 0} (test : Bool) → MatchBool test A B → (test ≡ true → A → X) → (test ≡ false → B → X) → X
split true h where_true where_false = where_true refl h
split false h where_true where_false = where_false refl h

pub map-at : {A B : Type 0} (f : A → B) (xs : List A) (i : ℕ) (x : A) → slice_get xs i ≡ Some x → slice_get (map f xs) i ≡ Some (f x)
map-at f xs i x at = slice_get-map f xs i ∙ ap (option_map f) at

pub map-sets : {A B : Type 0} (f : A → B) (xs : List A) (i : ℕ) (x : A) → map f (slice_set xs i x) ≡ slice_set (map f xs) i (f x)
map-sets f [] i x = refl
map-sets f (y ∷ xs) zero x = refl
map-sets f (y ∷ xs) (suc i) x = ap (λ ys. f y ∷ ys) (map-sets f xs i x)

pub map-pushes : {A B : Type 0} (f : A → B) (xs : List A) (x : A) → map f (xs ++ x ∷ []) ≡ map f xs ++ f x ∷ []
map-pushes f [] x = refl
map-pushes f (y ∷ xs) x = ap (λ ys. f y ∷ ys) (map-pushes f xs x)

pub long-map : {A B : Type 0} (f : A → B) (xs : List A) → length (map f xs) ≡ length xs
long-map f [] = refl
long-map f (x ∷ xs) = ap suc (long-map f xs)

pub set-at : {A : Type 0} (xs : List A) (i : ℕ) (x y : A) → slice_get xs i ≡ Some x → slice_get (slice_set xs i y) i ≡ Some y
set-at [] i x y at = absurd (let e = at in cc)
set-at (z ∷ xs) zero x y at = refl
set-at (z ∷ xs) (suc i) x y at = set-at xs i x y at

pub other-at : {A : Type 0} (xs : List A) (i j : ℕ) (y : A) → j ≢ i → slice_get (slice_set xs i y) j ≡ slice_get xs j
other-at [] i j y apart = refl
other-at (z ∷ xs) zero zero y apart = absurd (apart refl)
other-at (z ∷ xs) zero (suc j) y apart = refl
other-at (z ∷ xs) (suc i) zero y apart = refl
other-at (z ∷ xs) (suc i) (suc j) y apart = other-at xs i j y (λ same. apart (ap suc same))

-- what is put back leaves the list
pub put-back : {A : Type 0} (xs : List A) (i : ℕ) (x : A) → slice_get xs i ≡ Some x → slice_set xs i x ≡ xs
put-back xs i x at = ap (λ y. slice_set xs i y) (sym (get_or_from_slice_get xs i x x at)) ∙ set-get_or xs i x

-- a place that has something isn't that behind the list
pub within : {A : Type 0} (xs : List A) (i : ℕ) (x : A) → slice_get xs i ≡ Some x → (i == length xs) ≡ false
within xs i x at = ne_eqb i (length xs) (λ e. absurd (let lt = slice_get_within xs i x at in omega (arith, e, lt)))

pub behind-at : {A : Type 0} (xs : List A) (y : A) → slice_get (xs ++ y ∷ []) (length xs) ≡ Some y
behind-at [] y = refl
behind-at (x ∷ xs) y = behind-at xs y

pub before-at : {A : Type 0} (xs : List A) (y : A) (j : ℕ) (x : A) → slice_get xs j ≡ Some x → slice_get (xs ++ y ∷ []) j ≡ Some x
before-at [] y j x at = absurd (let e = at in cc)
before-at (z ∷ xs) y zero x at = at
before-at (z ∷ xs) y (suc j) x at = before-at xs y j x at
