-- Places that are to be reached.
use Rattle.std.proofs.Common.{◌≡◌, ℕ, ◌<◌, ◌≤◌, Bool, true, false, not, List, [], ◌∷◌, length, get_or, map, refl, ap, sym, ◌∙◌, inl, inr, arith}
use Rattle.std.specs.BinaryHeap.{IsHeap, IsUpperBound, PopsGreatest}
use Rattle.std.specs.declared.cmp.Ordering.{Ordering}
use Rattle.std.specs.declared.cmp.Reverse.{Reverse}
use Rattle.std.specs.List.{AllByRecursion, list_all, list_any}
use Rattle.std.specs.List.Sorted.{IsPermutation}
use Rattle.std.specs.Ordering.{is_lt, nat_cmp}
use Rattle.std.proofs.lemmas.Bool.{cases_lt, lt-ltb}
use Rattle.std.specs.Prelude.{◌&&◌, ◌||◌, Option, Some, None, IfSome, IfNone}
use Rattle.std.proofs.lemmas.List.Sorted.{list_any-IsPermutation}

-- all pass where none fails
all-any : {X : Type 0} (p : X → Bool) (xs : List X) → list_all p xs ≡ not (list_any (λ x. not (p x)) xs)
all-any p [] = refl
all-any p (x ∷ xs) = by (p x) (all-any p xs)
  where
    by : (b : Bool) → list_all p xs ≡ not (list_any (λ x. not (p x)) xs) → (b && list_all p xs) ≡ not (not b || list_any (λ x. not (p x)) xs)
    by true h = h
    by false h = refl

-- whether all pass doesn't go by their order
pub all-permutation : {X : Type 0} (p : X → Bool) (xs ys : List X) → IsPermutation xs ys → list_all p xs ≡ list_all p ys
all-permutation p xs ys h = all-any p xs ∙ ap not (list_any-IsPermutation (λ x. not (p x)) xs ys h) ∙ sym (all-any p ys)

-- ---- the least of them

le-not_less : (m n : ℕ) → is_lt (nat_cmp m n) ≡ false → n ≤ m
le-not_less m n h =
    elim (cases_lt m n) [
      | inl lt ↦ absurd (let less = lt-ltb m n lt in let both = rw less at h in cc)
      | inr le ↦ le
    ]

-- what is before the least of them is before all
pub before-least : (at : ℕ) (least : Reverse ℕ) (xs : List (Reverse ℕ)) → at < least.0 → IsUpperBound (λ x y. nat_cmp y.0 x.0) least xs → AllByRecursion (λ n. at < n) (map (λ x. x.0) xs)
before-least at least [] lt h = tt
before-least at least (x ∷ xs) lt h = (let le = le-not_less x.0 least.0 h.0 in omega arith, before-least at least xs lt h.1)

-- both are the first
same-first : {X : Type 0} (xs : List X) (a b : X) → 0 < length xs → a ≡ get_or xs 0 a → b ≡ get_or xs 0 b → a ≡ b
same-first [] a b some is other = absurd (omega arith)
same-first (x ∷ xs) a b some is other = is ∙ sym other

-- the first of them, which passes, is taken away
pub all-popped : {X : Type 0} (p : X → Bool) (first : X) (xs ys zs : List X) (n : ℕ) (popped : Option X) → p first ≡ true → first ≡ get_or xs 0 first → n ≡ length xs → 0 < n → IfSome popped (λ x. x ≡ get_or xs 0 x) → IfSome popped (λ x. IsPermutation xs (x ∷ ys)) → IfNone popped (n ≡ 0)
    → list_all p xs ≡ list_all p zs → list_all p ys ≡ list_all p zs
all-popped p first xs ys zs n (Some x) passes is len some top h none same =
    ap (λ b. b && list_all p ys) (sym (ap p (same-first xs x first (omega arith) top is) ∙ passes)) ∙ sym (all-permutation p xs (x ∷ ys) h) ∙ same
all-popped p first xs ys zs n None passes is len some top h none same = absurd (omega (arith, none))

-- and the others are in order
pub order-popped : {X : Type 0} (R : X → X → Ordering) (xs ys : List X) (n : ℕ) (popped : Option X) → 0 < n → IfSome popped (λ x. PopsGreatest R xs x ys) → IfNone popped (n ≡ 0) → IsHeap R xs → IsHeap R ys
order-popped R xs ys n (Some x) some h none order = (h order).0
order-popped R xs ys n None some h none order = absurd (omega (arith, none))
