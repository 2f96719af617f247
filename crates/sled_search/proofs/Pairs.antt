-- What pairs have at a key.
use Rattle.std.proofs.Common.{◌≡◌, ◌≢◌, ◌⊎◌, inl, inr, ℕ, zero, suc, ◌<◌, Bool, true, false, List, [], ◌∷◌, Option, None, Some, slice_index_or, refl, subst, length, arith}
use Rattle.std.specs.List.{AllByRecursion, Contains}
use Rattle.std.specs.Option.{option_map}
use Rattle.std.specs.Prelude.{IfSome, IfNone}
use Rattle.std.specs.Str.{bytes_eq}
use Rattle.std.proofs.lemmas.Slice.Eq.{bytes_eq-Decides}
use Rattle.sled_base.specs.Order.{Bytes, IsBelow}
use Rattle.sled_base.specs.OrderLaws.{below_trans, not_below_itself}
use Rattle.sled_node.specs.Pairs.{IsAscending}
use Rattle.sled_search.specs.Map.{at_key}

false_from : (b : Bool) → (b ≡ true → ⊥) → b ≡ false
false_from true h = absurd (h refl)
false_from false h = refl

pub eq-same : (a : Bytes) → bytes_eq a a ≡ true
eq-same a = (bytes_eq-Decides a a).1 refl

pub eq-other : (a b : Bytes) → a ≢ b → bytes_eq a b ≡ false
eq-other a b h = false_from (bytes_eq a b) (λ same. h ((bytes_eq-Decides a b).0 same))

pub same_or_not : (a b : Bytes) → (a ≡ b) ⊎ (a ≢ b)
same_or_not a b = by (bytes_eq a b) (bytes_eq-Decides a b)
  where
    by : (e : Bool) → (e ≡ true → a ≡ b) × (a ≡ b → e ≡ true) → (a ≡ b) ⊎ (a ≢ b)
    by true d = inl (d.0 refl)
    by false d = inr (λ same. absurd (let e = d.1 same in cc))

pub all-weaker : {X : Type 0} (P Q : X → Type 0) → ((x : X) → P x → Q x) → (xs : List X) → AllByRecursion P xs → AllByRecursion Q xs
all-weaker P Q f [] h = tt
all-weaker P Q f (x ∷ xs) h = (f x h.0, all-weaker P Q f xs h.1)

module _ {V : Type 0} where
  -- what is above a key is above those below it
  pub all-above : (low key : Bytes) (pairs : List (Bytes × V)) → IsBelow low key → AllByRecursion (λ later. IsBelow key later.0) pairs → AllByRecursion (λ later. IsBelow low later.0) pairs
  all-above low key [] lt all = tt
  all-above low key (pair ∷ pairs) lt all = (below_trans low key pair.0 lt all.0, all-above low key pairs lt all.1)

  pub at-lacks : (pairs : List (Bytes × V)) (key : Bytes) → AllByRecursion (λ pair. pair.0 ≢ key) pairs → at_key pairs key ≡ None
  at-lacks [] key h = refl
  at-lacks (pair ∷ pairs) key h = rw (eq-other pair.0 key h.0) (at-lacks pairs key h.1)

  above-lacks : (pairs : List (Bytes × V)) (key : Bytes) (item : V) (k : ℕ) → AllByRecursion (λ later. IsBelow key later.0) pairs → k < length pairs → slice_index_or pairs k (key, item) ≡ (key, item) → ⊥
  above-lacks [] key item k h lt is = absurd (omega arith)
  above-lacks (pair ∷ pairs) key item zero h lt is = not_below_itself key (subst (λ (p : Bytes × V). IsBelow key p.0) is h.0)
  above-lacks (pair ∷ pairs) key item (suc k) h lt is = above-lacks pairs key item k h.1 (omega arith) is

  at-place : (pairs : List (Bytes × V)) (key : Bytes) (item : V) (k : ℕ) → IsAscending pairs → k < length pairs → slice_index_or pairs k (key, item) ≡ (key, item) → at_key pairs key ≡ Some item
  at-place [] key item k up lt is = absurd (omega arith)
  at-place (pair ∷ pairs) key item zero up lt is = rw (is, eq-same key) refl
  at-place (pair ∷ pairs) key item (suc k) up lt is = rw (eq-other pair.0 key (λ same. above-lacks pairs key item k (subst (λ (b : Bytes). AllByRecursion (λ later. IsBelow b later.0) pairs) same up.0) (omega arith) is)) (at-place pairs key item k up.1 (omega arith) is)

  pub at-has : (pairs : List (Bytes × V)) (key : Bytes) (item : V) → IsAscending pairs → Contains pairs (key, item) → at_key pairs key ≡ Some item
  at-has pairs key item up (k, lt, is) = at-place pairs key item k up lt is

-- what the answer of a look-up says
pub at-answer : {V : Type 0} (pairs : List (Bytes × V)) (key : Bytes) (value : Option Bytes) (Is : Bytes → V) → IsAscending pairs → IfSome value (λ v. Contains pairs (key, Is v)) → IfNone value (AllByRecursion (λ pair. pair.0 ≢ key) pairs) → at_key pairs key ≡ option_map Is value
at-answer pairs key None Is up has lacks = at-lacks pairs key lacks
at-answer pairs key (Some v) Is up has lacks = at-has pairs key (Is v) up has
