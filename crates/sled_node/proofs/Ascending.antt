-- Testing that pairs rise, one after the other.
use Rattle.std.proofs.Common.{◌≡◌, ℕ, zero, suc, ◌+◌, ◌-◌, ◌<◌, ◌≤◌, List, [], ◌∷◌, length, get_or, take, ap, sym, subst, ◌∙◌, arith}
use Rattle.std.proofs.lemmas.List.{get_or_default}
use Rattle.std.proofs.Math.Numerals.{add-one}
use Rattle.std.specs.List.{AllByRecursion}
use Rattle.sled_base.specs.Order.{Bytes, IsBelow}
use Rattle.sled_base.specs.OrderLaws.{below_trans}
use Rattle.sled_node.specs.Pairs.{IsAscending}
use Rattle.sled_base.proofs.Each.{all_at}

-- one more element, and one of them
pub all_more : {X : Type 0} (P : X → Type 0) (xs : List X) (j : ℕ) (d : X) → AllByRecursion P (take j xs) → j < length xs → P (get_or xs j d) → AllByRecursion P (take (suc j) xs)
all_more P [] j d h lt here = absurd (omega arith)
all_more P (x ∷ xs) zero d h lt here = (here, tt)
all_more P (x ∷ xs) (suc j) d h lt here = (h.0, all_more P xs j d h.1 (omega arith) here)

pub all_at_front : {X : Type 0} (P : X → Type 0) (xs : List X) (j : ℕ) (d : X) → AllByRecursion P (take (suc j) xs) → j < length xs → P (get_or xs j d)
all_at_front P [] j d h lt = absurd (omega arith)
all_at_front P (x ∷ xs) zero d h lt = h.0
all_at_front P (x ∷ xs) (suc j) d h lt = all_at_front P xs j d h.1 (omega arith)

module _ {V : Type 0} where
  -- the next key is above the last one
  ascending_more : (xs : List (Bytes × V)) (j : ℕ) (d : Bytes × V) → IsAscending (take (suc j) xs) → suc j < length xs → IsBelow (get_or xs j d).0 (get_or xs (suc j) d).0 → IsAscending (take (suc (suc j)) xs)
  ascending_more [] j d h lt below = absurd (omega arith)
  ascending_more (x ∷ []) j d h lt below = absurd (omega arith)
  ascending_more (x ∷ y ∷ xs) zero d h lt below = ((below, tt), (tt, tt))
  ascending_more (x ∷ xs) (suc j) d h lt below =
      let last = all_at_front (λ later. IsBelow x.0 later.0) xs j d h.0 (omega arith) in
      (all_more (λ later. IsBelow x.0 later.0) xs (suc j) d h.0 (omega arith) (below_trans x.0 (get_or xs j d).0 (get_or xs (suc j) d).0 last below), ascending_more xs j d h.1 (omega arith) below)

  -- among ascending pairs each key is below every later one
  pub ascending_at : (xs : List (Bytes × V)) (i j : ℕ) (d : Bytes × V) → IsAscending xs → i < j → j < length xs → IsBelow (get_or xs i d).0 (get_or xs j d).0
  ascending_at [] i j d h lt within = absurd (omega arith)
  ascending_at (x ∷ xs) i zero d h lt within = absurd (omega arith)
  ascending_at (x ∷ xs) zero (suc j) d h lt within = all_at (λ later. IsBelow x.0 later.0) xs j d h.0 (omega arith)
  ascending_at (x ∷ xs) (suc i) (suc j) d h lt within = ascending_at xs i j d h.1 (omega arith) (omega arith)

  -- among ascending pairs each key is below the next
  pub ascending_next : (xs : List (Bytes × V)) (j : ℕ) (d : Bytes × V) → IsAscending xs → suc j < length xs → IsBelow (get_or xs j d).0 (get_or xs (suc j) d).0
  ascending_next [] j d h lt = absurd (omega arith)
  ascending_next (x ∷ xs) zero d h lt = all_at (λ later. IsBelow x.0 later.0) xs zero d h.0 (omega arith)
  ascending_next (x ∷ xs) (suc j) d h lt = ascending_next xs j d h.1 (omega arith)

  -- the same at a place i of 1 or more, whatever stands for a pair past the end
  at_default : (xs : List (Bytes × V)) (j : ℕ) (a b : Bytes × V) → suc j < length xs → get_or xs (suc j - 1) a ≡ get_or xs j b
  at_default xs j a b lt = let down : suc j - 1 ≡ j = omega arith in ap (λ k. get_or xs k a) down ∙ get_or_default xs j a b (omega arith)

  pub ascending_here : (xs : List (Bytes × V)) (i : ℕ) (a b : Bytes × V) → 1 ≤ i → i < length xs → IsAscending (take i xs) → IsBelow (get_or xs (i - 1) a).0 (get_or xs i b).0 → IsAscending (take (i + 1) xs)
  ascending_here xs zero a b one lt ascending below = absurd (omega arith)
  ascending_here xs (suc j) a b one lt ascending below =
      rw add-one (ascending_more xs j b ascending lt (subst (λ (p : Bytes × V). IsBelow p.0 (get_or xs (suc j) b).0) (at_default xs j a b lt) below))

  pub must_rise_here : (xs : List (Bytes × V)) (i : ℕ) (a b : Bytes × V) → 1 ≤ i → i < length xs → IsAscending xs → IsBelow (get_or xs (i - 1) a).0 (get_or xs i b).0
  must_rise_here xs zero a b one lt ascending = absurd (omega arith)
  must_rise_here xs (suc j) a b one lt ascending =
      subst (λ (p : Bytes × V). IsBelow p.0 (get_or xs (suc j) b).0) (sym (at_default xs j a b lt)) (ascending_next xs j b ascending lt)
