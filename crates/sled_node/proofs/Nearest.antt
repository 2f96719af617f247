-- The pairs on either side of a whole key, and the nearest of them.
use Rattle.std.proofs.Common.{◌≡◌, ◌≢◌, ℕ, zero, suc, ◌+◌, ◌<◌, Bool, true, false, cond, List, [], ◌∷◌, ◌++◌, length, get_or, take, drop, refl, sym, subst, arith}
use Rattle.std.specs.Prelude.{filter, slice_get, Some}
use Rattle.std.specs.List.{AllByRecursion, HoldsAt}
use Rattle.std.specs.Ordering.{is_lt}
use Rattle.std.specs.declared.cmp.Ordering.{Ordering}
use Rattle.std.specs.declared.cmp.Ordering.TheVariants.{Less, Equal, Greater}
use Rattle.std.proofs.lemmas.List.{take-append-drop}
use Rattle.std.proofs.lemmas.Option.{get_or_from_slice_get}
use Rattle.std.proofs.Math.Numerals.{add-one}
use Rattle.sled_base.specs.Order.{Bytes, bytes_cmp, is_below, IsBelow, IsAtMost}
use Rattle.sled_base.specs.OrderLaws.{below_trans, not_below_itself}
use Rattle.sled_node.specs.Node.{Item, Value, Child, WholeNode}
use Rattle.sled_node.specs.Pairs.{IsAscending, pairs_below, pairs_above, StandsAt, IsGap}
use Rattle.sled_node.specs.Neighbours.{IsCount, IsLeast, IsGreatest}
use Rattle.sled_node.proofs.Places.{all_so}
use Rattle.sled_base.proofs.Each.{all_at}
use Rattle.sled_node.proofs.Ascending.{all_at_front, all_more}

-- ---- orders

less_than : (o : Ordering) → is_lt o ≡ true → o ≡ Less
less_than Less e = refl
less_than Equal e = absurd cc
less_than Greater e = absurd cc

below_at_most : (a b : Bytes) → IsBelow a b → IsAtMost a b
below_at_most a b lt gt = not_below_itself a (below_trans a b a lt gt)

same_at_most : (a b : Bytes) → a ≡ b → IsAtMost a b
same_at_most a b is gt = not_below_itself b (subst (IsBelow b) is gt)

below_differs : (a b : Bytes) → IsBelow a b → a ≢ b
below_differs a b lt is = not_below_itself b (subst (λ c. IsBelow c b) is lt)

-- ---- what is before a place, and what is from it on

passed_or : {X : Type 0} (P : X → Type 0) (b : Bool) (x : X) (xs : List X) → (b ≡ true → P x) → AllByRecursion P xs → AllByRecursion P (cond b (x ∷ xs) xs)
passed_or P true x xs so rest = (so refl, rest)
passed_or P false x xs so rest = rest

-- what stays has passed
passed : {X : Type 0} (p : X → Bool) (xs : List X) → AllByRecursion (λ x. p x ≡ true) (filter p xs)
passed p [] = tt
passed p (x ∷ xs) = passed_or (λ y. p y ≡ true) (p x) x (filter p xs) (λ e. e) (passed p xs)

module _ {X : Type 0} (P : X → Type 0) where
  all_joined : (xs ys : List X) → AllByRecursion P xs → AllByRecursion P ys → AllByRecursion P (xs ++ ys)
  all_joined [] ys front back = back
  all_joined (x ∷ xs) ys front back = (front.0, all_joined xs ys front.1 back)

  -- a fact of what is before place i and of what is from it on
  all_around : (xs : List X) (i : ℕ) → AllByRecursion P (take i xs) → AllByRecursion P (drop i xs) → AllByRecursion P xs
  all_around xs i front back = subst (AllByRecursion P) (take-append-drop i xs) (all_joined (take i xs) (drop i xs) front back)

  -- one more from place i on
  one_behind : (xs : List X) (i : ℕ) → i < length xs → HoldsAt P xs i → AllByRecursion P (drop (suc i) xs) → AllByRecursion P (drop i xs)
  one_behind [] i lt here back = absurd (omega arith)
  one_behind (x ∷ xs) zero lt here back = (here x, back)
  one_behind (x ∷ xs) (suc i) lt here back = one_behind xs i (omega arith) here back

-- ---- what a search for the key tells

module _ (key : Bytes) (pairs : List (Bytes × Item)) where
  all_below : AllByRecursion (λ pair. IsBelow pair.0 key) (pairs_below key pairs)
  all_below = all_so (λ pair e. less_than (bytes_cmp pair.0 key) e) (pairs_below key pairs) (passed (λ pair. is_below pair.0 key) pairs)

  all_above : AllByRecursion (λ pair. IsBelow key pair.0) (pairs_above key pairs)
  all_above = all_so (λ pair e. less_than (bytes_cmp key pair.0) e) (pairs_above key pairs) (passed (λ pair. is_below key pair.0) pairs)

  -- a missing key
  module _ (i : ℕ) (gap : IsGap pairs key i) where
    front_below : AllByRecursion (λ pair. IsBelow pair.0 key) (take i pairs)
    front_below = subst (AllByRecursion (λ pair. IsBelow pair.0 key)) (sym gap.before) all_below

    back_above : AllByRecursion (λ pair. IsBelow key pair.0) (drop i pairs)
    back_above = subst (AllByRecursion (λ pair. IsBelow key pair.0)) (sym gap.after) all_above

    pub gap_below : IsCount (λ other. IsBelow other key) (λ other. IsAtMost key other) pairs i
    gap_below = record { within = gap.within; front = front_below; back = all_so (λ pair lt. below_at_most key pair.0 lt) (drop i pairs) back_above }

    pub gap_up_to : IsCount (λ other. IsAtMost other key) (λ other. IsBelow key other) pairs i
    gap_up_to = record { within = gap.within; front = all_so (λ pair lt. below_at_most pair.0 key lt) (take i pairs) front_below; back = back_above }

    pub gap_lacks : AllByRecursion (λ pair. pair.0 ≢ key) pairs
    gap_lacks = all_around (λ pair. pair.0 ≢ key) pairs i (all_so (λ pair lt. below_differs pair.0 key lt) (take i pairs) front_below) (all_so (λ pair lt is. below_differs key pair.0 lt (sym is)) (drop i pairs) back_above)

  -- a key that is there
  module _ (i : ℕ) (at : StandsAt pairs key i) (same : HoldsAt (λ pair. pair.0 ≡ key) pairs i) where
    others_below : AllByRecursion (λ pair. IsBelow pair.0 key) (take i pairs)
    others_below = subst (AllByRecursion (λ pair. IsBelow pair.0 key)) (sym at.before) all_below

    others_above : AllByRecursion (λ pair. IsBelow key pair.0) (drop (i + 1) pairs)
    others_above = subst (AllByRecursion (λ pair. IsBelow key pair.0)) (sym at.after) all_above

    pub found_below : IsCount (λ other. IsBelow other key) (λ other. IsAtMost key other) pairs i
    found_below = let after = rw add-one at others_above in record {
      within = omega (arith, at.within);
      front = others_below;
      back = one_behind (λ pair. IsAtMost key pair.0) pairs i at.within (λ d. same_at_most key (get_or pairs i d).0 (sym (same d))) (all_so (λ pair lt. below_at_most key pair.0 lt) (drop (suc i) pairs) after);
    }

    pub found_up_to : IsCount (λ other. IsAtMost other key) (λ other. IsBelow key other) pairs (i + 1)
    found_up_to = record {
      within = omega (arith, at.within);
      front = rw add-one (all_more (λ pair. IsAtMost pair.0 key) pairs i (key, Child 0) (all_so (λ pair lt. below_at_most pair.0 key lt) (take i pairs) others_below) at.within (same_at_most (get_or pairs i (key, Child 0)).0 key (same (key, Child 0))));
      back = others_above;
    }

-- ---- the nearest

-- the first pair of the rest
first_of_rest : {X : Type 0} (P : X → Type 0) (xs : List X) (i : ℕ) (d : X) → i < length xs → AllByRecursion P (drop i xs) → P (get_or xs i d)
first_of_rest P [] i d lt back = absurd (omega arith)
first_of_rest P (x ∷ xs) zero d lt back = back.0
first_of_rest P (x ∷ xs) (suc i) d lt back = first_of_rest P xs i d (omega arith) back

module _ (IsSuch : Bytes → Type 0) where
  -- where no pair before place i has such a key, the one there has the least
  least_there : (pairs : List (Bytes × Item)) (i : ℕ) (d : Bytes × Item) → IsAscending pairs → i < length pairs → AllByRecursion (λ pair. IsSuch pair.0 → ⊥) (take i pairs) → AllByRecursion (λ other. IsSuch other.0 → IsAtMost (get_or pairs i d).0 other.0) pairs
  least_there [] i d ascending lt front = absurd (omega arith)
  least_there (pair ∷ pairs) zero d ascending lt front =
      (λ such. same_at_most pair.0 pair.0 refl, all_so (λ other below such. below_at_most pair.0 other.0 below) pairs ascending.0)
  least_there (pair ∷ pairs) (suc i) d ascending lt front =
      (λ such. absurd (front.0 such), least_there pairs i d ascending.1 (omega arith) front.1)

  -- where no pair behind place i has such a key, the one there has the greatest
  greatest_there : (pairs : List (Bytes × Item)) (i : ℕ) (d : Bytes × Item) → IsAscending pairs → i < length pairs → AllByRecursion (λ pair. IsSuch pair.0 → ⊥) (drop (suc i) pairs) → AllByRecursion (λ other. IsSuch other.0 → IsAtMost other.0 (get_or pairs i d).0) pairs
  greatest_there [] i d ascending lt back = absurd (omega arith)
  greatest_there (pair ∷ pairs) zero d ascending lt back =
      (λ such. same_at_most pair.0 pair.0 refl, all_so (λ other none such. absurd (none such)) pairs back)
  greatest_there (pair ∷ pairs) (suc i) d ascending lt back =
      (λ such. below_at_most pair.0 (get_or pairs i d).0 (all_at (λ later. IsBelow pair.0 later.0) pairs i d ascending.0 (omega arith)), greatest_there pairs i d ascending.1 (omega arith) back)

  module _ (n : WholeNode) (i : ℕ) (pair : Bytes × Bytes) (ascending : IsAscending n.pairs) (lt : i < length n.pairs) (is : slice_get n.pairs i ≡ Some (pair.0, Value pair.1)) where
    abbrev held : Bytes × Item
    held = (pair.0, Value pair.1)

    here : get_or n.pairs i held ≡ held
    here = get_or_from_slice_get n.pairs i held held is

    pub is_least : IsCount (λ key. IsSuch key → ⊥) IsSuch n.pairs i → IsLeast IsSuch n pair
    is_least count = record {
      there = (i, lt, here);
      such = subst (λ (other : Bytes × Item). IsSuch other.0) here (first_of_rest (λ other. IsSuch other.0) n.pairs i held lt count.back);
      least = subst (λ (this : Bytes × Item). AllByRecursion (λ other. IsSuch other.0 → IsAtMost this.0 other.0) n.pairs) here (least_there n.pairs i held ascending lt count.front);
    }

    pub is_greatest : IsCount IsSuch (λ key. IsSuch key → ⊥) n.pairs (suc i) → IsGreatest IsSuch n pair
    is_greatest count = record {
      there = (i, lt, here);
      such = subst (λ (other : Bytes × Item). IsSuch other.0) here (all_at_front (λ other. IsSuch other.0) n.pairs i held count.front lt);
      greatest = subst (λ (this : Bytes × Item). AllByRecursion (λ other. IsSuch other.0 → IsAtMost other.0 this.0) n.pairs) here (greatest_there n.pairs i held ascending lt count.back);
    }
