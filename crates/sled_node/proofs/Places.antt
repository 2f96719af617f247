-- Where a key stands among ascending pairs.
use Rattle.std.proofs.Common.{inl, inr, ◌≡◌, ℕ, zero, suc, ◌+◌, ◌<◌, ◌≤◌, Bool, true, false, cond, List, [], ◌∷◌, ◌++◌, length, get_or, set, take, drop, refl, sym, ap, subst, ◌∙◌, arith}
use Rattle.std.specs.Prelude.{filter, Result, Ok, Err, IfOk, IfErr}
use Rattle.std.specs.List.{AllByRecursion, AllWithin, HoldsAt}
use Rattle.std.specs.List.Sorted.{IsSortedBy, IsSearchInRange, IsBinarySearchResult}
use Rattle.std.specs.declared.cmp.Ordering.TheVariants.{Less, Equal, Greater}
use Rattle.std.specs.Cmp.Lexicographic.{nat_list_cmp_total}
use Rattle.std.specs.Ordering.{is_lt}
use Rattle.std.proofs.lemmas.Bool.{cases_lt}
use Rattle.std.proofs.lemmas.List.{set_split}
use Rattle.std.proofs.lemmas.List.Sorted.{searchable_from_sorted}
use Rattle.std.proofs.Math.Numerals.{add-one}
use Rattle.sled_base.specs.Order.{Bytes, bytes_cmp, is_below, IsBelow}
use Rattle.sled_base.specs.OrderLaws.{equal_is_same, not_below_itself, below_trans, above_is_below, below_is_above}
use Rattle.sled_node.specs.Pairs.{IsAscending, pairs_below, pairs_above, set_pair, StandsAt, IsGap}
use Rattle.sled_base.proofs.Each.{all_at}
use Rattle.sled_node.proofs.Ascending.{ascending_at, ascending_next}

-- what passes everywhere stays, and what passes nowhere goes
filter_all : {X : Type 0} (p : X → Bool) (xs : List X) → AllByRecursion (λ x. p x ≡ true) xs → filter p xs ≡ xs
filter_all p [] h = refl
filter_all p (x ∷ xs) h = rw (h.0) (ap (λ ys. x ∷ ys) (filter_all p xs h.1))

filter_none : {X : Type 0} (p : X → Bool) (xs : List X) → AllByRecursion (λ x. p x ≡ false) xs → filter p xs ≡ []
filter_none p [] h = refl
filter_none p (x ∷ xs) h = rw (h.0) (filter_none p xs h.1)

-- a fact of each element is another, where it follows
pub all_so : {X : Type 0} {P Q : X → Type 0} → ((x : X) → P x → Q x) → (xs : List X) → AllByRecursion P xs → AllByRecursion Q xs
all_so so [] h = tt
all_so so (x ∷ xs) h = (so x h.0, all_so so xs h.1)

-- a fact of each element before place i
front_all : {X : Type 0} (P : X → Type 0) (xs : List X) (i : ℕ) → i ≤ length xs → AllWithin P xs 0 i → AllByRecursion P (take i xs)
front_all P xs zero le h = tt
front_all P [] (suc i) le h = tt
front_all P (x ∷ xs) (suc i) le h = (h 0 x (omega arith) (omega arith), front_all P xs i (omega arith) (λ k d low high. h (suc k) d (omega arith) (omega arith)))

-- tests of two keys
is_below_true : (a b : Bytes) → IsBelow a b → is_below a b ≡ true
is_below_true a b h = ap is_lt h

is_below_false : (a b : Bytes) → IsBelow a b → is_below b a ≡ false
is_below_false a b h = ap is_lt (below_is_above a b h)

not_below : (o : _) → (o ≡ Less → ⊥) → is_lt o ≡ false
not_below Less h = absurd (h refl)
not_below Equal h = refl
not_below Greater h = refl

is_below_itself : (a : Bytes) → is_below a a ≡ false
is_below_itself a = not_below (bytes_cmp a a) (not_below_itself a)

module _ {V : Type 0} (key : Bytes) where
  -- all of the pairs are above
  pub all_above : (pairs : List (Bytes × V)) → AllByRecursion (λ pair. IsBelow key pair.0) pairs → (pairs_below key pairs ≡ []) × (pairs_above key pairs ≡ pairs)
  all_above pairs h =
      (filter_none (λ pair. is_below pair.0 key) pairs (all_so (λ pair lt. is_below_false key pair.0 lt) pairs h), filter_all (λ pair. is_below key pair.0) pairs (all_so (λ pair lt. is_below_true key pair.0 lt) pairs h))

  -- all of the pairs are below
  pub all_below : (pairs : List (Bytes × V)) → AllByRecursion (λ pair. IsBelow pair.0 key) pairs → (pairs_below key pairs ≡ pairs) × (pairs_above key pairs ≡ [])
  all_below pairs h =
      (filter_all (λ pair. is_below pair.0 key) pairs (all_so (λ pair lt. is_below_true pair.0 key lt) pairs h), filter_none (λ pair. is_below key pair.0) pairs (all_so (λ pair lt. is_below_false pair.0 key lt) pairs h))

  -- the first pair is below
  pub past : (pair : Bytes × V) (pairs : List (Bytes × V)) → IsBelow pair.0 key → (pairs_below key (pair ∷ pairs) ≡ pair ∷ pairs_below key pairs) × (pairs_above key (pair ∷ pairs) ≡ pairs_above key pairs)
  past pair pairs lt =
      (ap (λ b. cond b (pair ∷ pairs_below key pairs) (pairs_below key pairs)) (is_below_true pair.0 key lt), ap (λ b. cond b (pair ∷ pairs_above key pairs) (pairs_above key pairs)) (is_below_false pair.0 key lt))

  -- the pair at place i has the key
  pub stands : (pairs : List (Bytes × V)) (i : ℕ) → IsAscending pairs → i < length pairs → HoldsAt (λ pair. pair.0 ≡ key) pairs i → StandsAt pairs key i
  stands [] i ascending lt same = absurd (omega arith)
  stands (pair ∷ pairs) zero ascending lt same =
      let this = same pair in
      let others = all_above pairs (subst (λ k. AllByRecursion (λ later. IsBelow k later.0) pairs) this ascending.0) in
      let itself : is_below pair.0 key ≡ false = subst (λ k. is_below k key ≡ false) (sym this) (is_below_itself key) in
      let back : is_below key pair.0 ≡ false = subst (λ k. is_below key k ≡ false) (sym this) (is_below_itself key) in
      record {
        within = lt;
        before = sym (ap (λ b. cond b (pair ∷ pairs_below key pairs) (pairs_below key pairs)) itself ∙ others.0);
        after = sym (ap (λ b. cond b (pair ∷ pairs_above key pairs) (pairs_above key pairs)) back ∙ others.1);
      }
  stands (pair ∷ pairs) (suc i) ascending lt same =
      let rest = stands pairs i ascending.1 (omega arith) same in
      let step = past pair pairs (subst (IsBelow pair.0) (same pair) (all_at (λ later. IsBelow pair.0 later.0) pairs i pair ascending.0 (omega arith))) in
      record {
        within = lt;
        before = ap (λ ps. pair ∷ ps) rest.before ∙ sym step.0;
        after = ap (λ k. drop k (pair ∷ pairs)) (add-one (suc i)) ∙ ap (λ k. drop k pairs) (sym (add-one i)) ∙ rest.after ∙ sym step.1;
      }

  -- the pair at place i, if there is one, is above
  gap : (pairs : List (Bytes × V)) (i : ℕ) → IsAscending pairs → i ≤ length pairs → AllByRecursion (λ pair. IsBelow pair.0 key) (take i pairs) → (i < length pairs → HoldsAt (λ pair. IsBelow key pair.0) pairs i) → IsGap pairs key i
  gap [] zero ascending le before above = record { within = le; before = refl; after = refl }
  gap [] (suc i) ascending le before above = absurd (omega arith)
  gap (pair ∷ pairs) zero ascending le before above =
      let lt : IsBelow key pair.0 = above (omega arith) pair in
      let others = all_above (pair ∷ pairs) (lt, all_so (λ later more. below_trans key pair.0 later.0 lt more) pairs ascending.0) in
      record { within = omega arith; before = sym others.0; after = sym others.1 }
  gap (pair ∷ pairs) (suc i) ascending le before above =
      let rest = gap pairs i ascending.1 (omega arith) before.1 (λ lt. above (omega arith)) in
      let step = past pair pairs before.0 in
      record { within = le; before = ap (λ ps. pair ∷ ps) rest.before ∙ sym step.0; after = rest.after ∙ sym step.1 }

  -- ---- a search by halving, one step

  module _ (pairs : List (Bytes × V)) (ascending : IsAscending pairs) (middle : ℕ) (within : middle < length pairs) where
    -- the pair in the middle is below, so each before it is
    pub front_below : HoldsAt (λ pair. IsBelow pair.0 key) pairs middle → AllWithin (λ pair. IsBelow pair.0 key) pairs 0 (middle + 1)
    front_below here k d from to = elim (cases_lt k middle) [
      | inl lt ↦ below_trans (get_or pairs k d).0 (get_or pairs middle d).0 key (ascending_at pairs k middle d ascending lt within) (here d)
      | inr ge ↦ subst (λ n. IsBelow (get_or pairs n d).0 key) (let same : middle ≡ k = omega arith in same) (here d)
    ]

    -- it is above, so each behind it is
    pub back_above : HoldsAt (λ pair. IsBelow key pair.0) pairs middle → AllWithin (λ pair. IsBelow key pair.0) pairs middle (length pairs)
    back_above here k d from to = elim (cases_lt middle k) [
      | inl lt ↦ below_trans key (get_or pairs middle d).0 (get_or pairs k d).0 (here d) (ascending_at pairs middle k d ascending lt to)
      | inr ge ↦ subst (λ n. IsBelow key (get_or pairs n d).0) (let same : middle ≡ k = omega arith in same) (here d)
    ]

  -- the pairs before a place are below, and those from it on are above
  pub parted : (pairs : List (Bytes × V)) (i : ℕ) → IsAscending pairs → i ≤ length pairs → AllWithin (λ pair. IsBelow pair.0 key) pairs 0 i → AllWithin (λ pair. IsBelow key pair.0) pairs i (length pairs) → IsGap pairs key i
  parted pairs i ascending le below above =
      gap pairs i ascending le (front_all (λ pair. IsBelow pair.0 key) pairs i le below) (λ lt d. above i d (omega arith) lt)

  -- ascending pairs are sorted
  sorted : (pairs : List (Bytes × V)) → IsAscending pairs → IsSortedBy (λ a b. is_below a.0 b.0) pairs
  sorted pairs ascending k d low high =
      subst (λ i. is_below (get_or pairs i d).0 (get_or pairs k d).0 ≡ false) (sym (add-one k)) (is_below_false (get_or pairs k d).0 (get_or pairs (suc k) d).0 (ascending_next pairs k d ascending (omega arith)))

  module _ (pairs : List (Bytes × V)) (ascending : IsAscending pairs) where
    -- what a binary search for the key finds
    pub search_found : (r : Result ℕ ℕ) → IsSearchInRange r (length pairs) → IsBinarySearchResult (λ pair. bytes_cmp pair.0 key) pairs r → IfOk r (StandsAt pairs key)
    search_found (Ok i) bound found = stands pairs i ascending bound (λ d. equal_is_same (get_or pairs i d).0 key (found d))
    search_found (Err i) bound found = tt

    -- whose key it is
    pub search_same : (r : Result ℕ ℕ) → IsSearchInRange r (length pairs) → IsBinarySearchResult (λ pair. bytes_cmp pair.0 key) pairs r → IfOk r (HoldsAt (λ pair. pair.0 ≡ key) pairs)
    search_same (Ok i) bound found = λ d. equal_is_same (get_or pairs i d).0 key (found d)
    search_same (Err i) bound found = tt

    -- and where it finds none
    pub search_missing : (r : Result ℕ ℕ) → IsSearchInRange r (length pairs) → IsBinarySearchResult (λ pair. bytes_cmp pair.0 key) pairs r → IfErr r (IsGap pairs key)
    search_missing (Ok i) bound found = tt
    search_missing (Err i) bound found =
        let parted = found (searchable_from_sorted nat_list_cmp_total (λ pair. pair.0) pairs key (sorted pairs ascending)) in
        gap pairs i ascending bound (front_all (λ pair. IsBelow pair.0 key) pairs i bound parted.0) (λ lt d. above_is_below (get_or pairs i d).0 key (parted.1 i d (omega arith) lt))

  -- writing over the pair at the place
  pub set_at_place : (pairs : List (Bytes × V)) (item : V) (i : ℕ) → StandsAt pairs key i → set pairs i (key, item) ≡ set_pair key item pairs
  set_at_place pairs item i found =
      let pair : Bytes × V = (key, item) in
      set_split pairs i pair found.within ∙ ap (λ front. front ++ pair ∷ drop (suc i) pairs) found.before ∙ ap (λ k. pairs_below key pairs ++ pair ∷ drop k pairs) (sym (add-one i)) ∙ ap (λ back. pairs_below key pairs ++ pair ∷ back) found.after
