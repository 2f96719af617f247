-- Where a key stands among sorted keys, from how many of them aren't above it.
use Rattle.std.proofs.Common.{inl, inr, ◌≡◌, ◌≢◌, ℕ, zero, suc, ◌+◌, ◌-◌, ◌<◌, ◌≤◌, ◌↔◌, Bool, true, false, List, [], ◌∷◌, length, get_or, map, refl, sym, ap, subst, ◌∙◌, arith}
use Rattle.std.specs.Prelude.{All, IsTrue, nat_eq}
use Rattle.std.specs.List.{AllByRecursion, AllWithin, AllAdjacentBelow, IsAllAdjacentAnswer, HoldsAt}
use Rattle.std.specs.List.Sorted.{IsPartitionedBy, IsPartitionPoint}
use Rattle.std.specs.declared.cmp.Ordering.{Ordering}
use Rattle.std.specs.declared.cmp.Ordering.TheVariants.{Less, Equal, Greater}
use Rattle.std.specs.Ordering.{is_lt, is_le}
use Rattle.std.specs.Cmp.Lexicographic.{pointwise, nat_list_eq_equiv}
use Rattle.std.proofs.lemmas.Bool.{cases_lt}
use Rattle.std.proofs.lemmas.List.{get_or-map, length-map, map-id}
use Rattle.sled_base.specs.Order.{Bytes, bytes_cmp, is_below, IsBelow, IsAtMost}
use Rattle.sled_base.specs.OrderLaws.{not_below_itself, above_is_below, below_is_above, below_is_at_most, at_most_trans, below_or_same, at_most_below_trans}
use Rattle.sled_base.proofs.Each.{all_at}
use Rattle.sled_base.specs.Searches.{IsSorted, IsCountAtMost, IsLastEqual, count_below}

-- what a test says of an order
not_greater : (o : Ordering) → is_le o ≡ true → o ≡ Greater → ⊥
not_greater Less le e = cc
not_greater Equal le e = cc
not_greater Greater le e = cc

test_le : (o : Ordering) → (o ≡ Greater → ⊥) → is_le o ≡ true
test_le Less h = refl
test_le Equal h = refl
test_le Greater h = absurd (h refl)

test_gt : (o : Ordering) → is_le o ≡ false → o ≡ Greater
test_gt Less h = absurd cc
test_gt Equal h = absurd cc
test_gt Greater h = refl

-- no key is above one at a later place
sorted_at : (keys : List Bytes) (i j : ℕ) (d : Bytes) → IsSorted keys → i ≤ j → j < length keys → IsAtMost (get_or keys i d) (get_or keys j d)
sorted_at [] i j d sorted le lt = absurd (omega arith)
sorted_at (key ∷ keys) zero zero d sorted le lt = not_below_itself key
sorted_at (key ∷ keys) zero (suc j) d sorted le lt = all_at (IsAtMost key) keys j d sorted.0 (omega arith)
sorted_at (key ∷ keys) (suc i) zero d sorted le lt = absurd (omega arith)
sorted_at (key ∷ keys) (suc i) (suc j) d sorted le lt = sorted_at keys i j d sorted.1 (omega arith) (omega arith)

-- the key of an item
key_at : {X : Type 0} (f : X → Bytes) (xs : List X) (i : ℕ) (x : X) (d : Bytes) → x ≡ get_or xs i x → i < length xs → get_or (map f xs) i d ≡ f x
key_at f xs i x d is lt = get_or-map f xs i x d lt ∙ ap f (sym is)

-- a fact of the items is one of their keys
within_map : {X : Type 0} (f : X → Bytes) (P : Bytes → Type 0) (xs : List X) (low high : ℕ) → high ≤ length xs → AllWithin (λ x. P (f x)) xs low high → AllWithin P (map f xs) low high
within_map f P [] low high le h k d from to = absurd (omega arith)
within_map f P (x ∷ xs) low high le h k d from to = subst P (sym (get_or-map f (x ∷ xs) k x d (omega arith))) (h k x from to)

-- from tests of each key and the next
all_above : (low key : Bytes) (keys : List Bytes) → IsAtMost low key → AllByRecursion (IsAtMost key) keys → AllByRecursion (IsAtMost low) keys
all_above low key [] le h = h
all_above low key (other ∷ keys) le h = (at_most_trans low key other le h.0, all_above low key keys le h.1)

module _ {X : Type 0} (f : X → Bytes) where
  -- the test of a key and the next
  abbrev test : X → X → Bool
  test x y = is_le (bytes_cmp (f x) (f y))

  passes : (x y : X) → test x y ≡ true → IsAtMost (f x) (f y)
  passes x y pass below = not_greater (bytes_cmp (f x) (f y)) pass (below_is_above (f y) (f x) below)

  fails : (x y : X) → test x y ≡ false → IsAtMost (f x) (f y) → ⊥
  fails x y fail le = le (above_is_below (f x) (f y) (test_gt (bytes_cmp (f x) (f y)) fail))

  rises : (x : X) (xs : List X) → AllAdjacentBelow (λ x y. true ≡ test x y) (x ∷ xs) (length (x ∷ xs)) → IsSorted (map f (x ∷ xs))
  rises x [] h = (tt, tt)
  rises x (y ∷ ys) h =
      let behind = rises y ys (λ k d lt. let next : suc k + 1 ≡ suc (k + 1) = omega arith in subst (λ n. true ≡ test (get_or (y ∷ ys) k d) (get_or (x ∷ y ∷ ys) n d)) next (h (suc k) d (omega arith))) in
      let first = passes x y (sym (h 0 x (omega arith))) in
      ((first, all_above (f x) (f y) (map f ys) first behind.0), behind)

  falls : (xs : List X) (k : ℕ) → k + 1 < length xs → ((d : X) → false ≡ test (get_or xs k d) (get_or xs (k + 1) d)) → IsSorted (map f xs) → ⊥
  falls [] k lt h sorted = absurd (omega arith)
  falls (x ∷ xs) k lt h sorted =
      let all = x ∷ xs in
      let order = sorted_at (map f all) k (k + 1) (f x) sorted (omega arith) (rw length-map lt) in
      fails (get_or all k x) (get_or all (k + 1) x) (sym (h x))
      (subst (λ a. IsAtMost a (f (get_or all (k + 1) x))) (get_or-map f all k x (f x) (omega arith)) (subst (λ b. IsAtMost (get_or (map f all) k (f x)) b) (get_or-map f all (k + 1) x (f x) lt) order))

  pub sorted_by_test : (xs : List X) (r : Bool) → IsAllAdjacentAnswer (λ x y b. b ≡ is_le (bytes_cmp (f x) (f y))) xs r → IsTrue r ↔ IsSorted (map f xs)
  sorted_by_test [] true h = (λ _. tt, λ _. refl)
  sorted_by_test (x ∷ xs) true h = (λ _. rises x xs h, λ _. refl)
  sorted_by_test xs false h = (λ is. absurd cc, λ sorted. absurd (falls xs h.0 h.1 h.2 sorted))

-- from a partition of the items by the test of their keys
module _ {X : Type 0} (f : X → Bytes) (key : Bytes) (xs : List X) where
  pub parted_by_test : IsSorted (map f xs) → IsPartitionedBy (λ x. is_le (bytes_cmp (f x) key)) xs
  parted_by_test sorted i j d le lt pass =
      let order = sorted_at (map f xs) i j (f d) sorted le (rw length-map lt) in
      let order_of : IsAtMost (f (get_or xs i d)) (f (get_or xs j d)) = subst (λ a. IsAtMost a (f (get_or xs j d))) (get_or-map f xs i d (f d) (omega arith)) (subst (λ b. IsAtMost (get_or (map f xs) i (f d)) b) (get_or-map f xs j d (f d) lt) order) in
      let later : IsAtMost (f (get_or xs j d)) key = λ above. not_greater (bytes_cmp (f (get_or xs j d)) key) pass (below_is_above key (f (get_or xs j d)) above) in
      test_le (bytes_cmp (f (get_or xs i d)) key) (λ above. at_most_trans (f (get_or xs i d)) (f (get_or xs j d)) key order_of later (above_is_below (f (get_or xs i d)) key above))

  pub count_from_test : (n : ℕ) → n ≤ length xs → IsPartitionPoint (λ x. is_le (bytes_cmp (f x) key) ≡ true) (λ x. is_le (bytes_cmp (f x) key) ≡ false) xs n → IsCountAtMost key (map f xs) n
  count_from_test n le parted =
      (within_map f (λ other. IsAtMost other key) xs 0 n le (λ k d from to. (λ above. not_greater (bytes_cmp (f (get_or xs k d)) key) (parted.0 k d from to) (below_is_above key (f (get_or xs k d)) above))), λ k d from to. within_map f (λ other. IsBelow key other) xs n (length xs) (omega arith) (λ k d from to. above_is_below (f (get_or xs k d)) key (test_gt (bytes_cmp (f (get_or xs k d)) key) (parted.1 k d from to))) k d from (rw (← length-map xs f) to))

module _ (key : Bytes) where
  -- the last of the keys that aren't above the key is the key
  pub last_is_key : (keys : List Bytes) (i : ℕ) → i + 1 ≤ length keys → IsCountAtMost key keys (i + 1) → HoldsAt (λ other. other ≡ key) keys i → IsLastEqual key keys i
  last_is_key keys i lt parted here = record {
    within = omega arith;
    here = here;
    behind = λ k d from to. (λ same. not_below_itself key (subst (IsBelow key) same (parted.1 k d from to)));
  }

  -- the last of the keys that aren't above the key isn't the key, so all of them are below
  others_are_below : (keys : List Bytes) (n : ℕ) → IsSorted keys → n ≤ length keys → IsCountAtMost key keys n → (0 < n → HoldsAt (λ other. other ≢ key) keys (n - 1)) → AllWithin (λ other. IsBelow other key) keys 0 n
  others_are_below keys n sorted le parted other k d from to =
      let last = get_or keys (n - 1) d in
      at_most_below_trans (get_or keys k d) last key (sorted_at keys k (n - 1) d sorted (omega arith) (omega arith)) (below_or_same last key (parted.0 (n - 1) d (omega arith) (omega arith)) (other (omega arith) d))

  -- so no key is the key, and n of them are below
  none_is_key : (keys : List Bytes) (n : ℕ) → AllWithin (λ other. IsBelow other key) keys 0 n → IsCountAtMost key keys n → All (λ other. other ≢ key) keys
  none_is_key keys n below parted k d lt same =
      elim (cases_lt k n) [ inl to ↦ not_below_itself key (subst (λ other. IsBelow other key) same (below k d (omega arith) to)) | inr from ↦ not_below_itself key (subst (IsBelow key) same (parted.1 k d from lt)) ]

  count_is : (keys : List Bytes) (n : ℕ) → n ≤ length keys → AllWithin (λ other. IsBelow other key) keys 0 n → AllWithin (λ other. IsBelow key other) keys n (length keys) → n ≡ count_below key keys
  count_is [] zero le below above = refl
  count_is [] (suc n) le below above = absurd (omega arith)
  count_is (x ∷ xs) zero le below above =
      let gone : is_below x key ≡ false = ap is_lt (below_is_above key x (above 0 x (omega arith) (omega arith))) in
      rw gone (count_is xs zero (omega arith) (λ k d from to. absurd (omega arith)) (λ k d from to. above (suc k) d (omega arith) (omega arith)))
  count_is (x ∷ xs) (suc n) le below above =
      let stays : is_below x key ≡ true = ap is_lt (below 0 x (omega arith) (omega arith)) in
      rw stays (ap suc (count_is xs n (omega arith) (λ k d from to. below (suc k) d (omega arith) (omega arith)) (λ k d from to. above (suc k) d (omega arith) (omega arith))))

-- keys that a test tells apart
pub differ : (a b : Bytes) → pointwise nat_eq a b ≡ false → a ≢ b
differ a b test same = let e = nat_list_eq_equiv.refl a in let at : pointwise nat_eq a a ≡ false = subst (λ x. pointwise nat_eq a x ≡ false) (sym same) test in absurd cc

-- where the last item that isn't above the key has the key, its place is the greatest
pub found_there : {X : Type 0} (f : X → Bytes) (key : Bytes) (xs : List X) (n i : ℕ) (x : X) → n ≤ length xs → IsCountAtMost key (map f xs) n → i + 1 ≡ n → x ≡ get_or xs i x → f x ≡ key → IsLastEqual key (map f xs) i
found_there f key xs n i x le parted next is same =
    last_is_key key (map f xs) i (rw length-map (omega arith)) (subst (IsCountAtMost key (map f xs)) (sym next) parted) (λ d. key_at f xs i x d is (omega arith) ∙ same)

-- where it has another key, or there is none, no item has the key
pub record HasNoKey (key : Bytes) (keys : List Bytes) (n : ℕ) : Type 0 where
  pub missing : All (λ other. other ≢ key) keys
  pub below : n ≡ count_below key keys

pub no_key : (key : Bytes) (keys : List Bytes) (n : ℕ) → IsSorted keys → n ≤ length keys → IsCountAtMost key keys n → (0 < n → HoldsAt (λ other. other ≢ key) keys (n - 1)) → HasNoKey key keys n
no_key key keys n sorted le parted other =
    let below = others_are_below key keys n sorted le parted other in
    record { missing = none_is_key key keys n below parted; below = count_is key keys n le below parted.1 }

pub missing_there : {X : Type 0} (f : X → Bytes) (key : Bytes) (xs : List X) (n i : ℕ) (x : X) → IsSorted (map f xs) → n ≤ length xs → IsCountAtMost key (map f xs) n → i + 1 ≡ n → x ≡ get_or xs i x → f x ≢ key → HasNoKey key (map f xs) n
missing_there f key xs n i x sorted le parted next is other =
    let place : i ≡ n - 1 = omega arith in
    no_key key (map f xs) n sorted (rw length-map le) parted (λ some d same. other (sym (key_at f xs i x d is (omega arith)) ∙ ap (λ k. get_or (map f xs) k d) place ∙ same))

-- ---- a search by halving, one step

below_at_most_trans : (a b c : Bytes) → IsBelow a b → IsAtMost b c → IsBelow a c
below_at_most_trans a b c lt le = below_or_same a c (at_most_trans a b c (below_is_at_most a b lt) le) (λ same. le (subst (λ x. IsBelow x b) same lt))

module _ (key : Bytes) (keys : List Bytes) (middle : ℕ) (found : Bytes) (sorted : IsSorted keys) (within : middle < length keys) (is : (d : Bytes) → get_or keys middle d ≡ found) where
  -- the key in the middle isn't above the key, so none before it is
  pub front_at_most : is_le (bytes_cmp found key) ≡ true → AllWithin (λ other. IsAtMost other key) keys 0 (middle + 1)
  front_at_most pass k d from to =
      let order : IsAtMost (get_or keys k d) found = subst (λ other. IsAtMost (get_or keys k d) other) (is d) (sorted_at keys k middle d sorted (omega arith) within) in
      at_most_trans (get_or keys k d) found key order (λ above. not_greater (bytes_cmp found key) pass (below_is_above key found above))

  -- it is above, so each behind it is
  pub back_above : is_le (bytes_cmp found key) ≡ false → AllWithin (λ other. IsBelow key other) keys middle (length keys)
  back_above fail k d from to =
      let order : IsAtMost found (get_or keys k d) = subst (λ other. IsAtMost other (get_or keys k d)) (is d) (sorted_at keys middle k d sorted from to) in
      below_at_most_trans key found (get_or keys k d) (above_is_below found key (test_gt (bytes_cmp found key) fail)) order

-- ---- a test of each key and the next

-- what it answers is whether the keys are sorted
pub sorted_by_pairs : (keys : List Bytes) (r : Bool) → IsAllAdjacentAnswer (λ x y b. b ≡ is_le (bytes_cmp x y)) keys r → IsTrue r ↔ IsSorted keys
sorted_by_pairs keys r answer = subst (λ ks. IsTrue r ↔ IsSorted ks) (map-id keys) (sorted_by_test (λ key. key) keys r answer)
