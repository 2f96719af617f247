-- Pairs that rise, and those of them whose keys pass a test.
use Rattle.std.proofs.Common.{◌≡◌, ◌≢◌, ◌⊎◌, inl, inr, Bool, true, false, not, cond, List, [], ◌∷◌, ◌++◌, Option, None, refl, ◌∙◌, ap, subst}
use Rattle.std.specs.List.{AllByRecursion, filter}
use Rattle.std.specs.declared.cmp.Ordering.{Ordering}
use Rattle.std.specs.declared.cmp.Ordering.TheVariants.{Less, Equal, Greater}
use Rattle.std.specs.Ordering.{is_lt, is_le, is_gt, ordering_reverse}
use Rattle.std.specs.declared.ops.Bound.TheVariants.{Included, Excluded}
use Rattle.std.proofs.lemmas.Slice.Eq.{bytes_eq-Decides}
use Rattle.sled_base.specs.Order.{Bytes, bytes_cmp, IsBelow, IsAtMost, is_below}
use Rattle.sled_base.specs.OrderLaws.{at_most_trans, below_is_at_most, reversed}
use Rattle.sled_node.specs.Pairs.{IsAscending}
use Rattle.sled_search.specs.Map.{at_key}
use Rattle.sled_search.specs.Ordered.{is_before}
use Rattle.sled_search.proofs.Leading.{lt-true, lt-false}
use Rattle.sled_search.proofs.Pairs.{all-weaker, eq-other, same_or_not}
use Rattle.sled_search.proofs.Splits.{side}
use Rattle.sled_tree.specs.Ordered.{is_behind, behind, before}

-- ---- what a test says

pub is-below : (a b : Bytes) → IsBelow a b → is_below a b ≡ true
is-below a b lt = lt-true (bytes_cmp a b) lt

less-is : (o : Ordering) → is_lt o ≡ true → o ≡ Less
less-is Less h = refl
less-is Equal h = absurd cc
less-is Greater h = absurd cc

pub below-is : (a b : Bytes) → is_below a b ≡ true → IsBelow a b
below-is a b h = less-is (bytes_cmp a b) h

pub not-below : (a b : Bytes) → IsAtMost b a → is_below a b ≡ false
not-below a b le = lt-false (bytes_cmp a b) le

module _ (a b : Bytes) where
  pub at-most-test : is_le (bytes_cmp a b) ≡ not (is_below b a)
  at-most-test = ap is_le (reversed a b) ∙ by (bytes_cmp b a)
    where
      by : (o : Ordering) → is_le (ordering_reverse o) ≡ not (is_lt o)
      by Less = refl
      by Equal = refl
      by Greater = refl

  pub above-test : is_gt (bytes_cmp a b) ≡ is_below b a
  above-test = ap is_gt (reversed a b) ∙ by (bytes_cmp b a)
    where
      by : (o : Ordering) → is_gt (ordering_reverse o) ≡ is_lt o
      by Less = refl
      by Equal = refl
      by Greater = refl

module _ {V : Type 0} where
  -- the pairs with such keys
  abbrev pub keep : (Bytes → Bool) → List (Bytes × V) → List (Bytes × V)
  keep test pairs = filter (λ pair. test pair.0) pairs

  pub at-keep : (test : Bytes → Bool) (pairs : List (Bytes × V)) (key : Bytes) → at_key (keep test pairs) key ≡ cond (test key) (at_key pairs key) None
  at-keep test [] key = by (test key)
    where
      by : (b : Bool) → ◌≡◌ {A = Option V} None (cond b None None)
      by true = refl
      by false = refl
  at-keep test (pair ∷ pairs) key = by (at-keep test pairs key) (test pair.0) refl (same_or_not pair.0 key)
    where
      by : at_key (keep test pairs) key ≡ cond (test key) (at_key pairs key) None → (b : Bool) → test pair.0 ≡ b → (pair.0 ≡ key) ⊎ (pair.0 ≢ key)
          → at_key (cond b (pair ∷ keep test pairs) (keep test pairs)) key ≡ cond (test key) (at_key (pair ∷ pairs) key) None
      by rest true is (inl same) =
          let here = (bytes_eq-Decides pair.0 key).1 same in
          let passes : test key ≡ true = subst (λ (k : Bytes). test k ≡ true) same is in
          rw (here, passes) refl
      by rest true is (inr other) = rw (eq-other pair.0 key other) rest
      by rest false is (inl same) =
          let fails : test key ≡ false = subst (λ (k : Bytes). test k ≡ false) same is in
          rw fails (rw fails at rest)
      by rest false is (inr other) = rw (eq-other pair.0 key other) rest

  pub all-kept : (P : Bytes × V → Type 0) (test : Bytes → Bool) (pairs : List (Bytes × V)) → AllByRecursion P pairs → AllByRecursion P (keep test pairs)
  all-kept P test [] all = tt
  all-kept P test (pair ∷ pairs) all = by (all-kept P test pairs all.1) (test pair.0)
    where
      by : AllByRecursion P (keep test pairs) → (b : Bool) → AllByRecursion P (cond b (pair ∷ keep test pairs) (keep test pairs))
      by rest true = (all.0, rest)
      by rest false = rest

  pub ascending-kept : (test : Bytes → Bool) (pairs : List (Bytes × V)) → IsAscending pairs → IsAscending (keep test pairs)
  ascending-kept test [] up = tt
  ascending-kept test (pair ∷ pairs) up = by (ascending-kept test pairs up.1) (test pair.0)
    where
      by : IsAscending (keep test pairs) → (b : Bool) → IsAscending (cond b (pair ∷ keep test pairs) (keep test pairs))
      by rest true = (all-kept (λ later. IsBelow pair.0 later.0) test pairs up.0, rest)
      by rest false = rest

  pub keep-same : (p q : Bytes → Bool) (pairs : List (Bytes × V)) → ((key : Bytes) → p key ≡ q key) → keep p pairs ≡ keep q pairs
  keep-same p q [] same = refl
  keep-same p q (pair ∷ pairs) same = rw (same pair.0, keep-same p q pairs same) refl

  pub keep-twice : (p q : Bytes → Bool) (pairs : List (Bytes × V)) → keep p (keep q pairs) ≡ keep (λ key. cond (q key) (p key) false) pairs
  keep-twice p q [] = refl
  keep-twice p q (pair ∷ pairs) = by (keep-twice p q pairs) (q pair.0)
    where
      by : keep p (keep q pairs) ≡ keep (λ key. cond (q key) (p key) false) pairs → (b : Bool)
          → keep p (cond b (pair ∷ keep q pairs) (keep q pairs)) ≡ cond (cond b (p pair.0) false) (pair ∷ keep (λ key. cond (q key) (p key) false) pairs) (keep (λ key. cond (q key) (p key) false) pairs)
      by rest true = rw rest refl
      by rest false = rest

  pub keep-all : (test : Bytes → Bool) (pairs : List (Bytes × V)) → AllByRecursion (λ pair. test pair.0 ≡ true) pairs → keep test pairs ≡ pairs
  keep-all test [] all = refl
  keep-all test (pair ∷ pairs) all = rw (all.0, keep-all test pairs all.1) refl

  pub keep-none : (test : Bytes → Bool) (pairs : List (Bytes × V)) → AllByRecursion (λ pair. test pair.0 ≡ false) pairs → keep test pairs ≡ []
  keep-none test [] all = refl
  keep-none test (pair ∷ pairs) all = rw all.0 (keep-none test pairs all.1)

  pub keep-always : (pairs : List (Bytes × V)) → keep (λ _. true) pairs ≡ pairs
  keep-always [] = refl
  keep-always (pair ∷ pairs) = rw (keep-always pairs) refl

  pub keep-never : (pairs : List (Bytes × V)) → keep (λ _. false) pairs ≡ []
  keep-never [] = refl
  keep-never (pair ∷ pairs) = keep-never pairs

  -- pairs that rise are those below a key, and then those from it on
  pub cut : (key : Bytes) (pairs : List (Bytes × V)) → IsAscending pairs → pairs ≡ before (Excluded key) pairs ++ behind (Included key) pairs
  cut key [] up = refl
  cut key (pair ∷ pairs) up = by (side pair.0 key)
      (cut key pairs up.1)
    where
      by : IsBelow pair.0 key ⊎ IsAtMost key pair.0 → pairs ≡ before (Excluded key) pairs ++ behind (Included key) pairs → pair ∷ pairs ≡ before (Excluded key) (pair ∷ pairs) ++ behind (Included key) (pair ∷ pairs)
      by (inl lt) rest = rw (is-below pair.0 key lt) (ap (λ (ps : List (Bytes × V)). pair ∷ ps) rest)
      by (inr le) rest =
          let from : AllByRecursion (λ later. IsAtMost key later.0) pairs = all-weaker (λ later. IsBelow pair.0 later.0) (λ later. IsAtMost key later.0) (λ later lt. at_most_trans key pair.0 later.0 le (below_is_at_most pair.0 later.0 lt)) pairs up.0 in
          let none = keep-none (is_before (Excluded key)) pairs (all-weaker (λ later. IsAtMost key later.0) (λ later. is_before (Excluded key) later.0 ≡ false) (λ later h. not-below later.0 key h) pairs from) in
          let all = keep-all (is_behind (Included key)) pairs (all-weaker (λ later. IsAtMost key later.0) (λ later. is_behind (Included key) later.0 ≡ true) (λ later h. ap not (not-below later.0 key h)) pairs from) in
          rw (not-below pair.0 key le, none, all) refl
