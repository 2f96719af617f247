-- Edits of ascending pairs keep them ascending.
use Rattle.std.proofs.Common.{◌≡◌, ◌+◌, ◌≤◌, ◌^◌, Bool, true, false, cond, List, [], ◌∷◌, ◌++◌, length, refl, arith}
use Rattle.std.specs.Prelude.{filter}
use Rattle.std.specs.List.{AllByRecursion}
use Rattle.std.specs.declared.cmp.Ordering.TheVariants.{Less, Equal, Greater}
use Rattle.std.specs.Ordering.{is_lt, ordering_reverse}
use Rattle.std.proofs.lemmas.List.{length-append}
use Rattle.sled_base.specs.Order.{Bytes, bytes_cmp, is_below, IsBelow}
use Rattle.sled_base.specs.OrderLaws.{below_trans, reversed}
use Rattle.sled_node.specs.Pairs.{IsWithinLimit, IsAscending, pairs_below, pairs_above, set_pair, del_pair, HasPairs}
use Rattle.sled_node.proofs.Places.{all_so}

-- ---- what holds of each element

pub all_append : {X : Type 0} (P : X → Type 0) (xs ys : List X) → AllByRecursion P xs → AllByRecursion P ys → AllByRecursion P (xs ++ ys)
all_append P [] ys a b = b
all_append P (x ∷ xs) ys a b = (a.0, all_append P xs ys a.1 b)

choice : {X : Type 0} (P : X → Type 0) (b : Bool) (x : X) (xs : List X) → P x → AllByRecursion P xs → AllByRecursion P (cond b (x ∷ xs) xs)
choice P true x xs here all = (here, all)
choice P false x xs here all = all

pub all_filter : {X : Type 0} (P : X → Type 0) (p : X → Bool) (xs : List X) → AllByRecursion P xs → AllByRecursion P (filter p xs)
all_filter P p [] all = tt
all_filter P p (x ∷ xs) all = choice P (p x) x (filter p xs) all.0 (all_filter P p xs all.1)

passed : {X : Type 0} (p : X → Bool) (b : Bool) (x : X) (xs : List X) → p x ≡ b → AllByRecursion (λ y. p y ≡ true) xs → AllByRecursion (λ y. p y ≡ true) (cond b (x ∷ xs) xs)
passed p true x xs is all = (is, all)
passed p false x xs is all = all

pub all_passed : {X : Type 0} (p : X → Bool) (xs : List X) → AllByRecursion (λ x. p x ≡ true) (filter p xs)
all_passed p [] = tt
all_passed p (x ∷ xs) = passed p (p x) x (filter p xs) refl (all_passed p xs)

-- a test that passed
lt_is : (o : _) → is_lt o ≡ true → o ≡ Less
lt_is Less h = refl
lt_is Equal h = absurd cc
lt_is Greater h = absurd cc

-- ---- order

module _ {V : Type 0} where
  kept : (b : Bool) (x : Bytes × V) (xs : List (Bytes × V)) → AllByRecursion (λ later. IsBelow x.0 later.0) xs → IsAscending xs → IsAscending (cond b (x ∷ xs) xs)
  kept true x xs above ascending = (above, ascending)
  kept false x xs above ascending = ascending

  pub ascending_filter : (p : Bytes × V → Bool) (xs : List (Bytes × V)) → IsAscending xs → IsAscending (filter p xs)
  ascending_filter p [] ascending = tt
  ascending_filter p (x ∷ xs) ascending = kept (p x) x (filter p xs) (all_filter (λ later. IsBelow x.0 later.0) p xs ascending.0) (ascending_filter p xs ascending.1)

  pub ascending_append : (xs ys : List (Bytes × V)) → IsAscending xs → IsAscending ys → AllByRecursion (λ x. AllByRecursion (λ y. IsBelow x.0 y.0) ys) xs → IsAscending (xs ++ ys)
  ascending_append [] ys a b below = b
  ascending_append (x ∷ xs) ys a b below = (all_append (λ later. IsBelow x.0 later.0) xs ys a.0 below.0, ascending_append xs ys a.1 b below.1)

  module _ (key : Bytes) (pairs : List (Bytes × V)) where
    below_key : AllByRecursion (λ pair. IsBelow pair.0 key) (pairs_below key pairs)
    below_key = all_so (λ pair h. lt_is (bytes_cmp pair.0 key) h) (pairs_below key pairs) (all_passed (λ pair. is_below pair.0 key) pairs)

    above_key : AllByRecursion (λ pair. IsBelow key pair.0) (pairs_above key pairs)
    above_key = all_so (λ pair h. lt_is (bytes_cmp key pair.0) h) (pairs_above key pairs) (all_passed (λ pair. is_below key pair.0) pairs)

    all_beyond : AllByRecursion (λ x. AllByRecursion (λ y. IsBelow x.0 y.0) (pairs_above key pairs)) (pairs_below key pairs)
    all_beyond = all_so (λ x lt. all_so (λ y more. below_trans x.0 key y.0 lt more) (pairs_above key pairs) above_key) (pairs_below key pairs) below_key

    pub ascending_set : (item : V) → IsAscending pairs → IsAscending (set_pair key item pairs)
    ascending_set item ascending =
        let behind = pairs_above key pairs in
        ascending_append (pairs_below key pairs) ((key, item) ∷ behind) (ascending_filter (λ pair. is_below pair.0 key) pairs ascending) (above_key, ascending_filter (λ pair. is_below key pair.0) pairs ascending)
        (all_so (λ x lt. (lt, all_so (λ y more. below_trans x.0 key y.0 lt more) behind above_key)) (pairs_below key pairs) below_key)

    pub ascending_del : IsAscending pairs → IsAscending (del_pair key pairs)
    ascending_del ascending = ascending_append (pairs_below key pairs) (pairs_above key pairs) (ascending_filter (λ pair. is_below pair.0 key) pairs ascending) (ascending_filter (λ pair. is_below key pair.0) pairs ascending) all_beyond

    pub all_set : (P : Bytes × V → Type 0) (item : V) → P (key, item) → AllByRecursion P pairs → AllByRecursion P (set_pair key item pairs)
    all_set P item here all = all_append P (pairs_below key pairs) ((key, item) ∷ pairs_above key pairs) (all_filter P (λ pair. is_below pair.0 key) pairs all) (here, all_filter P (λ pair. is_below key pair.0) pairs all)

    pub all_del : (P : Bytes × V → Type 0) → AllByRecursion P pairs → AllByRecursion P (del_pair key pairs)
    all_del P all = all_append P (pairs_below key pairs) (pairs_above key pairs) (all_filter P (λ pair. is_below pair.0 key) pairs all) (all_filter P (λ pair. is_below key pair.0) pairs all)

-- ---- how many

apart : (o p : _) → o ≡ ordering_reverse p → is_lt o ≡ true → is_lt p ≡ false
apart o Less is h = absurd cc
apart o Equal is h = refl
apart o Greater is h = refl

one_of : {X : Type 0} (b c : Bool) (x : X) (ys zs : List X) → (b ≡ true → c ≡ false) → length (cond b (x ∷ ys) ys) + length (cond c (x ∷ zs) zs) ≤ length ys + length zs + 1
one_of true true x ys zs h = absurd (let e = h refl in cc)
one_of true false x ys zs h = omega arith
one_of false true x ys zs h = omega arith
one_of false false x ys zs h = omega arith

pub few_del : {V : Type 0} (key : Bytes) (pairs : List (Bytes × V)) → length (pairs_below key pairs) + length (pairs_above key pairs) ≤ length pairs
few_del key [] = omega arith
few_del key (pair ∷ pairs) =
    let rest = few_del key pairs in
    let here = one_of (is_below pair.0 key) (is_below key pair.0) pair (pairs_below key pairs) (pairs_above key pairs) (apart (bytes_cmp pair.0 key) (bytes_cmp key pair.0) (reversed pair.0 key)) in
    omega (arith, rest, here)

-- ---- the pairs of a leaf or an index

module _ {V : Type 0} {fits : V → Type 0} (key : Bytes) (pairs : List (Bytes × V)) (has : HasPairs fits pairs) where
  pub has_set : (item : V) → IsWithinLimit key → fits item → length (set_pair key item pairs) ≤ 2 ^ 24 → HasPairs fits (set_pair key item pairs)
  has_set item key_fits item_fits few = record {
    few = few;
    ascending = ascending_set key pairs item has.ascending;
    keys = all_set key pairs (λ pair. IsWithinLimit pair.0) item key_fits has.keys;
    items = all_set key pairs (λ pair. fits pair.1) item item_fits has.items;
  }

  pub has_del : HasPairs fits (del_pair key pairs)
  has_del = record {
    few = omega (arith, has.few, few_del key pairs, length-append (pairs_below key pairs) (pairs_above key pairs));
    ascending = ascending_del key pairs has.ascending;
    keys = all_del key pairs (λ pair. IsWithinLimit pair.0) has.keys;
    items = all_del key pairs (λ pair. fits pair.1) has.items;
  }
