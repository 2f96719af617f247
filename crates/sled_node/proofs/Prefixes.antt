-- What two strings have in common, and the strings between them.
use Rattle.std.proofs.Common.{◌≡◌, ◌≢◌, ◌⊎◌, inl, inr, ℕ, zero, suc, ◌+◌, ◌<◌, ◌≤◌, cond, List, [], ◌∷◌, ◌++◌, length, map, take, drop, refl, sym, ap, ◌∙◌, arith}
use Rattle.std.specs.Prelude.{nat_eq, ◌==◌}
use Rattle.std.specs.List.{common_prefix_len, AllByRecursion}
use Rattle.std.specs.declared.cmp.Ordering.{Ordering}
use Rattle.std.specs.declared.cmp.Ordering.TheVariants.{Less, Equal, Greater}
use Rattle.std.specs.Ordering.{MatchOrdering, ordering_then, nat_cmp}
use Rattle.std.proofs.lemmas.Cmp.{ranked}
use Rattle.std.proofs.lemmas.Bool.{eq-eqb, ne_eqb, lt-ltb, cases_eq}
use Rattle.std.proofs.lemmas.List.{take-append-drop}
use Rattle.std.proofs.Math.Seq.{drop-append_seam}
use Rattle.sled_base.specs.Order.{Bytes, bytes_cmp, IsBelow, IsAtMost}
use Rattle.sled_node.specs.Splitting.{common_length, own_prefix}
use Rattle.sled_node.specs.Restoring.{restored}
use Rattle.sled_node.specs.Node.{Item}
use Rattle.sled_node.proofs.NodeEdits.{made}

-- ---- what is in common

-- it is std's count
pub common_is : (a b : Bytes) → common_prefix_len nat_eq a b ≡ common_length a b
common_is [] b = refl
common_is (x ∷ a) [] = refl
common_is (x ∷ a) (y ∷ b) = ap (λ n. cond (x == y) (1 + n) 0) (common_is a b)

-- of two strings with one first byte, and of two with another
pub common_same : (x y : ℕ) (a b : Bytes) → x ≡ y → common_length (x ∷ a) (y ∷ b) ≡ 1 + common_length a b
common_same x y a b same = ap (λ t. cond t (1 + common_length a b) 0) (eq-eqb x y same)

pub common_other : (x y : ℕ) (a b : Bytes) → (x ≡ y → ⊥) → common_length (x ∷ a) (y ∷ b) ≡ 0
common_other x y a b other = ap (λ t. cond t (1 + common_length a b) 0) (ne_eqb x y other)

-- no more than that many bytes are common to both
pub common_front : (q : ℕ) (a b : Bytes) → q ≤ common_length a b → take q a ≡ take q b
common_front zero a b le = refl
common_front (suc q) [] b le = absurd (omega arith)
common_front (suc q) (x ∷ a) [] le = absurd (omega arith)
common_front (suc q) (x ∷ a) (y ∷ b) le = elim (cases_eq x y) [
  | inl same ↦
      let rest = common_front q a b (omega (arith, le, common_same x y a b same)) in
      (λ i. same i ∷ rest i)
  | inr other ↦ absurd (omega (arith, le, common_other x y a b other))
]

-- a front that both have counts in full
pub common_under : (p a b : Bytes) → common_length (p ++ a) (p ++ b) ≡ length p + common_length a b
common_under [] a b = omega arith
common_under (x ∷ p) a b = omega (arith, common_same x x (p ++ a) (p ++ b) refl, common_under p a b)

-- ---- heads

below_case : (x y : ℕ) (o r : Ordering) → MatchOrdering o (x < y) (x ≡ y) (y < x) → ordering_then o r ≡ Less → (x < y) ⊎ ((x ≡ y) × (r ≡ Less))
below_case x y Less r h lt = inl h
below_case x y Equal r h lt = inr (h, lt)
below_case x y Greater r h lt = absurd cc

pub below_heads : (x y : ℕ) (a b : Bytes) → IsBelow (x ∷ a) (y ∷ b) → (x < y) ⊎ ((x ≡ y) × IsBelow a b)
below_heads x y a b lt = below_case x y (nat_cmp x y) (bytes_cmp a b) (ranked x y (nat_cmp x y) refl) lt

most_case : (x y : ℕ) (o r : Ordering) → MatchOrdering o (y < x) (y ≡ x) (x < y) → ordering_then o r ≢ Less → (x < y) ⊎ ((x ≡ y) × (r ≢ Less))
most_case x y Less r h le = absurd (le refl)
most_case x y Equal r h le = inr (sym h, le)
most_case x y Greater r h le = inl h

pub most_heads : (x y : ℕ) (a b : Bytes) → IsAtMost (x ∷ a) (y ∷ b) → (x < y) ⊎ ((x ≡ y) × IsAtMost a b)
most_heads x y a b le = most_case x y (nat_cmp y x) (bytes_cmp b a) (ranked y x (nat_cmp y x) refl) le

pub below_from_heads : (x y : ℕ) (a b : Bytes) → x < y → IsBelow (x ∷ a) (y ∷ b)
below_from_heads x y a b lt = ap (λ t. ordering_then (cond t Less (cond (x == y) Equal Greater)) (bytes_cmp a b)) (lt-ltb x y lt)

pub not_below_empty : (a : Bytes) → IsBelow a [] → ⊥
not_below_empty [] lt = absurd cc
not_below_empty (x ∷ a) lt = absurd cc

-- what lies between two strings has what they have in common
between : (q : ℕ) (lo hi key : Bytes) → take q lo ≡ take q hi → IsAtMost lo key → IsBelow key hi → take q key ≡ take q lo
between zero lo hi key common le lt = refl
between (suc q) lo [] key common le lt = absurd (not_below_empty key lt)
between (suc q) [] (y ∷ hi) key common le lt = absurd cc
between (suc q) (x ∷ lo) (y ∷ hi) [] common le lt = absurd (le refl)
between (suc q) (x ∷ lo) (y ∷ hi) (z ∷ key) common le lt =
    let heads : x ≡ y = cc in
    let fronts : take q lo ≡ take q hi = cc in
    elim (most_heads x z lo key le) [
      | inl low ↦ elim (below_heads z y key hi lt) [ inl high ↦ absurd (omega arith) | inr same ↦ absurd (let e = same.0 in omega arith) ]
      | inr low ↦ elim (below_heads z y key hi lt) [
        | inl high ↦ absurd (let e = low.0 in omega arith)
        | inr same ↦ let rest = between q lo hi key fronts low.1 same.1 in (λ i. sym low.0 i ∷ rest i)
      ]
    ]

-- all keys of a range have what its bounds have in common
pub shares : (lo hi key : Bytes) → IsAtMost lo key → (hi ≢ [] → IsBelow key hi) → take (own_prefix lo hi) key ≡ take (own_prefix lo hi) lo
shares [] [] key le lt = refl
shares (x ∷ lo) [] key le lt = refl
shares lo (y ∷ hi) key le lt = between (own_prefix lo (y ∷ hi)) lo (y ∷ hi) key (common_front (own_prefix lo (y ∷ hi)) lo (y ∷ hi) (omega arith)) le (lt (λ none. absurd cc))

-- ---- stored keys

-- stored keys stay where as many bytes are skipped
pub restored_same : {V : Type 0} (front : Bytes) (skipped : ℕ) (pairs : List (Bytes × V)) → skipped ≡ length front → restored front skipped pairs ≡ pairs
restored_same front skipped [] same = refl
restored_same front skipped (pair ∷ pairs) same =
    let key : drop skipped (front ++ pair.0) ≡ pair.0 = ap (λ n. drop n (front ++ pair.0)) same ∙ drop-append_seam front pair.0 in
    ap (λ k. (k, pair.1) ∷ restored front skipped pairs) key ∙ ap (λ ps. pair ∷ ps) (restored_same front skipped pairs same)

-- a whole key again, of its front and the stored rest
key_again : (q : ℕ) (lo key : Bytes) → take q key ≡ take q lo → take q lo ++ drop q key ≡ key
key_again q lo key same = ap (λ front. front ++ drop q key) (sym same) ∙ take-append-drop q key

-- whole keys stay, however many of their first bytes aren't stored
pub restored_whole : {V : Type 0} (front lo : Bytes) (q : ℕ) (make : V → Item) (pairs : List (Bytes × V)) → AllByRecursion (λ pair. take q pair.0 ≡ take q lo) (map (made front make) pairs) → map (made (take q lo) make) (restored front q pairs) ≡ map (made front make) pairs
restored_whole front lo q make [] all = refl
restored_whole front lo q make (pair ∷ pairs) all =
    let key = key_again q lo (front ++ pair.0) all.0 in
    let rest = restored_whole front lo q make pairs all.1 in
    (λ i. (key i, make pair.1) ∷ rest i)
