-- How many names there are, and how large they are.
use Rattle.std.proofs.Common.{◌≡◌, ℕ, ◌+◌, ◌*◌, ◌<◌, ◌≤◌, ◌^◌, true, cond, [], ◌∷◌, length, Some, None, refl, sym, ap, subst, ◌∙◌, arith}
use Rattle.std.specs.Prelude.{Option}
use Rattle.std.specs.List.{AllByRecursion, sum_by}
use Rattle.std.proofs.Math.Nat.{suc-mul}
use Rattle.std.proofs.lemmas.List.Sums.{sum_by-cons}
use Rattle.std.specs.declared.cmp.Ordering.{Ordering}
use Rattle.std.specs.declared.cmp.Ordering.TheVariants.{Less, Equal, Greater}
use Rattle.std.specs.Ordering.{is_lt, is_eq, ordering_reverse}
use Rattle.std.proofs.lemmas.List.{length-append}
use Rattle.sled_base.specs.Order.{Bytes, bytes_cmp, is_below, IsBelow}
use Rattle.sled_base.specs.OrderLaws.{equal_is_same, reversed}
use Rattle.sled_node.specs.Pairs.{IsWithinLimit, IsAscending, pairs_below, pairs_above}
use Rattle.sled_node.specs.Meta.{Roots, root_of, with_root, with_roots, IsRootMap, HasRoom, roots_size}
use Rattle.sled_node.proofs.Edits.{few_del, ascending_set}

-- what isn't less is as much
not_less : {m n : ℕ} → (m < n → ⊥) → n ≤ m
not_less h = omega (arith, h)

module _ (name : Bytes) where
  -- ---- how many

  -- a pair of another name is below the name or above it
  one_aside : (o : Ordering) (pair : Bytes × ℕ) (ys zs roots : Roots) → cond (is_eq o) (Some pair.1) (root_of name roots) ≡ None → (root_of name roots ≡ None → length ys + length zs ≡ length roots)
      → length (cond (is_lt (ordering_reverse o)) (pair ∷ ys) ys) + length (cond (is_lt o) (pair ∷ zs) zs) ≡ length (pair ∷ roots)
  one_aside Less pair ys zs roots missing others = omega (arith, others missing)
  one_aside Equal pair ys zs roots missing others = absurd cc
  one_aside Greater pair ys zs roots missing others = omega (arith, others missing)

  pub count_missing : (roots : Roots) → root_of name roots ≡ None → length (pairs_below name roots) + length (pairs_above name roots) ≡ length roots
  count_missing [] missing = refl
  count_missing (pair ∷ roots) missing =
      subst (λ o. length (cond (is_lt o) (pair ∷ pairs_below name roots) (pairs_below name roots)) + length (pairs_above name (pair ∷ roots)) ≡ length (pair ∷ roots)) (sym (reversed pair.0 name))
      (one_aside (bytes_cmp name pair.0) pair (pairs_below name roots) (pairs_above name roots) roots missing (count_missing roots))

  one_here : (o : Ordering) (pair : Bytes × ℕ) (ys zs roots : Roots) (r : ℕ) → cond (is_eq o) (Some pair.1) (root_of name roots) ≡ Some r → length ys + length zs ≤ length roots → (root_of name roots ≡ Some r → length ys + length zs < length roots)
      → length (cond (is_lt (ordering_reverse o)) (pair ∷ ys) ys) + length (cond (is_lt o) (pair ∷ zs) zs) < length (pair ∷ roots)
  one_here Less pair ys zs roots r there few others = omega (arith, others there)
  one_here Equal pair ys zs roots r there few others = omega (arith, few)
  one_here Greater pair ys zs roots r there few others = omega (arith, others there)

  pub count_there : (roots : Roots) (r : ℕ) → root_of name roots ≡ Some r → length (pairs_below name roots) + length (pairs_above name roots) < length roots
  count_there [] r there = absurd cc
  count_there (pair ∷ roots) r there =
      subst (λ o. length (cond (is_lt o) (pair ∷ pairs_below name roots) (pairs_below name roots)) + length (pairs_above name (pair ∷ roots)) < length (pair ∷ roots)) (sym (reversed pair.0 name))
      (one_here (bytes_cmp name pair.0) pair (pairs_below name roots) (pairs_above name roots) roots r there (few_del name roots) (count_there roots r))

  -- the names with one set
  pub length_with : (root : ℕ) (roots : Roots) → length (with_root name root roots) ≡ length (pairs_below name roots) + length (pairs_above name roots) + 1
  length_with root roots = omega (arith, length-append (pairs_below name roots) ((name, root) ∷ pairs_above name roots))

  -- a name that has room leaves the map within the limit
  pub fits_with : (root : ℕ) (roots : Roots) → length roots ≤ 2 ^ 24 → HasRoom name roots → length (with_root name root roots) ≤ 2 ^ 24
  fits_with root roots few room = by (root_of name roots) refl
    where
      by : (found : Option ℕ) → root_of name roots ≡ found → length (with_root name root roots) ≤ 2 ^ 24
      by None is = omega (arith, room is, length_with root roots, few_del name roots)
      by (Some r) is = omega (arith, few, length_with root roots, count_there roots r is)

  -- and one that has none leads past it
  pub passes_with : (root : ℕ) (roots : Roots) → (HasRoom name roots → ⊥) → 2 ^ 24 < length (with_root name root roots)
  passes_with root roots full = by (root_of name roots) refl
    where
      by : (found : Option ℕ) → root_of name roots ≡ found → 2 ^ 24 < length (with_root name root roots)
      by None is = let many : 2 ^ 24 ≤ length roots = not_less (λ less. full (λ _. less)) in omega (arith, many, length_with root roots, count_missing roots is)
      by (Some r) is = absurd (full (λ none. absurd (let e = sym none ∙ is in cc)))

  -- ascending names are never fewer after one was set
  all_stay : (roots : Roots) → AllByRecursion (λ pair. IsBelow name pair.0) roots → length (pairs_above name roots) ≡ length roots
  all_stay [] above = refl
  all_stay (pair ∷ roots) above =
      let here : is_below name pair.0 ≡ true = ap is_lt above.0 in
      rw here (omega (arith, all_stay roots above.1))

  one_stays : (o : Ordering) (pair : Bytes × ℕ) (ys zs roots : Roots) → (o ≡ Equal → length zs ≡ length roots) → length roots ≤ length ys + length zs + 1
      → length (pair ∷ roots) ≤ length (cond (is_lt (ordering_reverse o)) (pair ∷ ys) ys) + length (cond (is_lt o) (pair ∷ zs) zs) + 1
  one_stays Less pair ys zs roots all others = omega (arith, others)
  one_stays Equal pair ys zs roots all others = omega (arith, all refl)
  one_stays Greater pair ys zs roots all others = omega (arith, others)

  count_ascending : (roots : Roots) → IsAscending roots → length roots ≤ length (pairs_below name roots) + length (pairs_above name roots) + 1
  count_ascending [] ascending = omega arith
  count_ascending (pair ∷ roots) ascending =
      subst (λ o. length (pair ∷ roots) ≤ length (cond (is_lt o) (pair ∷ pairs_below name roots) (pairs_below name roots)) + length (pairs_above name (pair ∷ roots)) + 1) (sym (reversed pair.0 name))
      (one_stays (bytes_cmp name pair.0) pair (pairs_below name roots) (pairs_above name roots) roots (λ same. all_stay roots (subst (λ k. AllByRecursion (λ later. IsBelow k later.0) roots) (sym (equal_is_same name pair.0 same)) ascending.0)) (count_ascending roots ascending.1))

  pub never_fewer_with : (root : ℕ) (roots : Roots) → IsAscending roots → length roots ≤ length (with_root name root roots)
  never_fewer_with root roots ascending = omega (arith, length_with root roots, count_ascending roots ascending)

-- ---- pairs that are put in one after the other

pub never_fewer : (pairs roots : Roots) → IsAscending roots → length roots ≤ length (with_roots pairs roots)
never_fewer [] roots ascending = omega arith
never_fewer (pair ∷ pairs) roots ascending =
    let one = never_fewer_with pair.0 pair.1 roots ascending in
    let others = never_fewer pairs (with_root pair.0 pair.1 roots) (ascending_set pair.0 roots pair.1 ascending) in
    omega (arith, one, others)

pub ascending_with : (pairs roots : Roots) → IsAscending roots → IsAscending (with_roots pairs roots)
ascending_with [] roots ascending = ascending
ascending_with (pair ∷ pairs) roots ascending = ascending_with pairs (with_root pair.0 pair.1 roots) (ascending_set pair.0 roots pair.1 ascending)

-- ---- the size

abbrev size_of : Bytes × ℕ → ℕ
size_of pair = length pair.0 + 8

size_fits : (roots : Roots) → AllByRecursion (λ pair. IsWithinLimit pair.0) roots → sum_by size_of roots ≤ length roots * 2147483656
size_fits [] short = omega arith
size_fits (pair ∷ roots) short = rw suc-mul (omega (arith, short.0, size_fits roots short.1, sum_by-cons size_of pair roots))

-- so it fits into 64 bits
pub roots_fit : (roots : Roots) → IsRootMap roots → roots_size roots < 2 ^ 64
roots_fit roots map = omega (arith, map.few, size_fits roots map.keys)
