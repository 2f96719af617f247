-- The size of pairs, within the limits and by whole keys.
use Rattle.std.proofs.Common.{◌≡◌, ℕ, ◌+◌, ◌*◌, ◌<◌, ◌≤◌, ◌^◌, List, [], ◌∷◌, ◌++◌, length, get_or, map, take, drop, refl, sym, subst, ◌∙◌, arith}
use Rattle.std.specs.List.{AllByRecursion, sum_by}
use Rattle.std.proofs.Math.Nat.{suc-mul}
use Rattle.std.proofs.lemmas.List.{length-append, length-drop}
use Rattle.std.proofs.lemmas.List.Sums.{sum_by-cons, sum_by-take-le}
use Rattle.sled_base.specs.Order.{Bytes}
use Rattle.sled_node.specs.declared.node.data.Data.{Data}
use Rattle.sled_node.specs.declared.node.data.Data.TheVariants.{Leaf, Index}
use Rattle.sled_node.specs.Pairs.{IsWithinLimit, HasPairs}
use Rattle.sled_node.specs.Node.{Item, Value, Child}
use Rattle.sled_node.specs.Parts.{pairs_under}
use Rattle.sled_node.specs.Sizes.{item_size, pair_size, leaf_size, index_size, data_size}
use Rattle.sled_base.proofs.Each.{all_at}
use Rattle.sled_node.proofs.NodeEdits.{made}

-- ---- limits

sum_small : {X : Type 0} (f : X → ℕ) (P Q : X → Type 0) (most : ℕ) → ((x : X) → P x → Q x → f x ≤ most) → (xs : List X) → AllByRecursion P xs → AllByRecursion Q xs → sum_by f xs ≤ length xs * most
sum_small f P Q most so [] all also = omega arith
sum_small f P Q most so (x ∷ xs) all also = rw suc-mul (omega (arith, so x all.0 also.0, sum_small f P Q most so xs all.1 also.1, sum_by-cons f x xs))

pub leaf_small : (pairs : List (Bytes × Bytes)) → HasPairs IsWithinLimit pairs → leaf_size pairs ≤ 2 ^ 56
leaf_small pairs has =
    omega (arith, has.few, sum_small (λ pair. length pair.0 + length pair.1) (λ pair. IsWithinLimit pair.0) (λ pair. IsWithinLimit pair.1) (2 ^ 32) (λ pair key value. omega (arith, key, value)) pairs has.keys has.items)

pub index_small : (pairs : List (Bytes × ℕ)) → HasPairs (λ page. page < 2 ^ 64) pairs → index_size pairs ≤ 2 ^ 56
index_small pairs has =
    omega (arith, has.few, sum_small (λ pair. length pair.0 + 8) (λ pair. IsWithinLimit pair.0) (λ pair. pair.1 < 2 ^ 64) (2 ^ 32) (λ pair key page. omega (arith, key)) pairs has.keys has.items)

-- the first pairs aren't larger than all, and a pair has two short strings
module _ (pairs : List (Bytes × Bytes)) (has : HasPairs IsWithinLimit pairs) (i : ℕ) where
  pub leaf_so_far : leaf_size (take i pairs) ≤ 2 ^ 56
  leaf_so_far = omega (arith, leaf_small pairs has, sum_by-take-le (λ pair. length pair.0 + length pair.1) pairs i)

  pub leaf_strings : (pair : Bytes × Bytes) → i < length pairs → pair ≡ get_or pairs i pair → IsWithinLimit pair.0 × IsWithinLimit pair.1
  leaf_strings pair lt is = subst (λ p. IsWithinLimit p.0 × IsWithinLimit p.1) (sym is) (all_at (λ p. IsWithinLimit p.0) pairs i pair has.keys lt, all_at (λ p. IsWithinLimit p.1) pairs i pair has.items lt)

-- a pair of an index has one
module _ (pairs : List (Bytes × ℕ)) (has : HasPairs (λ page. page < 2 ^ 64) pairs) (i : ℕ) where
  pub index_so_far : index_size (take i pairs) ≤ 2 ^ 56
  index_so_far = omega (arith, index_small pairs has, sum_by-take-le (λ pair. length pair.0 + 8) pairs i)

  pub index_strings : (pair : Bytes × ℕ) → i < length pairs → pair ≡ get_or pairs i pair → IsWithinLimit pair.0
  index_strings pair lt is = subst (λ p. IsWithinLimit p.0) (sym is) (all_at (λ p. IsWithinLimit p.0) pairs i pair has.keys lt)

-- ---- whole keys

module _ (skipped : ℕ) (front : Bytes) (long : length front ≡ skipped) where
  stored_length : (key : Bytes) → length (drop skipped (front ++ key)) ≡ length key
  stored_length key = omega (arith, length-drop skipped (front ++ key), length-append front key, long)

  module _ {V : Type 0} (make : V → Item) where
    size_under : (pairs : List (Bytes × V)) → sum_by (pair_size skipped) (map (made front make) pairs) ≡ sum_by (λ pair. length pair.0 + item_size (make pair.1)) pairs
    size_under [] = refl
    size_under (pair ∷ pairs) =
        sum_by-cons (pair_size skipped) (made front make pair) (map (made front make) pairs) ∙ omega (arith, stored_length pair.0, size_under pairs, sum_by-cons (λ p. length p.0 + item_size (make p.1)) pair pairs)

  -- a pair counts the same by its whole key and by its stored one
  pub data_under : (parts : Data) → sum_by (pair_size skipped) (pairs_under front parts) ≡ data_size parts
  data_under (Leaf pairs) = size_under (λ v. Value v) pairs
  data_under (Index pairs) = size_under (λ page. Child page) pairs
