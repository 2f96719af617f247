-- The node of stored pairs within its bounds is well-formed.
use Rattle.std.proofs.Common.{ℕ, ◌-◌, ◌<◌, ◌≤◌, ◌^◌, Bool, true, false, List, [], ◌∷◌, ◌++◌, map, take, Option, sym, ◌∙◌, arith}
use Rattle.std.specs.Prelude.{IfSome}
use Rattle.std.specs.List.{AllByRecursion}
use Rattle.std.proofs.lemmas.List.{length-map}
use Rattle.sled_base.specs.Order.{Bytes, IsBelow}
use Rattle.sled_base.specs.OrderLaws.{under_one_front}
use Rattle.sled_node.specs.Limits.{bytes_limit, prefix_limit}
use Rattle.sled_node.specs.declared.node.data.Data.{Data}
use Rattle.sled_node.specs.declared.node.data.Data.TheVariants.{Leaf, Index}
use Rattle.sled_node.specs.Pairs.{IsWithinLimit, IsAscending, HasPairs}
use Rattle.sled_node.specs.Node.{Item, Value, Child, WholeNode, whole, IsInRange, IsWellFormed, IsPage, ItemFits}
use Rattle.sled_node.specs.Parts.{node_of, AreBounds, IsStoredWithin, AreStoredWithin, HasStored}
use Rattle.sled_node.proofs.NodeEdits.{made}
use Rattle.sled_node.proofs.WholeKeys.{rest, whole_length, whole_lo, whole_hi, rest_some, hi_some}

-- ---- what holds of each element

all_map : {X Y : Type 0} {P : X → Type 0} (Q : Y → Type 0) (f : X → Y) → ((x : X) → P x → Q (f x)) → (xs : List X) → AllByRecursion P xs → AllByRecursion Q (map f xs)
all_map Q f so [] all = tt
all_map Q f so (x ∷ xs) all = (so x all.0, all_map Q f so xs all.1)

all_back : {X Y : Type 0} {P : X → Type 0} (Q R : Y → Type 0) (f : X → Y) → ((x : X) → Q (f x) → R (f x) → P x) → (xs : List X) → AllByRecursion Q (map f xs) → AllByRecursion R (map f xs) → AllByRecursion P xs
all_back Q R f so [] all also = tt
all_back Q R f so (x ∷ xs) all also = (so x all.0 also.0, all_back Q R f so xs all.1 also.1)

-- ---- whole keys

ascending_under : {V : Type 0} (front : Bytes) (make : V → Item) (pairs : List (Bytes × V)) → IsAscending pairs → IsAscending (map (made front make) pairs)
ascending_under front make [] ascending = tt
ascending_under front make (pair ∷ pairs) ascending =
    (all_map (λ later. IsBelow (front ++ pair.0) later.0) (made front make) (λ later lt. under_one_front front pair.0 later.0 ∙ lt) pairs ascending.0, ascending_under front make pairs ascending.1)

module _ (n : WholeNode) (bounds : AreBounds n.prefix_len n.lo n.hi) (byte : n.prefix_len ≤ prefix_limit) (stored : Bytes) where
  abbrev IsWithin : Type 0
  IsWithin = IsStoredWithin (rest n.prefix_len n.lo) (rest n.prefix_len n.hi) (bytes_limit - n.prefix_len) stored

  whole_in_range : IsWithin → IsInRange n (whole n stored)
  whole_in_range within =
      (λ lt. within.1 (sym (whole_lo n bounds stored) ∙ lt), λ some. whole_hi n bounds stored ∙ within.2 (rest_some n bounds stored some))

  whole_fits : IsWithin → IsWithinLimit (whole n stored)
  whole_fits within = omega (arith, within.0, whole_length n bounds stored)

  stored_within : IsInRange n (whole n stored) → IsWithinLimit (whole n stored) → IsWithin
  stored_within inside fits =
      (omega (arith, fits, whole_length n bounds stored), λ lt. inside.0 (whole_lo n bounds stored ∙ lt), λ some. sym (whole_hi n bounds stored) ∙ inside.1 (hi_some n bounds stored some))

-- ---- the node

module _ (p : ℕ) (next child : Option ℕ) (capped : Bool) (lo hi : Bytes) (byte : p ≤ prefix_limit) (bounds : AreBounds p lo hi) where
  abbrev parts_node : Data → WholeNode
  parts_node parts = node_of p next child capped lo hi parts

  abbrev made_node : {V : Type 0} → Bool → (V → Item) → List (Bytes × V) → WholeNode
  made_node index make pairs = record { prefix_len = p; lo = lo; hi = hi; next = next; child = child; capped = capped; is_index = index; pairs = map (made (take p lo) make) pairs }

  pairs_formed : IfSome next IsPage × IfSome child IsPage → {V : Type 0} (index : Bool) (make : V → Item) (fits : V → Type 0) → ((item : V) → fits item → ItemFits index (make item)) → (pairs : List (Bytes × V)) → HasPairs fits pairs
      → AllByRecursion (λ pair. IsStoredWithin (rest p lo) (rest p hi) (bytes_limit - p) pair.0) pairs → IsWellFormed (made_node index make pairs)
  pairs_formed pages index make fits so pairs has within =
      let n = made_node index make pairs in
      let whole = made (take p lo) make in
      record {
        range = bounds.range;
        prefix_byte = byte;
        prefix_open = bounds.prefix_open;
        prefix_common = bounds.prefix_common;
        ascending = ascending_under (take p lo) make pairs has.ascending;
        in_range = all_map (λ pair. IsInRange n pair.0) whole (λ pair h. whole_in_range n bounds byte pair.0 h) pairs within;
        few = omega (arith, has.few, length-map pairs whole);
        bounds = bounds.bounds;
        keys = all_map (λ pair. IsWithinLimit pair.0) whole (λ pair h. whole_fits n bounds byte pair.0 h) pairs within;
        items = all_map (λ pair. ItemFits index pair.1) whole (λ pair h. so pair.1 h) pairs has.items;
        pages = pages;
      }

  pub parts_formed : IfSome next IsPage × IfSome child IsPage → (parts : Data) → HasStored parts → AreStoredWithin (rest p lo) (rest p hi) (bytes_limit - p) parts → IsWellFormed (parts_node parts)
  parts_formed pages (Leaf pairs) has within = pairs_formed pages false (λ v. Value v) IsWithinLimit (λ v fits. fits) pairs has within
  parts_formed pages (Index pairs) has within = pairs_formed pages true (λ page. Child page) (λ page. page < 2 ^ 64) (λ page fits. fits) pairs has within

  pub parts_within : (parts : Data) → IsWellFormed (parts_node parts) → AreStoredWithin (rest p lo) (rest p hi) (bytes_limit - p) parts
  parts_within (Leaf pairs) formed = let n = parts_node (Leaf pairs) in all_back (λ pair. IsInRange n pair.0) (λ pair. IsWithinLimit pair.0) (made (take p lo) (λ v. Value v)) (λ pair inside fits. stored_within n bounds byte pair.0 inside fits) pairs formed.in_range formed.keys
  parts_within (Index pairs) formed = let n = parts_node (Index pairs) in all_back (λ pair. IsInRange n pair.0) (λ pair. IsWithinLimit pair.0) (made (take p lo) (λ page. Child page)) (λ pair inside fits. stored_within n bounds byte pair.0 inside fits) pairs formed.in_range formed.keys
