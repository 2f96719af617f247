-- Stored keys that come to lack other first bytes, on whole keys.
use Rattle.std.proofs.Common.{◌≡◌, ℕ, ◌<◌, ◌^◌, Bool, true, false, List, [], ◌∷◌, ◌++◌, map, take, Option, refl, sym, ◌∙◌, arith}
use Rattle.std.specs.List.{AllByRecursion}
use Rattle.std.proofs.lemmas.List.{length-map, length-append, map-append}
use Rattle.sled_base.specs.Order.{Bytes, IsBelow}
use Rattle.sled_base.specs.OrderLaws.{under_one_front}
use Rattle.sled_node.specs.declared.node.data.Data.{Data}
use Rattle.sled_node.specs.declared.node.data.Data.TheVariants.{Leaf, Index}
use Rattle.sled_node.specs.Pairs.{IsWithinLimit, IsAscending, HasPairs}
use Rattle.sled_node.specs.Node.{Item, Value, Child, WholeNode, IsWellFormed, ItemFits}
use Rattle.sled_node.specs.Parts.{is_index, pairs_under, node_of, HasStored}
use Rattle.sled_node.specs.Restoring.{restored_data, joined_data}
use Rattle.sled_node.proofs.NodeEdits.{made}
use Rattle.sled_node.proofs.Prefixes.{restored_whole}

-- ---- each element

all_unmap : {X Y : Type 0} {P : X → Type 0} (Q : Y → Type 0) (f : X → Y) → ((x : X) → Q (f x) → P x) → (xs : List X) → AllByRecursion Q (map f xs) → AllByRecursion P xs
all_unmap Q f so [] all = tt
all_unmap Q f so (x ∷ xs) all = (so x all.0, all_unmap Q f so xs all.1)

pub all_parts : {X : Type 0} (P : X → Type 0) (xs ys : List X) → AllByRecursion P (xs ++ ys) → AllByRecursion P xs × AllByRecursion P ys
all_parts P [] ys all = (tt, all)
all_parts P (x ∷ xs) ys all = let rest = all_parts P xs ys all.1 in ((all.0, rest.0), rest.1)

-- ---- what stored pairs keep, from the whole keys

ascending_back : {V : Type 0} (front : Bytes) (make : V → Item) (pairs : List (Bytes × V)) → IsAscending (map (made front make) pairs) → IsAscending pairs
ascending_back front make [] ascending = tt
ascending_back front make (pair ∷ pairs) ascending =
    (all_unmap (λ later. IsBelow (front ++ pair.0) later.0) (made front make) (λ later lt. sym (under_one_front front pair.0 later.0) ∙ lt) pairs ascending.0, ascending_back front make pairs ascending.1)

short_back : (front key : Bytes) → IsWithinLimit (front ++ key) → IsWithinLimit key
short_back front key short = omega (arith, short, length-append front key)

stored_back : {V : Type 0} (front : Bytes) (make : V → Item) (pairs : List (Bytes × V)) (Fits : Item → Type 0) (fits : V → Type 0) → ((item : V) → Fits (make item) → fits item) → HasPairs Fits (map (made front make) pairs) → HasPairs fits pairs
stored_back front make pairs Fits fits so has = record {
  few = omega (arith, has.few, length-map pairs (made front make));
  ascending = ascending_back front make pairs has.ascending;
  keys = all_unmap (λ pair. IsWithinLimit pair.0) (made front make) (λ pair short. short_back front pair.0 short) pairs has.keys;
  items = all_unmap (λ pair. Fits pair.1) (made front make) (λ pair fits. so pair.1 fits) pairs has.items;
}

whole_pairs : (n : WholeNode) → IsWellFormed n → HasPairs (ItemFits n.is_index) n.pairs
whole_pairs n formed = record { few = formed.few; ascending = formed.ascending; keys = formed.keys; items = formed.items }

pub stored_from : (p : ℕ) (next child : Option ℕ) (capped : Bool) (lo hi : Bytes) (parts : Data) → IsWellFormed (node_of p next child capped lo hi parts) → HasStored parts
stored_from p next child capped lo hi (Leaf pairs) formed =
    stored_back (take p lo) (λ v. Value v) pairs (ItemFits false) IsWithinLimit (λ v fits. fits) (whole_pairs (node_of p next child capped lo hi (Leaf pairs)) formed)
stored_from p next child capped lo hi (Index pairs) formed =
    stored_back (take p lo) (λ page. Child page) pairs (ItemFits true) (λ page. page < 2 ^ 64) (λ page fits. fits) (whole_pairs (node_of p next child capped lo hi (Index pairs)) formed)

-- ---- the same whole keys

abbrev pub Share : ℕ → Bytes → List (Bytes × Item) → Type 0
Share q lo pairs = AllByRecursion (λ pair. take q pair.0 ≡ take q lo) pairs

module _ (q : ℕ) (lo : Bytes) where
  pub restored_under : (front : Bytes) (parts : Data) → Share q lo (pairs_under front parts) → pairs_under (take q lo) (restored_data front q parts) ≡ pairs_under front parts
  restored_under front (Leaf pairs) share = restored_whole front lo q (λ v. Value v) pairs share
  restored_under front (Index pairs) share = restored_whole front lo q (λ page. Child page) pairs share

  pub joined_under : (left right : Data) → is_index left ≡ is_index right → pairs_under (take q lo) (joined_data left right) ≡ pairs_under (take q lo) left ++ pairs_under (take q lo) right
  joined_under (Leaf left) (Leaf right) kind = map-append (made (take q lo) (λ v. Value v)) left right
  joined_under (Index left) (Index right) kind = map-append (made (take q lo) (λ page. Child page)) left right
  joined_under (Leaf left) (Index right) kind = absurd cc
  joined_under (Index left) (Leaf right) kind = absurd cc

pub restored_kind : (front : Bytes) (q : ℕ) (parts : Data) → is_index (restored_data front q parts) ≡ is_index parts
restored_kind front q (Leaf pairs) = refl
restored_kind front q (Index pairs) = refl

pub joined_kind : (left right : Data) → is_index (joined_data left right) ≡ is_index left
joined_kind (Leaf left) (Leaf right) = refl
joined_kind (Leaf left) (Index right) = refl
joined_kind (Index left) (Leaf right) = refl
joined_kind (Index left) (Index right) = refl
