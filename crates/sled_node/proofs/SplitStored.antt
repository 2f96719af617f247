-- The parts of a node, by their stored keys.
use Rattle.std.proofs.Common.{◌≡◌, ℕ, ◌≤◌, false, length, take, drop, Option, None, refl, sym, subst, ◌∙◌, arith}
use Rattle.std.proofs.lemmas.List.{take-map, drop-map}
use Rattle.sled_base.specs.Order.{Bytes}
use Rattle.std.specs.Option.{option_map}
use Rattle.std.specs.Int.NonZero.{non_zero_u64_get}
use Rattle.sled_node.specs.declared.node.Node.TheInside.{Inside}
use Rattle.sled_node.specs.contracts.node.Node.{the_view}
use Rattle.sled_node.specs.declared.node.data.Data.{Data}
use Rattle.sled_node.specs.declared.node.data.Data.TheVariants.{Leaf, Index}
use Rattle.sled_node.specs.Node.{Value, Child, WholeNode, IsWellFormed}
use Rattle.sled_node.specs.Parts.{is_index, pairs_under, node_of, HasStored}
use Rattle.sled_node.specs.Splitting.{own_prefix, IsSplitPlace, SplitsBehind, MergeBack}
use Rattle.sled_node.specs.Restoring.{restored_data, first_data, later_data}
use Rattle.sled_node.proofs.NodeEdits.{made}
use Rattle.sled_node.proofs.Restoring.{Share, stored_from, restored_under, restored_kind}
use Rattle.sled_node.proofs.Receiving.{share_own}
use Rattle.sled_node.proofs.SplitPairs.{left_part, right_part, left_formed, right_formed, parts_split, parts_merge}

module _ (front : Bytes) (count : ℕ) where
  first_under : (parts : Data) → pairs_under front (first_data count parts) ≡ take count (pairs_under front parts)
  first_under (Leaf pairs) = sym (take-map (made front (λ v. Value v)) count pairs)
  first_under (Index pairs) = sym (take-map (made front (λ page. Child page)) count pairs)

  later_under : (parts : Data) → pairs_under front (later_data count parts) ≡ drop count (pairs_under front parts)
  later_under (Leaf pairs) = sym (drop-map (made front (λ v. Value v)) count pairs)
  later_under (Index pairs) = sym (drop-map (made front (λ page. Child page)) count pairs)

first_kind : (count : ℕ) (parts : Data) → is_index (first_data count parts) ≡ is_index parts
first_kind count (Leaf pairs) = refl
first_kind count (Index pairs) = refl

later_kind : (count : ℕ) (parts : Data) → is_index (later_data count parts) ≡ is_index parts
later_kind count (Leaf pairs) = refl
later_kind count (Index pairs) = refl

module _ (n : Inside) (count : ℕ) (s : Bytes) where
  abbrev next : Option ℕ
  next = option_map non_zero_u64_get n.next

  abbrev child : Option ℕ
  child = option_map non_zero_u64_get n.merging_child

  abbrev left_data : Data
  left_data = restored_data (take n.prefix_len n.lo) (own_prefix n.lo s) (first_data count n.contents)

  abbrev right_data : Data
  right_data = restored_data (take n.prefix_len n.lo) (own_prefix s n.hi) (later_data count n.contents)

  abbrev left_node : WholeNode
  left_node = node_of (own_prefix n.lo s) None child n.merging n.lo s left_data

  abbrev right_node : WholeNode
  right_node = node_of (own_prefix s n.hi) next None false s n.hi right_data

  module _ (formed : IsWellFormed (the_view n)) (place : IsSplitPlace (the_view n) count s) where
    within : count ≤ length (the_view n).pairs
    within = let lt = place.others in omega (arith, lt)

    left_whole : IsWellFormed (left_part count s (the_view n))
    left_whole = left_formed (the_view n) formed count within s place.separates

    right_whole : IsWellFormed (right_part count s (the_view n))
    right_whole = right_formed (the_view n) formed count within s place.separates

    left_pairs : pairs_under (take (own_prefix n.lo s) n.lo) left_data ≡ take count (the_view n).pairs
    left_pairs =
        let front = take n.prefix_len n.lo in
        let under = first_under front count n.contents in
        let share = share_own (left_part count s (the_view n)) left_whole in
        restored_under (own_prefix n.lo s) n.lo front (first_data count n.contents) (subst (Share (own_prefix n.lo s) n.lo) (sym under) share) ∙ under

    right_pairs : pairs_under (take (own_prefix s n.hi) s) right_data ≡ drop count (the_view n).pairs
    right_pairs =
        let front = take n.prefix_len n.lo in
        let under = later_under front count n.contents in
        let share = share_own (right_part count s (the_view n)) right_whole in
        restored_under (own_prefix s n.hi) s front (later_data count n.contents) (subst (Share (own_prefix s n.hi) s) (sym under) share) ∙ under

    left_is : left_node ≡ left_part count s (the_view n)
    left_is =
        let kind : is_index left_data ≡ is_index n.contents = restored_kind (take n.prefix_len n.lo) (own_prefix n.lo s) (first_data count n.contents) ∙ first_kind count n.contents in
        (λ i. record (left_part count s (the_view n)) { is_index = kind i; pairs = left_pairs i })

    right_is : right_node ≡ right_part count s (the_view n)
    right_is =
        let kind : is_index right_data ≡ is_index n.contents = restored_kind (take n.prefix_len n.lo) (own_prefix s n.hi) (later_data count n.contents) ∙ later_kind count n.contents in
        (λ i. record (right_part count s (the_view n)) { is_index = kind i; pairs = right_pairs i })

    pub left_data_formed : IsWellFormed left_node
    left_data_formed = subst IsWellFormed (sym left_is) left_whole

    pub right_data_formed : IsWellFormed right_node
    right_data_formed = subst IsWellFormed (sym right_is) right_whole

    pub left_stored : HasStored left_data
    left_stored = stored_from (own_prefix n.lo s) None child n.merging n.lo s left_data left_data_formed

    pub right_stored : HasStored right_data
    right_stored = stored_from (own_prefix s n.hi) next None false s n.hi right_data right_data_formed

    pub stored_split : SplitsBehind (the_view n) count left_node right_node
    stored_split =
        let parts = parts_split (the_view n) formed count within s place.separates in
        subst (SplitsBehind (the_view n) count left_node) (sym right_is) (subst (λ l. SplitsBehind (the_view n) count l (right_part count s (the_view n))) (sym left_is) parts)

    pub stored_merge : MergeBack (the_view n) left_node right_node
    stored_merge =
        let parts = parts_merge (the_view n) formed count within s place.separates in
        subst (MergeBack (the_view n) left_node) (sym right_is) (subst (λ l. MergeBack (the_view n) l (right_part count s (the_view n))) (sym left_is) parts)
