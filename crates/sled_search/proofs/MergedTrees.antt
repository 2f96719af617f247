-- Two leaves of a small tree are merged: each event by its law.
use Rattle.std.proofs.Common.{inl, [], ◌∷◌, Some, refl, arith}
use Rattle.sled_log.specs.Contents.{Free, Node, Update, Put}
use Rattle.sled_log.specs.Events.{Event, Change}
use Rattle.sled_node.specs.Node.{WholeNode, IsWellFormed}
use Rattle.sled_node.specs.Splitting.{CanReceive}
use Rattle.sled_search.specs.Calls.{Becomes}
use Rattle.sled_search.specs.Examples.{one, leaf, over_one, over_two, root, half_way, two_leaves, three_pairs, merged_leaf, alone, merge, with_merged, with_freed}
use Rattle.sled_search.specs.Maps.{AreTrees, IsOff}
use Rattle.sled_search.specs.Merging.{AreUnder, AreBeside}
use Rattle.sled_search.proofs.Grown.{right_part, right_well}
use Rattle.sled_search.proofs.GrownTrees.{two-led}
use Rattle.sled_search.proofs.InARow.{one-change, two-parts}
use Rattle.sled_search.proofs.Merges.{taken-out-among, taken-out-beside, taken-in-among, taken-in-off}
use Rattle.sled_search.proofs.Off.{all-off, one-changes}
use Rattle.sled_search.proofs.Separated.{never-below}
use Rattle.sled_search.proofs.SplitTrees.{all-keys}

abbrev index : WholeNode
index = over_two 2 (one 5) 4

abbrev left_leaf : WholeNode
left_leaf = leaf [] (one 5) (Some 4) ((1, 10) ∷ (3, 30) ∷ [])

index-well : IsWellFormed index
index-well = record {
  range = λ h. absurd (h refl);
  prefix_byte = omega arith;
  prefix_open = λ _. refl;
  prefix_common = refl;
  ascending = ((refl, tt), (tt, tt));
  in_range = (all-keys index refl refl [], (all-keys index refl refl (one 5), tt));
  few = omega arith;
  bounds = (omega arith, omega arith);
  keys = (omega arith, (omega arith, tt));
  items = (omega arith, (omega arith, tt));
  pages = (tt, tt);
}

left-well : IsWellFormed left_leaf
left-well = record {
  range = λ _. refl;
  prefix_byte = omega arith;
  prefix_open = λ _. refl;
  prefix_common = refl;
  ascending = ((refl, tt), (tt, tt));
  in_range = ((never-below (one 1), λ _. refl), ((never-below (one 3), λ _. refl), tt));
  few = omega arith;
  bounds = (omega arith, omega arith);
  keys = (omega arith, (omega arith, tt));
  items = (omega arith, (omega arith, tt));
  pages = ((omega arith, omega arith), tt);
}

under : AreUnder two_leaves root 3 index 2 left_leaf 4 right_part
under = record {
  index = refl;
  from_low = ((0, refl), refl);
  key = one 5;
  behind = λ lt. absurd (let e = lt in cc);
  up_to_key = ((0, refl), refl);
  place = 0;
  low = [];
  leads_left = refl;
  leads_right = refl;
  at_left = refl;
  at_right = refl;
  meet = refl;
  next = refl;
}

taken-out : AreTrees half_way (alone three_pairs)
taken-out = taken-out-among two_leaves (alone three_pairs) root two-led (three_pairs, refl) 3 index 2 left_leaf 4 right_part index-well under

beside : AreBeside half_way root 2 left_leaf 4 right_part
beside = taken-out-beside two_leaves (alone three_pairs) root two-led (three_pairs, refl) 3 index 2 left_leaf 4 right_part index-well under

receives : CanReceive left_leaf right_part
receives = record { kind = refl; bounded = λ e. absurd (let h = e in cc); meet = refl; few = omega arith }

taken-in : AreTrees with_merged (alone three_pairs)
taken-in = taken-in-among half_way (alone three_pairs) root taken-out (three_pairs, refl) 2 left_leaf 4 right_part beside receives left-well right_well

pub right-off : IsOff with_merged (alone three_pairs) 4
right-off = taken-in-off half_way (alone three_pairs) root taken-out (three_pairs, refl) 2 left_leaf 4 right_part beside receives left-well right_well

freed : AreTrees with_freed (alone three_pairs)
freed = all-off with_merged with_freed (alone three_pairs) 4 taken-in right-off (one-changes with_merged 4 (Put Free))

pub merge-call : Becomes AreTrees two_leaves (alone three_pairs) merge (alone three_pairs)
merge-call =
    let m = alone three_pairs in
    let out = Change 3 (Put (Node (over_one 2))) in
    let in' = Change 2 (Put (Node merged_leaf)) in
    let free : Event Update = Change 4 (Put Free) in
    two-parts AreTrees two_leaves m m m (out ∷ []) (in' ∷ free ∷ [])
    (one-change AreTrees two_leaves m m out two-led taken-out)
    (two-parts AreTrees half_way m m m (in' ∷ []) (free ∷ [])
    (one-change AreTrees half_way m m in' taken-out taken-in)
    (one-change AreTrees with_merged m m free taken-in freed)
    (inl refl))
    (inl refl)
