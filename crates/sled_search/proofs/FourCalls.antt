-- Three sets and a split, as four calls.
use Rattle.std.proofs.Common.{inl, ℕ, [], ◌∷◌, ◌++◌, None, Some, refl, take}
use Rattle.sled_log.specs.Contents.{Update, Put, Link, Node, contents_after}
use Rattle.sled_log.specs.Events.{Event, Change}
use Rattle.sled_node.specs.declared.node.link.Link.TheVariants.{Set}
use Rattle.sled_search.specs.Calls.{Becomes, AreCalls, changes_of, left_by}
use Rattle.sled_search.specs.Examples.{one, leaf, over_two, new_tree, one_leaf, half_way, three_pairs, split, alone, four_calls}
use Rattle.sled_search.specs.Map.{Map}
use Rattle.sled_search.specs.Maps.{AreTrees}
use Rattle.sled_search.proofs.Grown.{under_root, empty, with_5, with_1}
use Rattle.sled_search.proofs.GrownTrees.{of-leaf, full, with-new, split-left, two-led}
use Rattle.sled_search.proofs.InARow.{one-change, two-parts}

abbrev m1 : Map
m1 = (one 5, one 50) ∷ []

abbrev m2 : Map
m2 = (one 1, one 10) ∷ (one 5, one 50) ∷ []

abbrev set : ℕ → ℕ → Event Update
set key value = Change 2 (Link (Set (one key) (one value)))

split-call : Becomes AreTrees one_leaf (alone three_pairs) split (alone three_pairs)
split-call =
    let m = alone three_pairs in
    let right = Change 4 (Put (Node (leaf (one 5) [] None ((5, 50) ∷ [])))) in
    let left = Change 2 (Put (Node (leaf [] (one 5) (Some 4) ((1, 10) ∷ (3, 30) ∷ [])))) in
    let index = Change 3 (Put (Node (over_two 2 (one 5) 4))) in
    let added = one_leaf ++ Node (leaf (one 5) [] None ((5, 50) ∷ [])) ∷ [] in
    two-parts AreTrees one_leaf m m m (right ∷ []) (left ∷ index ∷ [])
    (one-change AreTrees one_leaf m m right full with-new)
    (two-parts AreTrees added m m m (left ∷ []) (index ∷ [])
    (one-change AreTrees added m m left with-new split-left)
    (one-change AreTrees half_way m m index split-left two-led)
    (inl refl))
    (inl refl)

pub four : AreCalls AreTrees new_tree (alone []) four_calls
four =
    let pages1 = under_root ((5, 50) ∷ []) in
    let pages2 = under_root ((1, 10) ∷ (5, 50) ∷ []) in
    (one-change AreTrees new_tree (alone []) (alone m1) (set 5 50) (of-leaf [] [] empty) (of-leaf ((5, 50) ∷ []) m1 with_5), (one-change AreTrees pages1 (alone m1) (alone m2) (set 1 10) (of-leaf ((5, 50) ∷ []) m1 with_5) (of-leaf ((1, 10) ∷ (5, 50) ∷ []) m2 with_1), (one-change AreTrees pages2 (alone m2) (alone three_pairs) (set 3 30) (of-leaf ((1, 10) ∷ (5, 50) ∷ []) m2 with_1) full, (split-call, two-led))))

-- two of the three changes of the split
pub cut : AreTrees (contents_after new_tree (take 5 (changes_of four_calls))) (left_by (alone []) (take 3 four_calls))
cut = split-left
