-- The small trees as maps: with their pages in order.
use Rattle.std.proofs.Common.{inl, ℕ, List, [], ◌∷◌, ◌++◌, None, Some, refl}
use Rattle.sled_log.specs.Contents.{Content, Node, Put}
use Rattle.sled_search.specs.Examples.{one, leaf, over_one, root, new_tree, one_leaf, half_way, two_leaves, three_pairs, alone}
use Rattle.sled_search.specs.Map.{Map}
use Rattle.sled_search.specs.Maps.{no_maps, Reaches, AreTrees, IsOff, ChangesOne}
use Rattle.sled_search.specs.Orderly.{IsOrderly}
use Rattle.sled_search.specs.Search.{IsTreeOf}
use Rattle.sled_search.proofs.Grown.{under_root, with_3, left_part, right_part, whole_leaf, parts, whole_well, left_well, right_well, not-empty}
use Rattle.sled_search.proofs.Off.{all-off, no-node-off, one-changes, stays-off}
use Rattle.sled_search.proofs.OneOfMany.{child-among, in-place-among, set-one}
use Rattle.sled_search.proofs.OrdersKept.{leaf-order}
use Rattle.sled_search.proofs.SplitTrees.{all-keys}
use Rattle.sled_search.proofs.Together as together

pub new : AreTrees new_tree (alone [])
new = together.one-more new_tree no_maps 3 2 (together.none-there new_tree) (together.none-off new_tree 3) (together.none-off new_tree 2) refl refl

under-order : (pairs : List (ℕ × ℕ)) → IsOrderly (under_root pairs) root
under-order pairs =
    let n = leaf [] [] None [] in
    let k = leaf [] [] None pairs in
    leaf-order new_tree (under_root pairs) root 2 (new.orderly root ([], refl)) (set-one new_tree 2 (Node k)) n k.pairs refl refl refl

pub of-leaf : (pairs : List (ℕ × ℕ)) (m : Map) → IsTreeOf (under_root pairs) root m → AreTrees (under_root pairs) (alone m)
of-leaf pairs m tree = together.alone (under_root pairs) root m tree (under-order pairs)

pub full : AreTrees one_leaf (alone three_pairs)
full = of-leaf ((1, 10) ∷ (3, 30) ∷ (5, 50) ∷ []) three_pairs with_3

-- ---- the split

abbrev added : List Content
added = one_leaf ++ Node right_part ∷ []

adds : ChangesOne one_leaf 4 added
adds = one-changes one_leaf 4 (Put (Node right_part))

four-off : IsOff one_leaf (alone three_pairs) 4
four-off = no-node-off one_leaf (alone three_pairs) 4 full (λ n at. absurd (let h = at in cc))

pub with-new : AreTrees added (alone three_pairs)
with-new = all-off one_leaf added (alone three_pairs) 4 full four-off adds

at-two : Reaches added root 2
at-two = ([], 1, (2, (over_one 2, refl, inl (refl, all-keys (over_one 2) refl refl [], refl)), refl))

pub split-left : AreTrees half_way (alone three_pairs)
split-left = in-place-among added (alone three_pairs) root with-new (three_pairs, refl) 2 whole_leaf left_part right_part at-two refl parts whole_well left_well right_well 4 (stays-off one_leaf added (alone three_pairs) 4 four-off adds 4 four-off) refl

pub two-led : AreTrees two_leaves (alone three_pairs)
two-led = child-among half_way (alone three_pairs) root split-left (three_pairs, refl) 3 (over_one 2) (one 5) 4 ([], 0, refl) refl refl (tt, tt) 2 refl (leaf [] (one 5) (Some 4) ((1, 10) ∷ (3, 30) ∷ [])) refl refl not-empty refl
