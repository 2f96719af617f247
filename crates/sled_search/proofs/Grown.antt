-- Small trees, worked out: each change by its law, and each search turn by turn.
use Rattle.std.proofs.Common.{◌≡◌, ◌≢◌, inl, ℕ, ◌≤◌, false, List, [], ◌∷◌, ◌++◌, None, Some, length, refl, ◌∙◌, arith}
use Rattle.std.proofs.lemmas.Option.{slice_get_within}
use Rattle.sled_base.proofs.LinkedLists.Linking.{get_pushed}
use Rattle.sled_base.specs.Order.{Bytes, bytes_cmp, IsBelow, IsAtMost}
use Rattle.sled_log.specs.Contents.{Content, Node}
use Rattle.sled_node.specs.Node.{WholeNode, IsWellFormed}
use Rattle.sled_node.specs.Splitting.{SeparatesAt, SplitsBehind}
use Rattle.sled_node.proofs.SplitPairs.{left_formed, right_formed, parts_split}
use Rattle.sled_search.specs.Examples.{one, leaf, over_one, cache_of, root, new_tree, one_leaf, half_way, two_leaves, three_pairs}
use Rattle.sled_search.specs.Search.{Comes, IsTreeOf}
use Rattle.sled_search.proofs.Empty.{empty-tree}
use Rattle.sled_search.proofs.Hints.{tree-hinted}
use Rattle.sled_search.proofs.Leading.{lt-false}
use Rattle.sled_search.proofs.Separated.{never-below}
use Rattle.sled_search.proofs.SplitTrees.{all-keys, split-in-place}
use Rattle.sled_search.proofs.Trees.{tree-added, tree-set}

-- ---- a leaf of all keys under the root

abbrev pub under_root : List (ℕ × ℕ) → List Content
under_root pairs = cache_of (leaf [] [] None pairs ∷ over_one 2 ∷ [])

all-come : (pairs : List (ℕ × ℕ)) (key : Bytes) → Comes (under_root pairs) key (λ pid _. pid ≡ 2) root
all-come pairs key = (1, (2, (over_one 2, refl, inl (refl, all-keys (over_one 2) refl refl key, rw (lt-false (bytes_cmp key []) (never-below key)) refl)), (leaf [] [] None pairs, refl, ((refl, all-keys (leaf [] [] None pairs) refl refl key), refl))))

pub empty : IsTreeOf new_tree root []
empty = empty-tree new_tree root 2 refl refl

pub with_5 : IsTreeOf (under_root ((5, 50) ∷ [])) root ((one 5, one 50) ∷ [])
with_5 = tree-set new_tree root [] empty 2 (leaf [] [] None []) refl (one 5) (refl, all-keys (leaf [] [] None []) refl refl (one 5)) (all-come [] (one 5)) (one 50)

pub with_1 : IsTreeOf (under_root ((1, 10) ∷ (5, 50) ∷ [])) root ((one 1, one 10) ∷ (one 5, one 50) ∷ [])
with_1 =
    let n = leaf [] [] None ((5, 50) ∷ []) in
    tree-set (under_root ((5, 50) ∷ [])) root ((one 5, one 50) ∷ []) with_5 2 n refl (one 1) (refl, all-keys n refl refl (one 1)) (all-come ((5, 50) ∷ []) (one 1)) (one 10)

pub with_3 : IsTreeOf one_leaf root three_pairs
with_3 =
    let n = leaf [] [] None ((1, 10) ∷ (5, 50) ∷ []) in
    tree-set (under_root ((1, 10) ∷ (5, 50) ∷ [])) root ((one 1, one 10) ∷ (one 5, one 50) ∷ []) with_1 2 n refl (one 3) (refl, all-keys n refl refl (one 3)) (all-come ((1, 10) ∷ (5, 50) ∷ []) (one 3)) (one 30)

-- ---- the split

abbrev pub left_part : WholeNode
left_part = leaf [] (one 5) None ((1, 10) ∷ (3, 30) ∷ [])

abbrev pub right_part : WholeNode
right_part = leaf (one 5) [] None ((5, 50) ∷ [])

abbrev pub whole_leaf : WholeNode
whole_leaf = leaf [] [] None ((1, 10) ∷ (3, 30) ∷ (5, 50) ∷ [])

pub not-empty : one 5 ≢ []
not-empty e = absurd (let h = e in cc)

no-shorter : (b : Bytes) → IsBelow (one 3) b → length (one 5) ≤ length b
no-shorter [] lt = absurd (let h = lt in cc)
no-shorter (x ∷ b) lt = omega arith

same-at-most : (a : Bytes) → bytes_cmp a a ≡ bytes_cmp (one 5) (one 5) → IsAtMost a a
same-at-most a is lt = absurd (let h = lt in let e = is in cc)

pub whole_well : IsWellFormed whole_leaf
whole_well = record {
  range = λ h. absurd (h refl);
  prefix_byte = omega arith;
  prefix_open = λ _. refl;
  prefix_common = refl;
  ascending = ((refl, (refl, tt)), ((refl, tt), (tt, tt)));
  in_range = (all-keys whole_leaf refl refl (one 1), (all-keys whole_leaf refl refl (one 3), (all-keys whole_leaf refl refl (one 5), tt)));
  few = omega arith;
  bounds = (omega arith, omega arith);
  keys = (omega arith, (omega arith, (omega arith, tt)));
  items = (omega arith, (omega arith, (omega arith, tt)));
  pages = (tt, tt);
}

two-of-three : 2 ≤ 3
two-of-three = omega arith

separated : SeparatesAt false (Some (one 3)) (Some (one 5)) (one 5)
separated = record {
  beginning = ([], refl);
  above_left = refl;
  not_above_right = same-at-most (one 5) refl;
  shortest = λ b lt le. no-shorter b lt;
}

pub parts : SplitsBehind whole_leaf 2 left_part right_part
parts = parts_split whole_leaf whole_well 2 two-of-three (one 5) separated

pub left_well : IsWellFormed left_part
left_well = left_formed whole_leaf whole_well 2 two-of-three (one 5) separated

pub right_well : IsWellFormed right_part
right_well = right_formed whole_leaf whole_well 2 two-of-three (one 5) separated

pub with_right : IsTreeOf (one_leaf ++ Node right_part ∷ []) root three_pairs
with_right = tree-added one_leaf (one_leaf ++ Node right_part ∷ []) 4 (λ pid other n at. get_pushed one_leaf (Node right_part) pid (slice_get_within one_leaf pid (Node n) at) ∙ at) (λ n at. absurd (let h = at in cc)) root three_pairs with_3

four-not-two : ◌≢◌ {A = ℕ} 4 2
four-not-two e = absurd (omega arith)

pub halves : IsTreeOf half_way root three_pairs
halves = split-in-place (one_leaf ++ Node right_part ∷ []) root three_pairs with_right 2 whole_leaf left_part right_part refl parts left_well right_well not-empty 4 refl four-not-two

pub both : IsTreeOf two_leaves root three_pairs
both = tree-hinted half_way root three_pairs halves 3 (over_one 2) (one 5) 4 refl refl (tt, tt) 2 refl (leaf [] (one 5) (Some 4) ((1, 10) ∷ (3, 30) ∷ [])) refl refl not-empty refl
