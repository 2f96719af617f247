-- Worked examples: the pages of small trees, one page on a line, and what some changes make of them.
use Rattle.std.specs.Prelude.{ℕ, false, List, [], ◌∷◌, ◌++◌, map, Option, Some, None}
use Rattle.sled_base.specs.Order.{Bytes}
use Rattle.sled_log.specs.Contents.{Content, Free, Roots, Counter, Node, Update, Put, Link}
use Rattle.sled_log.specs.Events.{Event, Change}
use Rattle.sled_node.specs.Children.{index_of}
use Rattle.sled_node.specs.Node.{Value, Child, WholeNode, empty_leaf}
use Rattle.sled_node.specs.declared.node.link.Link.TheVariants.{Set}
use Rattle.sled_search.specs.Calls.{Call}
use Rattle.sled_search.specs.Map.{Map}
use Rattle.sled_search.specs.Maps.{Maps, no_maps, with_map}

-- a string of one byte
abbrev pub one : ℕ → Bytes
one byte = byte ∷ []

-- a leaf whose range is from `lo` up to `hi`, with its next page; its keys and values have one byte each
abbrev pub leaf : Bytes → Bytes → Option ℕ → List (ℕ × ℕ) → WholeNode
leaf lo hi next pairs = record { prefix_len = 0; lo = lo; hi = hi; next = next; child = None; capped = false; is_index = false; pairs = map (λ pair. (one pair.0, Value (one pair.1))) pairs }

-- an index over all keys with one child; and one with two children, of which the second begins at a key
abbrev pub over_one : ℕ → WholeNode
over_one page = index_of (([], Child page) ∷ [])

abbrev pub over_two : ℕ → Bytes → ℕ → WholeNode
over_two page at other = index_of (([], Child page) ∷ (at, Child other) ∷ [])

-- The named roots and the counter are on the pages 0 and 1, a leaf on page 2, and the index over it, the root of each tree here, on page 3.
abbrev pub cache_of : List WholeNode → List Content
cache_of nodes = Roots [] ∷ Counter 0 ∷ map Node nodes

abbrev pub root : ℕ
root = 3

abbrev pub new_tree : List Content
new_tree = cache_of (
    empty_leaf
    ∷ over_one 2
    ∷ [])

-- three pairs on the leaf
abbrev pub one_leaf : List Content
one_leaf = cache_of (
    leaf [] [] None ((1, 10) ∷ (3, 30) ∷ (5, 50) ∷ [])
    ∷ over_one 2
    ∷ [])

-- The leaf is split. The index leads only to the left part, and the left part leads on to the right one.
abbrev pub half_way : List Content
half_way = cache_of (
    leaf [] (one 5) (Some 4) ((1, 10) ∷ (3, 30) ∷ [])
    ∷ over_one 2
    ∷ leaf (one 5) [] None ((5, 50) ∷ [])
    ∷ [])

-- The index leads to both parts.
abbrev pub two_leaves : List Content
two_leaves = cache_of (
    leaf [] (one 5) (Some 4) ((1, 10) ∷ (3, 30) ∷ [])
    ∷ over_two 2 (one 5) 4
    ∷ leaf (one 5) [] None ((5, 50) ∷ [])
    ∷ [])

-- the map that these pages are
abbrev pub three_pairs : Map
three_pairs = (one 1, one 10) ∷ (one 3, one 30) ∷ (one 5, one 50) ∷ []

-- ---- from the new tree to two leaves

abbrev pub sets : List (Event Update)
sets = Change 2 (Link (Set (one 5) (one 50))) ∷ Change 2 (Link (Set (one 1) (one 10))) ∷ Change 2 (Link (Set (one 3) (one 30))) ∷ []

-- the right part is put on a new page, the left part replaces the whole leaf, and then the index gets one more child
abbrev pub split : List (Event Update)
split =
    Change 4 (Put (Node (leaf (one 5) [] None ((5, 50) ∷ []))))
    ∷ Change 2 (Put (Node (leaf [] (one 5) (Some 4) ((1, 10) ∷ (3, 30) ∷ []))))
    ∷ Change 3 (Put (Node (over_two 2 (one 5) 4)))
    ∷ []

-- each set is a call, and so is the split, which leaves the map as it is
abbrev pub alone : Map → Maps
alone m = with_map root m no_maps

abbrev pub four_calls : List (Call Maps)
four_calls =
    (Change 2 (Link (Set (one 5) (one 50))) ∷ [], alone ((one 5, one 50) ∷ []))
    ∷ (Change 2 (Link (Set (one 1) (one 10))) ∷ [], alone ((one 1, one 10) ∷ (one 5, one 50) ∷ []))
    ∷ (Change 2 (Link (Set (one 3) (one 30))) ∷ [], alone three_pairs)
    ∷ (split, alone three_pairs)
    ∷ []

-- ---- and back to one

abbrev pub merged_leaf : WholeNode
merged_leaf = leaf [] [] None ((1, 10) ∷ (3, 30) ∷ (5, 50) ∷ [])

-- The index loses the right leaf, the left leaf gets all pairs, and then the right leaf's page is freed. After the first of these changes the
-- pages are those of the split before its last change.
abbrev pub merge : List (Event Update)
merge =
    Change 3 (Put (Node (over_one 2)))
    ∷ Change 2 (Put (Node merged_leaf))
    ∷ Change 4 (Put Free)
    ∷ []

abbrev pub with_merged : List Content
with_merged = cache_of (merged_leaf ∷ over_one 2 ∷ leaf (one 5) [] None ((5, 50) ∷ []) ∷ [])

abbrev pub with_freed : List Content
with_freed = one_leaf ++ Free ∷ []

-- ---- two roots

-- two new trees: the second leaf is on page 4, and its root on page 5
abbrev pub two_trees : List Content
two_trees = cache_of (
    empty_leaf
    ∷ over_one 2
    ∷ empty_leaf
    ∷ over_one 4
    ∷ [])

-- two roots, on the pages 3 and 4, over the same leaf
abbrev pub one_leaf_of_two : List Content
one_leaf_of_two = cache_of (
    empty_leaf
    ∷ over_one 2
    ∷ over_one 2
    ∷ [])

-- ---- trees whose pages are not in order

-- The index leads to the right leaf by two pairs. Without the first of them, a search still goes there.
abbrev pub over_three : WholeNode
over_three = index_of (([], Child 2) ∷ (one 5, Child 4) ∷ (one 7, Child 4) ∷ [])

abbrev pub led_twice : List Content
led_twice = cache_of (
    leaf [] (one 5) (Some 4) ((1, 10) ∷ (3, 30) ∷ [])
    ∷ over_three
    ∷ leaf (one 5) [] None ((5, 50) ∷ [])
    ∷ [])

-- another index leads there too
abbrev pub led_by_another : List Content
led_by_another = cache_of (
    leaf [] (one 5) (Some 4) ((1, 10) ∷ (3, 30) ∷ [])
    ∷ over_two 2 (one 7) 5
    ∷ leaf (one 5) [] None ((5, 50) ∷ [])
    ∷ over_one 4
    ∷ [])

-- ---- pages that are no tree

-- the left part doesn't lead on, and the index leads only to it
abbrev pub part_lost : List Content
part_lost = cache_of (
    leaf [] (one 5) None ((1, 10) ∷ (3, 30) ∷ [])
    ∷ over_one 2
    ∷ leaf (one 5) [] None ((5, 50) ∷ [])
    ∷ [])

-- the index leads the keys from 2 on to the right part, which begins at 5
abbrev pub led_astray : List Content
led_astray = cache_of (
    leaf [] (one 5) (Some 4) ((1, 10) ∷ (3, 30) ∷ [])
    ∷ over_two 2 (one 2) 4
    ∷ leaf (one 5) [] None ((5, 50) ∷ [])
    ∷ [])

-- the left part has all keys in its range
abbrev pub not_cut : List Content
not_cut = cache_of (
    leaf [] [] None ((1, 10) ∷ (3, 30) ∷ [])
    ∷ over_two 2 (one 5) 4
    ∷ leaf (one 5) [] None ((5, 50) ∷ [])
    ∷ [])

-- a tree, but of only two of the pairs: the last pair of the left part is lost
abbrev pub pair_lost : List Content
pair_lost = cache_of (
    leaf [] (one 5) (Some 4) ((1, 10) ∷ [])
    ∷ over_two 2 (one 5) 4
    ∷ leaf (one 5) [] None ((5, 50) ∷ [])
    ∷ [])
