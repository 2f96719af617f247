-- Pages that are a tree, and in no order: another way leads to the right leaf.
use Rattle.std.proofs.Common.{◌≡◌, ◌⊎◌, inl, inr, ℕ, zero, suc, ◌<◌, List, [], ◌∷◌, ◌++◌, Some, refl, sym, ◌∙◌, subst, arith}
use Rattle.std.proofs.lemmas.Option.{slice_get_within}
use Rattle.sled_base.proofs.LinkedLists.Linking.{get_pushed}
use Rattle.sled_base.specs.Order.{Bytes, bytes_cmp, IsBelow, IsAtMost}
use Rattle.sled_base.specs.OrderLaws.{at_most_trans, below_is_at_most}
use Rattle.sled_log.specs.Contents.{Content, Node}
use Rattle.sled_node.specs.Node.{Child, WholeNode}
use Rattle.sled_search.specs.Examples.{one, leaf, over_one, over_two, root, half_way, two_leaves, three_pairs, over_three, led_twice, led_by_another}
use Rattle.sled_search.specs.Map.{at_key, leading}
use Rattle.sled_search.specs.Orderly.{IsAt, IsOrderly}
use Rattle.sled_search.specs.Search.{LeadsDown, LeadsRight, LeadsTo, IsLeafOf, HasAt, Finds, Comes, IsTreeOf}
use Rattle.sled_search.proofs.Grown.{halves, both}
use Rattle.sled_search.proofs.Kept.{OthersStay, HereToo, kept}
use Rattle.sled_search.proofs.Leading.{lt-true, lt-false}
use Rattle.sled_search.proofs.OneOfMany.{set-one}
use Rattle.sled_search.proofs.Search.{one_node}
use Rattle.sled_search.proofs.Separated.{never-below}
use Rattle.sled_search.proofs.Splits.{side}
use Rattle.sled_search.proofs.SplitTrees.{all-keys}
use Rattle.sled_search.proofs.Trees.{covers-stay, tree-added}
use Rattle.sled_search.proofs.Ways.{same-child, same-next}

five-up : (key : Bytes) → IsAtMost (one 7) key → IsAtMost (one 5) key
five-up key le = at_most_trans (one 5) (one 7) key (below_is_at_most (one 5) (one 7) refl) le

abbrev left_leaf : WholeNode
left_leaf = leaf [] (one 5) (Some 4) ((1, 10) ∷ (3, 30) ∷ [])

not-seven : IsAtMost (one 7) (one 5) → ⊥
not-seven le = le refl

-- ---- by two pairs

twice-stay : OthersStay two_leaves led_twice 3
twice-stay pid other k there = set-one two_leaves 3 (Node over_three) pid other ∙ there

same-lead : (key : Bytes) → leading over_three.pairs key ≡ leading (over_two 2 (one 5) 4).pairs key
same-lead key = by (side key (one 7))
  where
    by : IsBelow key (one 7) ⊎ IsAtMost (one 7) key → leading over_three.pairs key ≡ leading (over_two 2 (one 5) 4).pairs key
    by (inl below) = rw (lt-true (bytes_cmp key (one 7)) below) refl
    by (inr above) = rw (lt-false (bytes_cmp key (one 7)) above, lt-false (bytes_cmp key (one 5)) (five-up key above)) refl

twice-here : (key : Bytes) (Is : ℕ → WholeNode → Type 0) → HereToo two_leaves led_twice 3 twice-stay key Is Is
twice-here key Is zero less (k, there, x) = absurd (let same = one_node two_leaves 3 (over_two 2 (one 5) 4) k refl there in let e = (subst (λ (w : WholeNode). IsLeafOf key w) same x.0).0 in cc)
twice-here key Is (suc turns) less (to, (k, there, x), rest) = by (subst (λ (w : WholeNode). LeadsTo w key to) (one_node two_leaves 3 (over_two 2 (one 5) 4) k refl there) x) (less turns (omega arith) to rest)
  where
    by : LeadsTo (over_two 2 (one 5) 4) key to → Comes led_twice key Is to → Comes led_twice key Is 3
    by (inl down) (more, found) = (suc more, (to, (over_three, refl, inl (refl, all-keys over_three refl refl key, same-lead key ∙ down.2)), found))
    by (inr right) found = absurd (right.0 (all-keys (over_two 2 (one 5) 4) refl refl key))

twice-kept : (key : Bytes) (Is : ℕ → WholeNode → Type 0) → Comes two_leaves key Is root → Comes led_twice key Is root
twice-kept key Is found = kept two_leaves led_twice 3 twice-stay key Is Is (λ pid n other is. is) (twice-here key Is) root found

pub twice-tree : IsTreeOf led_twice root three_pairs
twice-tree = record {
  ascending = both.ascending;
  comes = λ key. twice-kept key (λ _ n. HasAt key (at_key three_pairs key) n) (both.comes key);
  covers = covers-stay two_leaves led_twice root three_pairs both (λ key J found. twice-kept key (λ pid n. J pid n.lo n.hi) found);
}

pub twice-not : IsOrderly led_twice root → ⊥
twice-not order =
    let five : IsAt led_twice root (one 5) 3 over_three = ((0, refl), refl) in
    let seven : IsAt led_twice root (one 7) 3 over_three = ((0, refl), refl) in
    let down_five : LeadsDown over_three (one 5) 4 = (refl, all-keys over_three refl refl (one 5), refl) in
    let down_seven : LeadsDown over_three (one 7) 4 = (refl, all-keys over_three refl refl (one 7), refl) in
    by order (order.rises (one 5) 3 4 over_three five (inl down_five)).1 (order.down (one 7) 3 4 over_three seven down_seven).1.1.0
  where
    by : (order : IsOrderly led_twice root) → IsAtMost (order.first 4) (one 5) → IsAtMost (one 7) (order.first 4) ⊎ IsBelow (one 7) (one 7) → ⊥
    by order up (inl low) = not-seven (at_most_trans (one 7) (order.first 4) (one 5) low up)
    by order up (inr less) = absurd (let e = less in cc)

-- ---- by another index

abbrev with_index : List Content
with_index = half_way ++ Node (over_one 4) ∷ []

with-index : IsTreeOf with_index root three_pairs
with-index = tree-added half_way with_index 5 (λ pid other n at. get_pushed half_way (Node (over_one 4)) pid (slice_get_within half_way pid (Node n) at) ∙ at) (λ n at. absurd (let h = at in cc)) root three_pairs halves

abbrev other_root : WholeNode
other_root = over_two 2 (one 7) 5

another-stay : OthersStay with_index led_by_another 3
another-stay pid other k there = set-one with_index 3 (Node other_root) pid other ∙ there

module _ (key : Bytes) (Is : ℕ → WholeNode → Type 0) where
  abbrev Fewer : ℕ → Type 0
  Fewer turns = (t : ℕ) → t < turns → (pid : ℕ) → Finds with_index key Is t pid → Comes led_by_another key Is pid

  -- a key from 7 on went right at the left leaf, and is led by the other index now
  from-left : IsAtMost (one 7) key → (turns : ℕ) → Fewer turns → Finds with_index key Is turns 2 → Comes led_by_another key Is 3
  from-left le zero less (k, there, x) = absurd (five-up key le ((subst (λ (w : WholeNode). IsLeafOf key w) (one_node with_index 2 left_leaf k refl there) x.0).1.1 (λ e. absurd (let h = e in cc))))
  from-left le (suc turns) less (to, (k, there, x), rest) = by (subst (λ (w : WholeNode). LeadsTo w key to) (one_node with_index 2 left_leaf k refl there) x) (less turns (omega arith) to rest)
    where
      down : leading (over_one 4).pairs key ≡ Some (Child 4)
      down = rw (lt-false (bytes_cmp key []) (never-below key)) refl

      first : leading other_root.pairs key ≡ Some (Child 5)
      first = rw (lt-false (bytes_cmp key (one 7)) le) refl

      by : LeadsTo left_leaf key to → Comes led_by_another key Is to → Comes led_by_another key Is 3
      by (inl below) found = absurd (let e = below.0 in cc)
      by (inr right) found =
          let (more, there) = subst (λ page. Comes led_by_another key Is page) (same-next to 4 (sym right.1)) found in
          (suc (suc more), (5, (other_root, refl, inl (refl, all-keys other_root refl refl key, first)), (4, (over_one 4, refl, inl (refl, all-keys (over_one 4) refl refl key, down)), there)))

  another-here : HereToo with_index led_by_another 3 another-stay key Is Is
  another-here zero less (k, there, x) = absurd (let same = one_node with_index 3 (over_one 2) k refl there in let e = (subst (λ (w : WholeNode). IsLeafOf key w) same x.0).0 in cc)
  another-here (suc turns) less (to, (k, there, x), rest) = by (subst (λ (w : WholeNode). LeadsTo w key to) (one_node with_index 3 (over_one 2) k refl there) x) (side key (one 7))
    where
      only : leading (over_one 2).pairs key ≡ Some (Child 2)
      only = rw (lt-false (bytes_cmp key []) (never-below key)) refl

      first : IsBelow key (one 7) → leading other_root.pairs key ≡ Some (Child 2)
      first lt = rw (lt-true (bytes_cmp key (one 7)) lt, lt-false (bytes_cmp key []) (never-below key)) refl

      by : LeadsTo (over_one 2) key to → IsBelow key (one 7) ⊎ IsAtMost (one 7) key → Comes led_by_another key Is 3
      by (inr right) s = absurd (right.0 (all-keys (over_one 2) refl refl key))
      by (inl down) (inl lt) =
          let (more, found) = less turns (omega arith) 2 (subst (λ page. Finds with_index key Is turns page) (same-child to 2 (sym down.2 ∙ only)) rest) in
          (suc more, (2, (other_root, refl, inl (refl, all-keys other_root refl refl key, first lt)), found))
      by (inl down) (inr le) = from-left le turns (λ t lt pid found. less t (omega arith) pid found) (subst (λ page. Finds with_index key Is turns page) (same-child to 2 (sym down.2 ∙ only)) rest)

  another-kept : Comes with_index key Is root → Comes led_by_another key Is root
  another-kept found = kept with_index led_by_another 3 another-stay key Is Is (λ pid n other is. is) another-here root found

pub another-tree : IsTreeOf led_by_another root three_pairs
another-tree = record {
  ascending = with-index.ascending;
  comes = λ key. another-kept key (λ _ n. HasAt key (at_key three_pairs key) n) (with-index.comes key);
  covers = covers-stay with_index led_by_another root three_pairs with-index (λ key J found. another-kept key (λ pid n. J pid n.lo n.hi) found);
}

pub another-not : IsOrderly led_by_another root → ⊥
another-not order =
    let at_root : (key : Bytes) → IsAt led_by_another root key 3 other_root = λ key. ((0, refl), refl) in
    let down_five : LeadsDown other_root (one 5) 2 = (refl, all-keys other_root refl refl (one 5), refl) in
    let down_seven : LeadsDown other_root (one 7) 5 = (refl, all-keys other_root refl refl (one 7), refl) in
    let at_left : IsAt led_by_another root (one 5) 2 left_leaf = ((1, (2, (other_root, refl, inl down_five), refl)), refl) in
    let at_other : IsAt led_by_another root (one 7) 5 (over_one 4) = ((1, (5, (other_root, refl, inl down_seven), refl)), refl) in
    let right : LeadsRight left_leaf (one 5) 4 = ((λ in'. ends (in'.1 (λ e. absurd (let h = e in cc)))), refl) in
    let down : LeadsDown (over_one 4) (one 7) 4 = (refl, all-keys (over_one 4) refl refl (one 7), refl) in
    by order (order.rises (one 5) 2 4 left_leaf at_left (inr right)).1 (order.rises (one 7) 5 4 (over_one 4) at_other (inl down)).0 (order.down (one 7) 3 5 other_root (at_root (one 7)) down_seven).1.0
  where
    ends : IsBelow (one 5) (one 5) → ⊥
    ends less = absurd (let e = less in cc)

    by : (order : IsOrderly led_by_another root) → IsAtMost (order.first 4) (one 5) → IsAtMost (order.first 5) (order.first 4) → IsAtMost (one 7) (order.first 5) ⊎ IsBelow (one 7) (one 7) → ⊥
    by order up then (inl low) = not-seven (at_most_trans (one 7) (order.first 5) (one 5) low (at_most_trans (order.first 5) (order.first 4) (one 5) then up))
    by order up then (inr less) = absurd (let e = less in cc)
