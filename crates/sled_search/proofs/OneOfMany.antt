-- Each change of a tree, among others.
use Rattle.std.proofs.Common.{◌≡◌, ◌≢◌, ◌⊎◌, inl, inr, ℕ, zero, suc, true, List, [], ◌∷◌, Some, slice_get, slice_set, refl, sym, ◌∙◌, subst}
use Rattle.std.proofs.lemmas.Option.{slice_get_within}
use Rattle.sled_base.proofs.LinkedLists.Linking.{get_set_there, get_set_other}
use Rattle.sled_base.specs.Order.{Bytes}
use Rattle.sled_log.specs.Contents.{Content, Node}
use Rattle.sled_node.specs.Children.{index_of, with_child}
use Rattle.sled_node.specs.Node.{Item, Value, Child, WholeNode, IsInRange, IsWellFormed}
use Rattle.sled_node.specs.Pairs.{IsAscending, set_pair, del_pair}
use Rattle.sled_node.specs.Splitting.{SplitsBehind}
use Rattle.sled_search.specs.Map.{Map, leading}
use Rattle.sled_search.specs.Maps.{Maps, HasTree, with_map, Reaches, AreTrees, IsOff, ChangesOne}
use Rattle.sled_search.specs.Search.{Goes, Finds, Comes, ComesToLeafOf, IsLeafOf, IsTreeOf}
use Rattle.sled_search.proofs.Hints.{tree-hinted}
use Rattle.sled_search.proofs.OrdersKept.{leaf-order, child-order}
use Rattle.sled_search.proofs.OrdersSplit.{in-place-order, hoisted-order}
use Rattle.sled_search.proofs.Search.{found-so, leaf-there}
use Rattle.sled_search.proofs.Separated.{right-some}
use Rattle.sled_search.proofs.SplitTrees.{split-in-place, split-hoisted}
use Rattle.sled_search.proofs.Splits.{with_next}
use Rattle.sled_search.proofs.Together.{with-here, with-other, one-changed}
use Rattle.sled_search.proofs.Trees.{with_pairs, tree-set, tree-del}
use Rattle.sled_search.proofs.Ways.{leaf-ways, child-ways, split-goes, split-ways, enter-first, enter-index}

-- a page that was put
pub set-one : (pages : List Content) (p : ℕ) (content : Content) → ChangesOne pages p (slice_set pages p content)
set-one pages p content pid other = get_set_other pages p pid content (λ e. other (sym e))

pub set-now : (pages : List Content) (p : ℕ) (n k : WholeNode) → slice_get pages p ≡ Some (Node n) → slice_get (slice_set pages p (Node k)) p ≡ Some (Node k)
set-now pages p n k was = get_set_there pages p (Node k) (slice_get_within pages p (Node n) was)

-- a search that comes to a leaf gets there
pub finds-goes : (pages : List Content) (key : Bytes) (p : ℕ) (Is : WholeNode → Type 0) (i from : ℕ) → Finds pages key (λ pid n. (pid ≡ p) × Is n) i from → Goes pages key i from p
finds-goes pages key p Is zero from (n, there, x) = x.1.0
finds-goes pages key p Is (suc i) from (next, first, rest) = (next, first, finds-goes pages key p Is i next rest)

module _ (pages : List Content) (maps : Maps) (root : ℕ) (trees : AreTrees pages maps) where
  module _ (m : Map) (is : maps root ≡ Some m) (p : ℕ) (n : WholeNode) (was : slice_get pages p ≡ Some (Node n)) (key : Bytes) (comes : ComesToLeafOf pages key key p root) where
    leaf : IsLeafOf key n
    leaf = let (i, x) = comes in leaf-there pages key p n was i root x

    there : Comes pages key (λ pid _. pid ≡ p) root
    there = let (i, x) = comes in (i, found-so pages key (λ pid k. (pid ≡ p) × IsInRange k key) (λ pid _. pid ≡ p) (λ pid k at of so. so.0) i root x)

    reached : Reaches pages root p
    reached = let (i, x) = comes in (key, i, finds-goes pages key p (λ k. IsInRange k key) i root x)

    with-pairs : (pairs : List (Bytes × Item)) (m' : Map) → IsTreeOf (slice_set pages p (Node (with_pairs n pairs))) root m' → AreTrees (slice_set pages p (Node (with_pairs n pairs))) (with_map root m' maps)
    with-pairs pairs m' tree =
        let changed = slice_set pages p (Node (with_pairs n pairs)) in
        let one = set-one pages p (Node (with_pairs n pairs)) in
        one-changed pages changed maps (with_map root m' maps) p root m' trees (m, is) one reached (with-other root m' maps) (with-here root m' maps) tree (leaf-order pages changed root p (trees.orderly root (m, is)) one n pairs was leaf.0 (set-now pages p n (with_pairs n pairs) was))
        (λ page x. inl (leaf-ways pages changed p one n pairs was leaf.0 (set-now pages p n (with_pairs n pairs) was) root page x))

    pub set-among : (value : Bytes) → AreTrees (slice_set pages p (Node (with_pairs n (set_pair key (Value value) n.pairs)))) (with_map root (set_pair key value m) maps)
    set-among value = with-pairs (set_pair key (Value value) n.pairs) (set_pair key value m) (tree-set pages root m (trees.each root m is) p n was key leaf there value)

    pub del-among : AreTrees (slice_set pages p (Node (with_pairs n (del_pair key n.pairs)))) (with_map root (del_pair key m) maps)
    del-among = with-pairs (del_pair key n.pairs) (del_pair key m) (tree-del pages root m (trees.each root m is) p n was key leaf there)

  module _ (has : HasTree maps root) where
    apart-from : (p q : ℕ) → Reaches pages root p → IsOff pages maps q → q ≢ p
    apart-from p q reached off same = off root has (subst (λ page. Reaches pages root page) (sym same) reached)

    pub child-among : (q : ℕ) (n : WholeNode) (at : Bytes) (page : ℕ) → Reaches pages root q → slice_get pages q ≡ Some (Node n) → n.is_index ≡ true → IsAscending n.pairs → (c : ℕ) → leading n.pairs at ≡ Some (Child c) → (child : WholeNode) → slice_get pages c ≡ Some (Node child) → child.hi ≡ at → at ≢ [] → child.next ≡ Some page → AreTrees (slice_set pages q (Node (with_child at page n))) maps
    child-among q n at page reached was index up c leads child at_c ends some right =
        let (m, is) = has in
        let k = with_child at page n in
        let changed = slice_set pages q (Node k) in
        let one = set-one pages q (Node k) in
        one-changed pages changed maps maps q root m trees (m, is) one reached (λ b other. refl) is (tree-hinted pages root m (trees.each root m is) q n at page was index up c leads child at_c ends some right)
        (child-order pages changed root q (trees.orderly root (m, is)) one n at page was index up (set-now pages q n k was) c leads child at_c ends some right)
        (λ got x. inl (child-ways pages changed q one n at page was index up (set-now pages q n k was) c leads child at_c ends some right root got x))

    module _ (p : ℕ) (n l r : WholeNode) {many : ℕ} (reached : Reaches pages root p) (was : slice_get pages p ≡ Some (Node n)) (splits : SplitsBehind n many l r) (well : IsWellFormed n) (left_well : IsWellFormed l) (right_well : IsWellFormed r) (right : ℕ) (right_off : IsOff pages maps right) (at_right : slice_get pages right ≡ Some (Node r)) where
      some : r.lo ≢ []
      some = right-some n l r splits well

      pub in-place-among : AreTrees (slice_set pages p (Node (with_next l right))) maps
      in-place-among =
          let (m, is) = has in
          let k = with_next l right in
          let changed = slice_set pages p (Node k) in
          let one = set-one pages p (Node k) in
          let other = apart-from p right reached right_off in
          let now = set-now pages p n k was in
          let at_b : slice_get (slice_set pages p (Node (with_next l right))) right ≡ Some (Node r) = one right other ∙ at_right in
          one-changed pages changed maps maps p root m trees (m, is) one reached (λ b differ. refl) is (split-in-place pages root m (trees.each root m is) p n l r was splits left_well right_well some right at_right other)
          (in-place-order pages changed root p (trees.orderly root (m, is)) one n l r splits left_well right_well some was reached p right now at_b (inl refl) (right_off root (m, is)) refl
          (λ key t page goes. split-goes pages changed p one n l r splits left_well right_well some was p right now at_b root (enter-first pages changed p one n l r splits left_well right_well some was p right now at_b root refl) key t root page (inl (zero, refl)) goes))
          (λ page x. by page (split-ways pages changed p one n l r splits left_well right_well some was p right now at_b root (enter-first pages changed p one n l r splits left_well right_well some was p right now at_b root refl) page x))
        where
          by : (page : ℕ) → Reaches pages root page ⊎ ((page ≡ p) ⊎ (page ≡ right)) → Reaches pages root page ⊎ IsOff pages maps page
          by page (inl got) = inl got
          by page (inr (inl same)) = inl (subst (λ q. Reaches pages root q) (sym same) reached)
          by page (inr (inr same)) = inr (subst (λ q. IsOff pages maps q) (sym same) right_off)

      module _ (left : ℕ) (left_off : IsOff pages maps left) (at_left : slice_get pages left ≡ Some (Node (with_next l right))) where
        abbrev over_both : WholeNode
        over_both = index_of (([], Child left) ∷ (r.lo, Child right) ∷ [])

        pub hoisted-among : AreTrees (slice_set pages p (Node over_both)) maps
        hoisted-among =
            let (m, is) = has in
            let changed = slice_set pages p (Node over_both) in
            let one = set-one pages p (Node over_both) in
            let right_other = apart-from p right reached right_off in
            let left_other = apart-from p left reached left_off in
            let now = set-now pages p n over_both was in
            let at_a : slice_get (slice_set pages p (Node over_both)) left ≡ Some (Node (with_next l right)) = one left left_other ∙ at_left in
            let at_b : slice_get (slice_set pages p (Node over_both)) right ≡ Some (Node r) = one right right_other ∙ at_right in
            one-changed pages changed maps maps p root m trees (m, is) one reached (λ b differ. refl) is (split-hoisted pages root m (trees.each root m is) p n l r was splits left_well right_well some right at_right right_other left at_left left_other)
            (hoisted-order pages changed root p (trees.orderly root (m, is)) one n l r splits left_well right_well some was reached left right at_a at_b (inr (left_off root (m, is))) (right_off root (m, is)) now
            (λ key t page goes. split-goes pages changed p one n l r splits left_well right_well some was left right at_a at_b root (enter-index pages changed p one n l r splits left_well right_well some was left right at_a at_b root now) key t root page (inl (zero, refl)) goes))
            (λ page x. by page (split-ways pages changed p one n l r splits left_well right_well some was left right at_a at_b root (enter-index pages changed p one n l r splits left_well right_well some was left right at_a at_b root now) page x))
          where
            by : (page : ℕ) → Reaches pages root page ⊎ ((page ≡ left) ⊎ (page ≡ right)) → Reaches pages root page ⊎ IsOff pages maps page
            by page (inl got) = inl got
            by page (inr (inl same)) = inr (subst (λ q. IsOff pages maps q) (sym same) left_off)
            by page (inr (inr same)) = inr (subst (λ q. IsOff pages maps q) (sym same) right_off)
