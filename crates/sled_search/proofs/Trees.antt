-- What a change of a page makes of a tree.
use Rattle.std.proofs.Common.{◌≡◌, ◌≢◌, ◌⊎◌, inl, inr, ℕ, zero, suc, false, List, [], Option, Some, slice_get, slice_set, refl, sym, ◌∙◌, ap, subst, arith}
use Rattle.std.specs.Option.{option_map}
use Rattle.sled_base.specs.Order.{Bytes, IsBelow, IsAtMost}
use Rattle.sled_log.specs.Contents.{Content, Node}
use Rattle.sled_node.specs.Node.{Item, Value, WholeNode, IsInRange}
use Rattle.sled_node.specs.Pairs.{IsAscending, set_pair, del_pair}
use Rattle.sled_node.proofs.Edits.{ascending_set, ascending_del}
use Rattle.sled_base.proofs.LinkedLists.Linking.{get_set_there, get_set_other}
use Rattle.std.proofs.lemmas.Option.{slice_get_within}
use Rattle.sled_search.proofs.Edits.{at-set, at-set-other, at-del, at-del-other}
use Rattle.sled_search.proofs.Pairs.{same_or_not}
use Rattle.sled_search.specs.Map.{Map, at_key}
use Rattle.sled_search.specs.Search.{LeadsTo, IsLeafOf, HasAt, Comes, ComesToLeafOf, ComesToValue, IsTreeOf}
use Rattle.sled_search.proofs.Search.{found-both, found-here, found-so, one_node}
use Rattle.sled_search.proofs.Kept.{OthersStay, HereToo, kept}

range-same : (a b : WholeNode) (key : Bytes) → b.lo ≡ a.lo → b.hi ≡ a.hi → IsInRange b key → IsInRange a key
range-same a b key lo hi h = (subst (λ (x : Bytes). IsAtMost x key) lo h.0, λ some. subst (λ (x : Bytes). IsBelow key x) hi (h.1 (λ none. some (sym hi ∙ none))))

-- whatever is so of the page and the range of the leaf that a search comes to, still is
abbrev pub RangesStay : List Content → List Content → ℕ → Type 1
RangesStay pages changed root = (key : Bytes) (J : ℕ → Bytes → Bytes → Type 0) → Comes pages key (λ pid n. J pid n.lo n.hi) root → Comes changed key (λ pid n. J pid n.lo n.hi) root

one-page : (page a b : ℕ) → page ≡ a → page ≡ b → a ≡ b
one-page page a b x y = sym x ∙ y

-- then leaves cover what they covered
pub covers-stay : (pages changed : List Content) (root : ℕ) (m : Map) → IsTreeOf pages root m → RangesStay pages changed root → (key other : Bytes) (leaf : ℕ) → ComesToLeafOf changed key other leaf root → ComesToLeafOf changed other key leaf root
covers-stay pages changed root m tree stay key other leaf (j, y) =
    let (i, x) = tree.comes key in
    let it = found-here pages key (λ _ n. HasAt key (at_key m key) n) i root x in
    let (t, z) = stay key (λ pid lo hi. (pid ≡ it.pid) × ((lo ≡ it.node.lo) × (hi ≡ it.node.hi))) (i, found-so pages key (λ q k. (q ≡ it.pid) × (k ≡ it.node)) (λ pid n. (pid ≡ it.pid) × ((n.lo ≡ it.node.lo) × (n.hi ≡ it.node.hi))) (λ pid n at of is. (is.0, (ap (λ (k : WholeNode). k.lo) is.1, ap (λ (k : WholeNode). k.hi) is.1))) i root it.found) in
    let both = found-here changed key (λ pid n. ((pid ≡ it.pid) × ((n.lo ≡ it.node.lo) × (n.hi ≡ it.node.hi))) × ((pid ≡ leaf) × IsInRange n other)) t root (found-both changed key (λ pid n. (pid ≡ it.pid) × ((n.lo ≡ it.node.lo) × (n.hi ≡ it.node.hi))) (λ pid n. (pid ≡ leaf) × IsInRange n other) t j root z y) in
    let is = both.is in
    let same : it.pid ≡ leaf = one-page both.pid it.pid leaf is.0.0 is.1.0 in
    let range : IsInRange it.node other = range-same it.node both.node other is.0.1.0 is.0.1.1 is.1.1 in
    let before : ComesToLeafOf pages key other leaf root = (i, found-so pages key (λ q k. (q ≡ it.pid) × (k ≡ it.node)) (λ pid n. (pid ≡ leaf) × IsInRange n other) (λ pid n at of at_it. (at_it.0 ∙ same, subst (λ (k : WholeNode). IsInRange k other) (sym at_it.1) range)) i root it.found) in
    stay other (λ pid lo hi. (pid ≡ leaf) × (IsAtMost lo key × (hi ≢ [] → IsBelow key hi))) (tree.covers key other leaf before)

-- ---- a page is added

abbrev pub HasNoNode : List Content → ℕ → Type 0
HasNoNode pages p = (n : WholeNode) → slice_get pages p ≡ Some (Node n) → ⊥

module _ (pages changed : List Content) (p : ℕ) (others : OthersStay pages changed p) (none : HasNoNode pages p) where
  added-here : (key : Bytes) (Is : ℕ → WholeNode → Type 0) → HereToo pages changed p others key Is Is
  added-here key Is zero less (n, at, x) = absurd (none n at)
  added-here key Is (suc turns) less (to, (n, at, x), rest) = absurd (none n at)

  pub added-kept : (key : Bytes) (Is : ℕ → WholeNode → Type 0) (from : ℕ) → Comes pages key Is from → Comes changed key Is from
  added-kept key Is from found = kept pages changed p others key Is Is (λ pid n other is. is) (added-here key Is) from found

  -- a tree stays as it is
  pub tree-added : (root : ℕ) (m : Map) → IsTreeOf pages root m → IsTreeOf changed root m
  tree-added root m tree = record {
    ascending = tree.ascending;
    comes = λ key. added-kept key (λ _ n. HasAt key (at_key m key) n) root (tree.comes key);
    covers = covers-stay pages changed root m tree (λ key J found. added-kept key (λ pid n. J pid n.lo n.hi) root found);
  }

-- ---- the pairs of a leaf are changed

-- the node with other pairs
abbrev pub with_pairs : WholeNode → List (Bytes × Item) → WholeNode
with_pairs n pairs = record n { pairs = pairs }

module _ (pages changed : List Content) (p : ℕ) (others : OthersStay pages changed p) (n : WholeNode) (pairs : List (Bytes × Item)) (was : slice_get pages p ≡ Some (Node n)) (leaf : n.is_index ≡ false) (now : slice_get changed p ≡ Some (Node (with_pairs n pairs))) where
  -- a leaf leads a key to the right alone, and still does
  still-right : (key : Bytes) (to : ℕ) → LeadsTo n key to → LeadsTo (with_pairs n pairs) key to
  still-right key to (inl down) = absurd (let e = down.0 in cc)
  still-right key to (inr right) = inr right

  leaf-here : (key : Bytes) (Is Is' : ℕ → WholeNode → Type 0) → (IsLeafOf key n → Is p n → Is' p (with_pairs n pairs)) → HereToo pages changed p others key Is Is'
  leaf-here key Is Is' so zero less (k, at, x) = let same = one_node pages p n k was at in
      (zero, (with_pairs n pairs, now, ((subst (λ (w : WholeNode). IsLeafOf key w) same x.0), so (subst (λ (w : WholeNode). IsLeafOf key w) same x.0) (subst (λ (w : WholeNode). Is p w) same x.1))))
  leaf-here key Is Is' so (suc turns) less (to, (k, at, x), rest) = let same = one_node pages p n k was at in
      let (more, found) = less turns (omega arith) to rest in
      (suc more, (to, (with_pairs n pairs, now, still-right key to (subst (λ (w : WholeNode). LeadsTo w key to) same x)), found))

  pub leaf-kept : (key : Bytes) (Is Is' : ℕ → WholeNode → Type 0) → ((pid : ℕ) (k : WholeNode) → pid ≢ p → Is pid k → Is' pid k) → (IsLeafOf key n → Is p n → Is' p (with_pairs n pairs)) → (from : ℕ) → Comes pages key Is from → Comes changed key Is' from
  leaf-kept key Is Is' elsewhere so from found = kept pages changed p others key Is Is' elsewhere (leaf-here key Is Is' so) from found

  -- a tree with that leaf is another map, which has at each key what the leaf has there now, or what the map had
  pub tree-changed : (root : ℕ) (m m' : Map) → IsTreeOf pages root m → IsAscending m'
      → ((key : Bytes) → (at_key pairs key ≡ option_map Value (at_key m' key)) ⊎ ((at_key m' key ≡ at_key m key) × (at_key pairs key ≡ at_key n.pairs key)))
      → ((key : Bytes) → (at_key m' key ≡ at_key m key) ⊎ Comes pages key (λ pid _. pid ≡ p) root)
      → IsTreeOf changed root m'
  tree-changed root m m' tree up at_leaf at_map = record {
    ascending = up;
    comes = λ key. by key (at_leaf key) (at_map key);
    covers = covers-stay pages changed root m tree (λ key J found. leaf-kept key (λ pid k. J pid k.lo k.hi) (λ pid k. J pid k.lo k.hi) (λ pid k other is. is) (λ of is. is) root found);
  }
    where
      by : (key : Bytes) → (at_key pairs key ≡ option_map Value (at_key m' key)) ⊎ ((at_key m' key ≡ at_key m key) × (at_key pairs key ≡ at_key n.pairs key)) → (at_key m' key ≡ at_key m key) ⊎ Comes pages key (λ pid _. pid ≡ p) root → ComesToValue changed key (at_key m' key) root
      by key (inr (same, stays)) there = leaf-kept key (λ _ k. HasAt key (at_key m key) k) (λ _ k. HasAt key (at_key m' key) k) (λ pid k other is. is ∙ ap (λ (o : Option Bytes). option_map Value o) (sym same)) (λ of is. stays ∙ is ∙ ap (λ (o : Option Bytes). option_map Value o) (sym same)) root (tree.comes key)
      by key (inl has) (inl same) = leaf-kept key (λ _ k. HasAt key (at_key m key) k) (λ _ k. HasAt key (at_key m' key) k) (λ pid k other is. is ∙ ap (λ (o : Option Bytes). option_map Value o) (sym same)) (λ of is. has) root (tree.comes key)
      by key (inl has) (inr there) = leaf-kept key (λ pid _. pid ≡ p) (λ _ k. HasAt key (at_key m' key) k) (λ pid k other is. absurd (other is)) (λ of is. has) root there

-- ---- a key of a leaf is set, or taken out

module _ (pages : List Content) (root : ℕ) (m : Map) (tree : IsTreeOf pages root m) (p : ℕ) (n : WholeNode) (was : slice_get pages p ≡ Some (Node n)) (key : Bytes) (leaf : IsLeafOf key n) (there : Comes pages key (λ pid _. pid ≡ p) root) where
  stay : (pairs : List (Bytes × Item)) → OthersStay pages (slice_set pages p (Node (with_pairs n pairs))) p
  stay pairs pid other k at = get_set_other pages p pid (Node (with_pairs n pairs)) (λ e. other (sym e)) ∙ at

  now_at : (pairs : List (Bytes × Item)) → slice_get (slice_set pages p (Node (with_pairs n pairs))) p ≡ Some (Node (with_pairs n pairs))
  now_at pairs = get_set_there pages p (Node (with_pairs n pairs)) (slice_get_within pages p (Node n) was)

  module _ (value : Bytes) where
    pub tree-set : IsTreeOf (slice_set pages p (Node (with_pairs n (set_pair key (Value value) n.pairs)))) root (set_pair key value m)
    tree-set = tree-changed pages (slice_set pages p (Node (with_pairs n (set_pair key (Value value) n.pairs)))) p (stay (set_pair key (Value value) n.pairs)) n (set_pair key (Value value) n.pairs) was leaf.0 (now_at (set_pair key (Value value) n.pairs)) root m (set_pair key value m) tree (ascending_set key m value tree.ascending)
        (λ k. at_leaf k (same_or_not key k)) (λ k. at_map k (same_or_not key k))
      where
        at_leaf : (k : Bytes) → (key ≡ k) ⊎ (key ≢ k) → (at_key (set_pair key (Value value) n.pairs) k ≡ option_map Value (at_key (set_pair key value m) k)) ⊎ ((at_key (set_pair key value m) k ≡ at_key m k) × (at_key (set_pair key (Value value) n.pairs) k ≡ at_key n.pairs k))
        at_leaf k (inl e) = inl (rw (← e, at-set key n.pairs (Value value), at-set key m value) refl)
        at_leaf k (inr other) = inr (at-set-other key m k other value, at-set-other key n.pairs k other (Value value))

        at_map : (k : Bytes) → (key ≡ k) ⊎ (key ≢ k) → (at_key (set_pair key value m) k ≡ at_key m k) ⊎ Comes pages k (λ pid _. pid ≡ p) root
        at_map k (inl e) = inr (subst (λ (q : Bytes). Comes pages q (λ pid _. pid ≡ p) root) e there)
        at_map k (inr other) = inl (at-set-other key m k other value)

  pub tree-del : IsTreeOf (slice_set pages p (Node (with_pairs n (del_pair key n.pairs)))) root (del_pair key m)
  tree-del = tree-changed pages (slice_set pages p (Node (with_pairs n (del_pair key n.pairs)))) p (stay (del_pair key n.pairs)) n (del_pair key n.pairs) was leaf.0 (now_at (del_pair key n.pairs)) root m (del_pair key m) tree (ascending_del key m tree.ascending)
      (λ k. at_leaf k (same_or_not key k)) (λ k. at_map k (same_or_not key k))
    where
      at_leaf : (k : Bytes) → (key ≡ k) ⊎ (key ≢ k) → (at_key (del_pair key n.pairs) k ≡ option_map Value (at_key (del_pair key m) k)) ⊎ ((at_key (del_pair key m) k ≡ at_key m k) × (at_key (del_pair key n.pairs) k ≡ at_key n.pairs k))
      at_leaf k (inl e) = inl (rw (← e, at-del key n.pairs, at-del key m) refl)
      at_leaf k (inr other) = inr (at-del-other key m k other, at-del-other key n.pairs k other)

      at_map : (k : Bytes) → (key ≡ k) ⊎ (key ≢ k) → (at_key (del_pair key m) k ≡ at_key m k) ⊎ Comes pages k (λ pid _. pid ≡ p) root
      at_map k (inl e) = inr (subst (λ (q : Bytes). Comes pages q (λ pid _. pid ≡ p) root) e there)
      at_map k (inr other) = inl (at-del-other key m k other)
