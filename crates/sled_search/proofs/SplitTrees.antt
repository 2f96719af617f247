-- A tree of which a node was split is the same map.
use Rattle.std.proofs.Common.{◌≡◌, ◌≢◌, ◌⊎◌, inl, inr, ℕ, suc, List, [], ◌∷◌, Some, slice_get, slice_set, refl, sym, ◌∙◌, subst}
use Rattle.std.proofs.lemmas.Option.{slice_get_within}
use Rattle.sled_base.proofs.LinkedLists.Linking.{get_set_there, get_set_other}
use Rattle.sled_base.specs.Order.{Bytes, bytes_cmp, IsBelow, IsAtMost}
use Rattle.sled_log.specs.Contents.{Content, Node}
use Rattle.sled_node.specs.Children.{index_of}
use Rattle.sled_node.specs.Node.{Child, WholeNode, IsInRange, IsWellFormed}
use Rattle.sled_node.specs.Splitting.{SplitsBehind}
use Rattle.sled_search.specs.Map.{Map, at_key, leading}
use Rattle.sled_search.specs.Search.{IsLeafOf, HasAt, Finds, Comes, ComesToLeafOf, IsTreeOf}
use Rattle.sled_search.proofs.Kept.{OthersStay, HereToo, kept}
use Rattle.sled_search.proofs.Leading.{lt-true, lt-false}
use Rattle.sled_search.proofs.Search.{found-both, found-here, found-so, one_node}
use Rattle.sled_search.proofs.Separated.{never-below}
use Rattle.sled_search.proofs.SplitPages.{from-left, from-right}
use Rattle.sled_search.proofs.Splits.{with_next, side, at-left, at-right, in-left, in-right, out-left, left-in, right-in}

-- from the page of the one search one comes to where one comes from the other
abbrev pub Enters : List Content → Bytes → ℕ → ℕ → Type 1
Enters changed key from to = (Is : ℕ → WholeNode → Type 0) → Comes changed key Is to → Comes changed key Is from

module _ (pages changed : List Content) (p : ℕ) (n l r : WholeNode) {many : ℕ} (splits : SplitsBehind n many l r) (left_well : IsWellFormed l) (right_well : IsWellFormed r) (some : r.lo ≢ []) (was : slice_get pages p ≡ Some (Node n)) (a b : ℕ) (at_a : slice_get changed a ≡ Some (Node (with_next l b))) (at_b : slice_get changed b ≡ Some (Node r)) (others : OthersStay pages changed p) (enter-left : (key : Bytes) → IsBelow key r.lo → Enters changed key p a) (enter-right : (key : Bytes) → IsAtMost r.lo key → Enters changed key p b) where
  module _ (key : Bytes) (Is Is' : ℕ → WholeNode → Type 0) (elsewhere : (pid : ℕ) (k : WholeNode) → pid ≢ p → Is pid k → Is' pid k) (so-left : IsBelow key r.lo → IsLeafOf key n → Is p n → Is' a (with_next l b)) (so-right : IsAtMost r.lo key → IsLeafOf key n → Is p n → Is' b r) where
    split-here : HereToo pages changed p others key Is Is'
    split-here turns less found = by (side key r.lo)
      where
        by : IsBelow key r.lo ⊎ IsAtMost r.lo key → Comes changed key Is' p
        by (inl below) = enter-left key below Is' (from-left pages changed p n l r splits left_well right_well some was a b at_a at_b key Is Is' so-right so-left turns less found)
        by (inr above) = enter-right key above Is' (from-right pages changed p n l r splits left_well right_well some was a b at_a at_b key Is Is' so-right above turns less found)

    split-kept : (from : ℕ) → Comes pages key Is from → Comes changed key Is' from
    split-kept from found = kept pages changed p others key Is Is' elsewhere split-here from found

  module _ (root : ℕ) (m : Map) (tree : IsTreeOf pages root m) where
    -- where the leaf went
    abbrev Went : Bytes → ℕ → WholeNode → ℕ → WholeNode → Type 0
    Went key pid0 n0 pid k = ((pid0 ≢ p) × (pid ≡ pid0) × (k ≡ n0)) ⊎ ((IsBelow key r.lo × (pid0 ≡ p) × (pid ≡ a) × (k ≡ with_next l b)) ⊎ (IsAtMost r.lo key × (pid0 ≡ p) × (pid ≡ b) × (k ≡ r)))

    module _ (key other : Bytes) (leaf : ℕ) (pid0 : ℕ) (n0 : WholeNode) (there : slice_get pages pid0 ≡ Some (Node n0)) (found : Comes pages key (λ q k. (q ≡ pid0) × (k ≡ n0)) root) where
      -- a search for the other key came to the same leaf
      before : IsInRange n0 other → ComesToLeafOf pages other key pid0 root
      before range = let (i, x) = found in tree.covers key other pid0 (i, found-so pages key (λ q k. (q ≡ pid0) × (k ≡ n0)) (λ q k. (q ≡ pid0) × IsInRange k other) (λ q k at of is. (is.0, subst (λ (w : WholeNode). IsInRange w other) (sym is.1) range)) i root x)

      is_n : pid0 ≡ p → n0 ≡ n
      is_n e = one_node pages p n n0 was (subst (λ q. slice_get pages q ≡ Some (Node n0)) e there)

      after : (pid : ℕ) (k : WholeNode) → pid ≡ leaf → IsInRange k other → Went key pid0 n0 pid k → ComesToLeafOf changed other key leaf root
      after pid k is range (inl (ne, e, same)) =
          let e' : pid0 ≡ leaf = sym e ∙ is in
          split-kept other (λ q w. (q ≡ pid0) × IsInRange w key) (λ q w. (q ≡ leaf) × IsInRange w key) (λ q w _ h. (h.0 ∙ e', h.1)) (λ _ _ h. absurd (ne (sym h.0))) (λ _ _ h. absurd (ne (sym h.0))) root (before (subst (λ (w : WholeNode). IsInRange w other) same range))
      after pid k is range (inr (inl (below, e, here, same))) =
          let part = left-in n l r splits left_well right_well some other b (subst (λ (w : WholeNode). IsInRange w other) same range) in
          let went = before (subst (λ (w : WholeNode). IsInRange w other) (sym (is_n e)) part.0) in
          split-kept other (λ q w. (q ≡ pid0) × IsInRange w key) (λ q w. (q ≡ leaf) × IsInRange w key) (λ q w ne h. absurd (ne (h.0 ∙ e))) (λ _ _ h. (sym here ∙ is, in-left n l r splits left_well right_well some key below b h.1)) (λ above _ h. absurd (above part.1)) root went
      after pid k is range (inr (inr (above, e, here, same))) =
          let part = right-in n l r splits left_well right_well some other (subst (λ (w : WholeNode). IsInRange w other) same range) in
          let went = before (subst (λ (w : WholeNode). IsInRange w other) (sym (is_n e)) part.0) in
          split-kept other (λ q w. (q ≡ pid0) × IsInRange w key) (λ q w. (q ≡ leaf) × IsInRange w key) (λ q w ne h. absurd (ne (h.0 ∙ e))) (λ below _ h. absurd (part.1 below)) (λ _ _ h. (sym here ∙ is, in-right n l r splits left_well right_well some key above h.1)) root went

    covers-split : (key other : Bytes) (leaf : ℕ) → ComesToLeafOf changed key other leaf root → ComesToLeafOf changed other key leaf root
    covers-split key other leaf (j, y) =
        let (i, x) = tree.comes key in
        let it = found-here pages key (λ _ k. HasAt key (at_key m key) k) i root x in
        by it.pid it.node it.there (i, it.found) j y
      where
        by : (pid0 : ℕ) (n0 : WholeNode) → slice_get pages pid0 ≡ Some (Node n0) → Comes pages key (λ q k. (q ≡ pid0) × (k ≡ n0)) root → (j : ℕ) → Finds changed key (λ q k. (q ≡ leaf) × IsInRange k other) j root → ComesToLeafOf changed other key leaf root
        by pid0 n0 there found j y =
            let (t, z) = split-kept key (λ q k. (q ≡ pid0) × (k ≡ n0)) (Went key pid0 n0) (λ pid k ne is. inl ((λ e. ne (is.0 ∙ e)), is.0, is.1)) (λ below _ is. inr (inl (below, sym is.0, refl, refl))) (λ above _ is. inr (inr (above, sym is.0, refl, refl))) root found in
            let both = found-here changed key (λ pid k. Went key pid0 n0 pid k × ((pid ≡ leaf) × IsInRange k other)) t root (found-both changed key (Went key pid0 n0) (λ q k. (q ≡ leaf) × IsInRange k other) t j root z y) in
            after key other leaf pid0 n0 there found both.pid both.node both.is.1.0 both.is.1.1 both.is.0

    pub tree-split : IsTreeOf changed root m
    tree-split = record {
      ascending = tree.ascending;
      comes = λ key. split-kept key (λ _ k. HasAt key (at_key m key) k) (λ _ k. HasAt key (at_key m key) k) (λ pid k ne is. is) (λ below of is. sym (at-left n l r splits left_well right_well some key below) ∙ is) (λ above of is. sym (at-right n l r splits left_well right_well some key above) ∙ is) root (tree.comes key);
      covers = covers-split;
    }

-- ---- the left part in place of the whole

pub all-keys : (n : WholeNode) → n.lo ≡ [] → n.hi ≡ [] → (key : Bytes) → IsInRange n key
all-keys n lo hi key = (λ lt. never-below key (subst (λ (x : Bytes). IsBelow key x) lo lt), λ h. absurd (h hi))

module _ (pages : List Content) (root : ℕ) (m : Map) (tree : IsTreeOf pages root m) (p : ℕ) (n l r : WholeNode) (was : slice_get pages p ≡ Some (Node n)) {many : ℕ} (splits : SplitsBehind n many l r) (left_well : IsWellFormed l) (right_well : IsWellFormed r) (some : r.lo ≢ []) (b : ℕ) (at_b : slice_get pages b ≡ Some (Node r)) (b-other : b ≢ p) where
  set-stays : (node : WholeNode) → OthersStay pages (slice_set pages p (Node node)) p
  set-stays node pid other k at = get_set_other pages p pid (Node node) (λ e. other (sym e)) ∙ at

  set-there : (node : WholeNode) → slice_get (slice_set pages p (Node node)) p ≡ Some (Node node)
  set-there node = get_set_there pages p (Node node) (slice_get_within pages p (Node n) was)

  pub split-in-place : IsTreeOf (slice_set pages p (Node (with_next l b))) root m
  split-in-place =
      let changed = slice_set pages p (Node (with_next l b)) in
      tree-split pages changed p n l r splits left_well right_well some was p b (set-there (with_next l b)) (set-stays (with_next l b) b b-other r at_b) (set-stays (with_next l b))
      (λ key below Is found. found)
      (λ key above Is found. (suc found.0, (b, (with_next l b, set-there (with_next l b), inr (out-left n l r splits left_well right_well some key above b, refl)), found.1)))
      root m tree

  module _ (a : ℕ) (at_a : slice_get pages a ≡ Some (Node (with_next l b))) (a-other : a ≢ p) where
    abbrev hoisted : WholeNode
    hoisted = index_of (([], Child a) ∷ (r.lo, Child b) ∷ [])

    leads-first : (key : Bytes) → IsBelow key r.lo → leading hoisted.pairs key ≡ Some (Child a)
    leads-first key below = rw (lt-true (bytes_cmp key r.lo) below, lt-false (bytes_cmp key []) (never-below key)) refl

    leads-second : (key : Bytes) → IsAtMost r.lo key → leading hoisted.pairs key ≡ Some (Child b)
    leads-second key above = rw (lt-false (bytes_cmp key r.lo) above) refl

    pub split-hoisted : IsTreeOf (slice_set pages p (Node hoisted)) root m
    split-hoisted =
        let changed = slice_set pages p (Node hoisted) in
        tree-split pages changed p n l r splits left_well right_well some was a b (set-stays hoisted a a-other (with_next l b) at_a) (set-stays hoisted b b-other r at_b) (set-stays hoisted)
        (λ key below Is found. (suc found.0, (a, (hoisted, set-there hoisted, inl (refl, all-keys hoisted refl refl key, leads-first key below)), found.1)))
        (λ key above Is found. (suc found.0, (b, (hoisted, set-there hoisted, inl (refl, all-keys hoisted refl refl key, leads-second key above)), found.1)))
        root m tree
