-- Searches that pass a node that was split come to what they came to.
use Rattle.std.proofs.Common.{◌≡◌, ◌≢◌, ◌⊎◌, inl, inr, ℕ, zero, suc, ◌<◌, List, [], Some, slice_get, refl, sym, ◌∙◌, subst, arith}
use Rattle.sled_base.specs.Order.{Bytes, IsBelow, IsAtMost}
use Rattle.sled_log.specs.Contents.{Content, Node}
use Rattle.sled_node.specs.Node.{WholeNode, IsInRange, IsWellFormed}
use Rattle.sled_node.specs.Splitting.{SplitsBehind}
use Rattle.sled_search.specs.Search.{LeadsTo, IsLeafOf, Finds, Comes}
use Rattle.sled_search.proofs.Search.{one_node}
use Rattle.sled_search.proofs.Splits.{with_next, side, leading-left, leading-right, in-left, in-right, out-left, left-in, right-in}

module _ (pages changed : List Content) (p : ℕ) (n l r : WholeNode) {many : ℕ} (splits : SplitsBehind n many l r) (left_well : IsWellFormed l) (right_well : IsWellFormed r) (some : r.lo ≢ []) (was : slice_get pages p ≡ Some (Node n)) (a b : ℕ) (at_a : slice_get changed a ≡ Some (Node (with_next l b))) (at_b : slice_get changed b ≡ Some (Node r)) (key : Bytes) (Is Is' : ℕ → WholeNode → Type 0) where
  -- searches with fewer turns come to what they came to
  abbrev Fewer : ℕ → Type 0
  Fewer turns = (t : ℕ) → t < turns → (pid : ℕ) → Finds pages key Is t pid → Comes changed key Is' pid

  module _ (so-right : IsAtMost r.lo key → IsLeafOf key n → Is p n → Is' b r) where
    -- from the right part, for a key that isn't below it
    pub from-right : IsAtMost r.lo key → (turns : ℕ) → Fewer turns → Finds pages key Is turns p → Comes changed key Is' b
    from-right above zero less (k, at, x) =
        let same = one_node pages p n k was at in
        let of = subst (λ (w : WholeNode). IsLeafOf key w) same x.0 in
        (zero, (r, at_b, ((splits.kinds.1 ∙ of.0, in-right n l r splits left_well right_well some key above of.1), so-right above of (subst (λ (w : WholeNode). Is p w) same x.1))))
    from-right above (suc turns) less (to, (k, at, x), rest) =
        let same = one_node pages p n k was at in
        let (more, found) = less turns (omega arith) to rest in
        (suc more, (to, (r, at_b, by to (subst (λ (w : WholeNode). LeadsTo w key to) same x)), found))
      where
        by : (to : ℕ) → LeadsTo n key to → LeadsTo r key to
        by to (inl down) = inl (splits.kinds.1 ∙ down.0, in-right n l r splits left_well right_well some key above down.1, sym (leading-right n l r splits left_well right_well some key above down.0) ∙ down.2)
        by to (inr right) = inr ((λ in'. right.0 (right-in n l r splits left_well right_well some key in').0), splits.right_next ∙ right.1)

    module _ (so-left : IsBelow key r.lo → IsLeafOf key n → Is p n → Is' a (with_next l b)) where
      to-right : ¬ IsInRange (with_next l b) key → Comes changed key Is' b → Comes changed key Is' a
      to-right out (more, found) = (suc more, (b, (with_next l b, at_a, inr (out, refl)), found))

      -- from the left part, for any key
      pub from-left : (turns : ℕ) → Fewer turns → Finds pages key Is turns p → Comes changed key Is' a
      from-left turns less found = by (side key r.lo) turns less found
        where
          leads : IsBelow key r.lo → (to : ℕ) → LeadsTo n key to → (LeadsTo (with_next l b) key to) ⊎ ((¬ IsInRange n key) × (n.next ≡ Some to))
          leads below to (inl down) = inl (inl (splits.kinds.0 ∙ down.0, in-left n l r splits left_well right_well some key below b down.1, sym (leading-left n l r splits left_well right_well some key below) ∙ down.2))
          leads below to (inr right) = inr right

          under : (turns : ℕ) (to : ℕ) → Comes changed key Is' to → (LeadsTo (with_next l b) key to) ⊎ ((¬ IsInRange n key) × (n.next ≡ Some to)) → Comes changed key Is' a
          under turns to (more, found) (inl leads) = (suc more, (to, (with_next l b, at_a, leads), found))
          under turns to (more, found) (inr right) = (suc (suc more), (b, (with_next l b, at_a, inr ((λ in'. right.0 (left-in n l r splits left_well right_well some key b in').0), refl)), (to, (r, at_b, inr ((λ in'. right.0 (right-in n l r splits left_well right_well some key in').0), splits.right_next ∙ right.1)), found)))

          below_here : IsBelow key r.lo → (turns : ℕ) → Fewer turns → Finds pages key Is turns p → Comes changed key Is' a
          below_here below zero less (k, at, x) =
              let same = one_node pages p n k was at in
              let of = subst (λ (w : WholeNode). IsLeafOf key w) same x.0 in
              (zero, (with_next l b, at_a, ((splits.kinds.0 ∙ of.0, in-left n l r splits left_well right_well some key below b of.1), so-left below of (subst (λ (w : WholeNode). Is p w) same x.1))))
          below_here below (suc turns) less (to, (k, at, x), rest) =
              let same = one_node pages p n k was at in
              under turns to (less turns (omega arith) to rest) (leads below to (subst (λ (w : WholeNode). LeadsTo w key to) same x))

          by : IsBelow key r.lo ⊎ IsAtMost r.lo key → (turns : ℕ) → Fewer turns → Finds pages key Is turns p → Comes changed key Is' a
          by (inl below) turns less found = below_here below turns less found
          by (inr above) turns less found = to-right (out-left n l r splits left_well right_well some key above b) (from-right above turns less found)
