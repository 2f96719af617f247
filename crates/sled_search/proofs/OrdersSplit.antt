-- The pages of a tree of which a node was split are in order: the right part has its beginning for a first key, or that of the whole.
use Rattle.std.proofs.Common.{◌≡◌, ◌≢◌, ◌⊎◌, inl, inr, ℕ, zero, suc, ◌==◌, true, false, List, [], ◌∷◌, ◌++◌, Some, slice_get, refl, sym, ◌∙◌, ap, subst, cond}
use Rattle.std.proofs.lemmas.Bool.{cases_eq}
use Rattle.std.proofs.lemmas.Bool.Decides.{eqb_tells}
use Rattle.sled_base.specs.Order.{Bytes, bytes_cmp, is_below, IsBelow, IsAtMost}
use Rattle.sled_base.specs.OrderLaws.{at_most_trans, below_is_at_most, not_below_itself}
use Rattle.sled_log.specs.Contents.{Content, Node}
use Rattle.sled_node.specs.Children.{index_of}
use Rattle.sled_node.specs.Node.{Item, Child, WholeNode, IsInRange, IsWellFormed}
use Rattle.sled_node.specs.Splitting.{SplitsBehind, greatest}
use Rattle.sled_search.specs.Map.{leading}
use Rattle.sled_search.specs.Maps.{Reaches, ChangesOne}
use Rattle.sled_search.specs.Orderly.{IsAt, HasNoneWithin, IsOrderly}
use Rattle.sled_search.specs.Search.{LeadsDown, LeadsRight, LeadsTo, Goes}
use Rattle.sled_search.proofs.Leading.{lt-true, lt-false}
use Rattle.sled_search.proofs.Orders.{Fits, fits-down, fits-right, fits-of, in-order, first-low, node-low, beyond}
use Rattle.sled_search.proofs.OrdersKept.{all-front, all-back}
use Rattle.sled_search.proofs.Search.{goes-then, one_node}
use Rattle.sled_search.proofs.Separated.{never-below}
use Rattle.sled_search.proofs.Splits.{with_next, side, leading-left, leading-right, least-is, left-in, right-in}
use Rattle.sled_search.proofs.SplitTrees.{all-keys}
use Rattle.sled_search.proofs.Ways.{same-child, same-next}

-- the later of two keys
abbrev later : Bytes → Bytes → Bytes
later a b = cond (is_below a b) b a

later-is : (P : Bytes → Type 0) (a b : Bytes) → (IsAtMost a b → P b) → (IsAtMost b a → P a) → P (later a b)
later-is P a b above below = by (side a b)
  where
    by : IsBelow a b ⊎ IsAtMost b a → P (later a b)
    by (inl lt) = rw (lt-true (bytes_cmp a b) lt) (above (below_is_at_most a b lt))
    by (inr le) = rw (lt-false (bytes_cmp a b) le) (below le)

later-first : (a b : Bytes) → IsAtMost a (later a b)
later-first a b = later-is (λ x. IsAtMost a x) a b (λ le. le) (λ _. not_below_itself a)

later-second : (a b : Bytes) → IsAtMost b (later a b)
later-second a b = later-is (λ x. IsAtMost b x) a b (λ _. not_below_itself b) (λ le. le)

later-within : (a b key : Bytes) → IsAtMost a key → IsAtMost b key → IsAtMost (later a b) key
later-within a b key x y = later-is (λ z. IsAtMost z key) a b (λ _. y) (λ _. x)

-- a number for one page, and for all others what it was
abbrev with_first : ℕ → Bytes → (ℕ → Bytes) → ℕ → Bytes
with_first page key first other = cond (other == page) key (first other)

first-here : (page : ℕ) (key : Bytes) (first : ℕ → Bytes) → with_first page key first page ≡ key
first-here page key first = by (eqb_tells page page)
  where
    by : ((page == page ≡ true) × (page ≡ page)) ⊎ ((page == page ≡ false) × (page ≢ page)) → cond (page == page) key (first page) ≡ key
    by (inl same) = rw same.0 refl
    by (inr differ) = absurd (differ.1 refl)

first-other : (page : ℕ) (key : Bytes) (first : ℕ → Bytes) (other : ℕ) → other ≢ page → with_first page key first other ≡ first other
first-other page key first other differ = by (eqb_tells other page)
  where
    by : ((other == page ≡ true) × (other ≡ page)) ⊎ ((other == page ≡ false) × (other ≢ page)) → cond (other == page) key (first other) ≡ first other
    by (inl same) = absurd (differ same.1)
    by (inr apart) = rw apart.0 refl

module _ (pages changed : List Content) (root p : ℕ) (order : IsOrderly pages root) (one : ChangesOne pages p changed) (n l r : WholeNode) {many : ℕ} (splits : SplitsBehind n many l r) (left_well : IsWellFormed l) (right_well : IsWellFormed r) (some : r.lo ≢ []) (was : slice_get pages p ≡ Some (Node n)) (reached : Reaches pages root p) (a b : ℕ) (at_a : slice_get changed a ≡ Some (Node (with_next l b))) (at_b : slice_get changed b ≡ Some (Node r)) (new_a : (a ≡ p) ⊎ (Reaches pages root a → ⊥)) (new_b : Reaches pages root b → ⊥) where
  abbrev AtWhole : Bytes → Type 0
  AtWhole key = (s : ℕ) × Goes pages key s root p

  -- where a search is, as in `Ways`
  abbrev Where : Bytes → ℕ → Type 0
  Where key from = ((s : ℕ) × Goes pages key s root from) ⊎ (((from ≡ a) × AtWhole key) ⊎ ((from ≡ b) × (AtWhole key × (IsInRange n key → IsInRange r key))))

  abbrev right_first : Bytes
  right_first = later (order.first p) r.lo

  abbrev pub firsts : ℕ → Bytes
  firsts = with_first b right_first (with_first a (order.first p) order.first)

  a-not-b : a ≢ b
  a-not-b same =
      let is : r ≡ with_next l b = one_node changed a (with_next l b) r at_a (subst (λ q. slice_get changed q ≡ Some (Node r)) (sym same) at_b) in
      let lo : r.lo ≡ l.lo = ap (λ (w : WholeNode). w.lo) is in
      let lt : IsBelow l.lo l.hi = left_well.range (λ e. some (sym splits.left_hi ∙ e)) in
      not_below_itself l.lo (subst (λ (x : Bytes). IsBelow l.lo x) (splits.left_hi ∙ lo) lt)

  first-b : firsts b ≡ right_first
  first-b = first-here b right_first (with_first a (order.first p) order.first)

  first-a : firsts a ≡ order.first p
  first-a = first-other b right_first (with_first a (order.first p) order.first) a a-not-b ∙ first-here a (order.first p) order.first

  -- a page where searches were has the first key that it had
  first-old : (page : ℕ) → Reaches pages root page → firsts page ≡ order.first page
  first-old page got = by (cases_eq page a)
    where
      not-b : page ≢ b
      not-b same = new_b (subst (λ q. Reaches pages root q) same got)

      is-a : page ≡ a → (a ≡ p) ⊎ (Reaches pages root a → ⊥) → order.first p ≡ order.first page
      is-a same (inl here) = ap order.first (sym (same ∙ here))
      is-a same (inr new) = absurd (new (subst (λ q. Reaches pages root q) same got))

      by : (page ≡ a) ⊎ (page ≡ a → ⊥) → firsts page ≡ order.first page
      by (inl same) = first-other b right_first (with_first a (order.first p) order.first) page not-b ∙ (subst (λ q. with_first a (order.first p) order.first q ≡ order.first p) (sym same) (first-here a (order.first p) order.first) ∙ is-a same new_a)
      by (inr other) = first-other b right_first (with_first a (order.first p) order.first) page not-b ∙ first-other a (order.first p) order.first page other

  then : (key : Bytes) (page to : ℕ) (m : WholeNode) → IsAt pages root key page m → LeadsTo m key to → Reaches pages root to
  then key page to m ((s, goes), there) leads = (key, suc s, goes-then pages key s root page to goes (m, there, leads))

  -- what led in order still does, from a page to one where searches were
  still-fits : (key : Bytes) (page to : ℕ) (m : WholeNode) → IsAt pages root key page m → LeadsTo m key to → Fits firsts key page to m
  still-fits key page to m at leads =
      let it = fits-of pages root order key page to m at leads in
      let here = first-old page (key, at.0.0, at.0.1) in
      let there = first-old to (then key page to m at leads) in
      record {
        from_first = rw (here, there) it.from_first;
        up_to = rw there it.up_to;
        down = λ down. rw there (it.down down);
        right = λ right. rw there (it.right right);
      }

  module _ (key : Bytes) (to : ℕ) (at : AtWhole key) where
    at_n : IsAt pages root key p n
    at_n = (at, was)

    low-n : IsAtMost n.lo key
    low-n = node-low pages root order key p n at_n

    low-p : IsAtMost (order.first p) key
    low-p = first-low pages root order key at.0 p at.1

    all-pairs : (first : Bytes) → HasNoneWithin n.pairs first key → HasNoneWithin (l.pairs ++ r.pairs) first key
    all-pairs first none = subst (λ (pairs : List (Bytes × Item)). HasNoneWithin pairs first key) (sym splits.pairs) none

    fits-left : LeadsTo (with_next l b) key to → Fits firsts key a to (with_next l b)
    fits-left (inl down) =
        let part = left-in n l r splits left_well right_well some key b down.1 in
        let was_down : LeadsDown n key to = (sym splits.kinds.0 ∙ down.0, part.0, leading-left n l r splits left_well right_well some key part.1 ∙ down.2) in
        let it = fits-of pages root order key p to n at_n (inl was_down) in
        let there = first-old to (then key p to n at_n (inl was_down)) in
        fits-down firsts key a to (with_next l b) down (rw (first-a, there) it.from_first) (rw there it.up_to)
        (rw there (all-front (λ pair. IsAtMost pair.0 (order.first to) ⊎ IsBelow key pair.0) l.pairs r.pairs (all-pairs (order.first to) (it.down was_down))))
    fits-left (inr right) = subst (λ q. Fits firsts key a q (with_next l b)) (same-next b to right.1) (fits-right firsts key a b (with_next l b) (right.0, refl) (rw (first-a, first-b) (later-first (order.first p) r.lo)) (rw first-b (later-within (order.first p) r.lo key low-p end)) (rw (first-b, splits.left_hi) (later-second (order.first p) r.lo)))
      where
        end : IsAtMost r.lo key
        end lt = right.0 (subst (λ (x : Bytes). IsAtMost x key) (sym splits.left_lo) low-n, λ _. subst (λ (x : Bytes). IsBelow key x) (sym splits.left_hi) lt)

    fits-second : (IsInRange n key → IsInRange r key) → LeadsTo r key to → Fits firsts key b to r
    fits-second so (inl down) =
        let part = right-in n l r splits left_well right_well some key down.1 in
        let kind : n.is_index ≡ true = sym splits.kinds.1 ∙ down.0 in
        let was_down : LeadsDown n key to = (kind, part.0, leading-right n l r splits left_well right_well some key part.1 kind ∙ down.2) in
        let it = fits-of pages root order key p to n at_n (inl was_down) in
        let there = first-old to (then key p to n at_n (inl was_down)) in
        let none = all-back (λ pair. IsAtMost pair.0 (order.first to) ⊎ IsBelow key pair.0) l.pairs r.pairs (all-pairs (order.first to) (it.down was_down)) in
        let (pair, rest, is, same) = least-is n.is_index (greatest l.pairs) r.pairs r.lo kind splits.separator in
        let begins : IsAtMost pair.0 (order.first to) ⊎ IsBelow key pair.0 = (subst (λ (pairs : List (Bytes × Item)). HasNoneWithin pairs (order.first to) key) is none).0 in
        fits-down firsts key b to r down (rw (first-b, there) (later-within (order.first p) r.lo (order.first to) it.from_first (by pair.0 same begins part.1))) (rw there it.up_to) (rw there none)
      where
        by : (k : Bytes) → r.lo ≡ k → IsAtMost k (order.first to) ⊎ IsBelow key k → IsAtMost r.lo key → IsAtMost r.lo (order.first to)
        by k same (inl low) le = subst (λ (x : Bytes). IsAtMost x (order.first to)) (sym same) low
        by k same (inr lt) le = absurd (le (subst (λ (x : Bytes). IsBelow key x) (sym same) lt))
    fits-second so (inr right) =
        let was_right : LeadsRight n key to = ((λ in'. right.0 (so in')), sym splits.right_next ∙ right.1) in
        let it = fits-of pages root order key p to n at_n (inr was_right) in
        let there = first-old to (then key p to n at_n (inr was_right)) in
        let end = beyond pages root order key p n at_n was_right.0 in
        let ended : r.hi ≢ [] = λ e. end.0 (sym splits.right_hi ∙ e) in
        let hi : IsAtMost r.hi (order.first to) = subst (λ (x : Bytes). IsAtMost x (order.first to)) (sym splits.right_hi) (it.right was_right) in
        let low : IsAtMost r.lo (order.first to) = at_most_trans r.lo r.hi (order.first to) (below_is_at_most r.lo r.hi (right_well.range ended)) hi in
        fits-right firsts key b to r right (rw (first-b, there) (later-within (order.first p) r.lo (order.first to) it.from_first low)) (rw there it.up_to) (rw there hi)

  low-left : IsAtMost l.lo (firsts a)
  low-left = let (key, s, goes) = reached in rw (first-a, splits.left_lo) (order.low key p n ((s, goes), was))

  low-right : IsAtMost r.lo (firsts b)
  low-right = rw first-b (later-second (order.first p) r.lo)

  -- what stands in the place of the whole leads in order too
  module _ (ways : (key : Bytes) (t page : ℕ) → Goes changed key t root page → Where key page) (low-here : (m : WholeNode) → slice_get changed p ≡ Some (Node m) → IsAtMost m.lo (firsts p)) (fits-here : (key : Bytes) (to : ℕ) (m : WholeNode) → AtWhole key → slice_get changed p ≡ Some (Node m) → LeadsTo m key to → Fits firsts key p to m) where
    left-is : (page : ℕ) (m : WholeNode) → page ≡ a → slice_get changed page ≡ Some (Node m) → m ≡ with_next l b
    left-is page m same there = one_node changed a (with_next l b) m at_a (subst (λ q. slice_get changed q ≡ Some (Node m)) same there)

    right-is : (page : ℕ) (m : WholeNode) → page ≡ b → slice_get changed page ≡ Some (Node m) → m ≡ r
    right-is page m same there = one_node changed b r m at_b (subst (λ q. slice_get changed q ≡ Some (Node m)) same there)

    low : (key : Bytes) (page : ℕ) (m : WholeNode) → slice_get changed page ≡ Some (Node m) → (page ≡ p) ⊎ (page ≡ p → ⊥) → Where key page → IsAtMost m.lo (firsts page)
    low key page m there (inl same) (inl got) = subst (λ q. IsAtMost m.lo (firsts q)) (sym same) (low-here m (subst (λ q. slice_get changed q ≡ Some (Node m)) same there))
    low key page m there (inr other) (inl got) = rw (first-old page (key, got.0, got.1)) (order.low key page m (got, sym (one page other) ∙ there))
    low key page m there either (inr (inl here)) = subst (λ q. IsAtMost m.lo (firsts q)) (sym here.0) (subst (λ (w : WholeNode). IsAtMost w.lo (firsts a)) (sym (left-is page m here.0 there)) low-left)
    low key page m there either (inr (inr here)) = subst (λ q. IsAtMost m.lo (firsts q)) (sym here.0) (subst (λ (w : WholeNode). IsAtMost w.lo (firsts b)) (sym (right-is page m here.0 there)) low-right)

    fits : (key : Bytes) (page to : ℕ) (m : WholeNode) → slice_get changed page ≡ Some (Node m) → (page ≡ p) ⊎ (page ≡ p → ⊥) → Where key page → LeadsTo m key to → Fits firsts key page to m
    fits key page to m there (inl same) (inl got) leads = subst (λ q. Fits firsts key q to m) (sym same) (fits-here key to m (subst (λ q. (s : ℕ) × Goes pages key s root q) same got) (subst (λ q. slice_get changed q ≡ Some (Node m)) same there) leads)
    fits key page to m there (inr other) (inl got) leads = still-fits key page to m (got, sym (one page other) ∙ there) leads
    fits key page to m there either (inr (inl here)) leads =
        let is = left-is page m here.0 there in
        subst (λ q. Fits firsts key q to m) (sym here.0) (subst (λ (w : WholeNode). Fits firsts key a to w) (sym is) (fits-left key to here.1 (subst (λ (w : WholeNode). LeadsTo w key to) is leads)))
    fits key page to m there either (inr (inr here)) leads =
        let is = right-is page m here.0 there in
        subst (λ q. Fits firsts key q to m) (sym here.0) (subst (λ (w : WholeNode). Fits firsts key b to w) (sym is) (fits-second key to here.1.0 here.1.1 (subst (λ (w : WholeNode). LeadsTo w key to) is leads)))

    pub split-order : IsOrderly changed root
    split-order = in-order changed root firsts (first-old root ([], zero, refl) ∙ order.root_first)
        (λ key page m at. low key page m at.1 (cases_eq page p) (ways key at.0.0 page at.0.1))
        (λ key page to m at leads. fits key page to m at.1 (cases_eq page p) (ways key at.0.0 page at.0.1) leads)

  -- the left part stands there
  module _ (here : a ≡ p) (ways : (key : Bytes) (t page : ℕ) → Goes changed key t root page → Where key page) where
    pub in-place-order : IsOrderly changed root
    in-place-order = split-order ways low-here fits-here
      where
        is : (m : WholeNode) → slice_get changed p ≡ Some (Node m) → m ≡ with_next l b
        is m there = one_node changed a (with_next l b) m at_a (subst (λ q. slice_get changed q ≡ Some (Node m)) (sym here) there)

        low-here : (m : WholeNode) → slice_get changed p ≡ Some (Node m) → IsAtMost m.lo (firsts p)
        low-here m there = subst (λ q. IsAtMost m.lo (firsts q)) here (subst (λ (w : WholeNode). IsAtMost w.lo (firsts a)) (sym (is m there)) low-left)

        fits-here : (key : Bytes) (to : ℕ) (m : WholeNode) → AtWhole key → slice_get changed p ≡ Some (Node m) → LeadsTo m key to → Fits firsts key p to m
        fits-here key to m at there leads = subst (λ q. Fits firsts key q to m) here (subst (λ (w : WholeNode). Fits firsts key a to w) (sym (is m there)) (fits-left key to at (subst (λ (w : WholeNode). LeadsTo w key to) (is m there) leads)))

  -- or an index over both parts
  abbrev over_both : WholeNode
  over_both = index_of (([], Child a) ∷ (r.lo, Child b) ∷ [])

  module _ (now : slice_get changed p ≡ Some (Node over_both)) (ways : (key : Bytes) (t page : ℕ) → Goes changed key t root page → Where key page) where
    first-p : firsts p ≡ order.first p
    first-p = first-old p reached

    over-fits : (key : Bytes) (to : ℕ) → AtWhole key → LeadsTo over_both key to → Fits firsts key p to over_both
    over-fits key to at (inr right) = absurd (right.0 (all-keys over_both refl refl key))
    over-fits key to at (inl down) = by (side key r.lo)
      where
        by : IsBelow key r.lo ⊎ IsAtMost r.lo key → Fits firsts key p to over_both
        by (inl below) =
            let led : leading over_both.pairs key ≡ Some (Child a) = rw (lt-true (bytes_cmp key r.lo) below, lt-false (bytes_cmp key []) (never-below key)) refl in
            let same : to ≡ a = same-child to a (sym down.2 ∙ led) in
            subst (λ q. Fits firsts key p q over_both) (sym same) (fits-down firsts key p a over_both (subst (λ q. LeadsDown over_both key q) same down) (rw (first-p, first-a) (not_below_itself (order.first p))) (rw first-a (low-p key to at)) (inl (never-below (firsts a)), (inr below, tt)))
        by (inr above) =
            let led : leading over_both.pairs key ≡ Some (Child b) = rw (lt-false (bytes_cmp key r.lo) above) refl in
            let same : to ≡ b = same-child to b (sym down.2 ∙ led) in
            subst (λ q. Fits firsts key p q over_both) (sym same) (fits-down firsts key p b over_both (subst (λ q. LeadsDown over_both key q) same down) (rw (first-p, first-b) (later-first (order.first p) r.lo)) (rw first-b (later-within (order.first p) r.lo key (low-p key to at) above)) (inl (never-below (firsts b)), (inl (rw first-b (later-second (order.first p) r.lo)), tt)))

    pub hoisted-order : IsOrderly changed root
    hoisted-order = split-order ways (λ m there. subst (λ (w : WholeNode). IsAtMost w.lo (firsts p)) (sym (one_node changed p over_both m now there)) (never-below (firsts p)))
        (λ key to m at there leads. subst (λ (w : WholeNode). Fits firsts key p to w) (sym (one_node changed p over_both m now there)) (over-fits key to at (subst (λ (w : WholeNode). LeadsTo w key to) (one_node changed p over_both m now there) leads)))
