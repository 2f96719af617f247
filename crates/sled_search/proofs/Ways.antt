-- Where searches get once a page of their tree was changed: nowhere but to pages where they got before, and to new ones.
use Rattle.std.proofs.Common.{◌≡◌, ◌≢◌, ◌⊎◌, inl, inr, ℕ, zero, suc, true, false, List, [], ◌∷◌, Option, None, Some, slice_get, refl, sym, ◌∙◌, ap, subst}
use Rattle.std.proofs.lemmas.Bool.{cases_eq}
use Rattle.sled_base.specs.Order.{Bytes, bytes_cmp, IsBelow, IsAtMost}
use Rattle.sled_log.specs.Contents.{Content, Node}
use Rattle.sled_node.specs.Children.{index_of, with_child}
use Rattle.sled_node.specs.Node.{Item, Child, WholeNode, IsInRange, IsWellFormed}
use Rattle.sled_node.specs.Pairs.{IsAscending, pairs_above}
use Rattle.sled_node.specs.Splitting.{SplitsBehind}
use Rattle.sled_search.specs.Map.{leading}
use Rattle.sled_search.specs.Maps.{Reaches, ChangesOne}
use Rattle.sled_search.specs.Search.{HasNodeAt, LeadsTo, Goes}
use Rattle.sled_search.proofs.Hints.{set-below, set-above, above-none, above-some}
use Rattle.sled_search.proofs.Leading.{lt-true, lt-false}
use Rattle.sled_search.proofs.Off.{node-was}
use Rattle.sled_search.proofs.Search.{goes-then, one_node}
use Rattle.sled_search.proofs.Separated.{never-below}
use Rattle.sled_search.proofs.SplitTrees.{all-keys}
use Rattle.sled_search.proofs.Splits.{with_next, side, leading-left, leading-right, in-left, in-right, left-in, right-in}
use Rattle.sled_search.proofs.Trees.{with_pairs}

pub same-child : (a b : ℕ) → ◌≡◌ {A = Option Item} (Some (Child a)) (Some (Child b)) → a ≡ b
same-child a b h = let e : Child a ≡ Child b = cc in cc

pub same-next : (a b : ℕ) → ◌≡◌ {A = Option ℕ} (Some a) (Some b) → a ≡ b
same-next a b h = cc

-- ---- a leaf with other pairs

module _ (pages changed : List Content) (p : ℕ) (one : ChangesOne pages p changed) (n : WholeNode) (pairs : List (Bytes × Item)) (was : slice_get pages p ≡ Some (Node n)) (leaf : n.is_index ≡ false) (now : slice_get changed p ≡ Some (Node (with_pairs n pairs))) where
  leaf-leads : (key : Bytes) (to : ℕ) → LeadsTo (with_pairs n pairs) key to → LeadsTo n key to
  leaf-leads key to (inl down) = absurd (let e = down.0 in let f = leaf in cc)
  leaf-leads key to (inr right) = inr right

  leaf-step : (key : Bytes) (from next : ℕ) → (from ≡ p) ⊎ (from ≡ p → ⊥) → HasNodeAt changed from (λ k. LeadsTo k key next) → HasNodeAt pages from (λ k. LeadsTo k key next)
  leaf-step key from next (inr other) first = node-was pages changed p one from other (λ k. LeadsTo k key next) first
  leaf-step key from next (inl same) (k, there, leads) = (n, ap (λ q. slice_get pages q) same ∙ was, leaf-leads key next (subst (λ (w : WholeNode). LeadsTo w key next) (one_node changed p (with_pairs n pairs) k now (subst (λ q. slice_get changed q ≡ Some (Node k)) same there)) leads))

  pub leaf-goes : (key : Bytes) (t from to : ℕ) → Goes changed key t from to → Goes pages key t from to
  leaf-goes key zero from to is = is
  leaf-goes key (suc t) from to (next, first, rest) = (next, leaf-step key from next (cases_eq from p) first, leaf-goes key t next to rest)

  pub leaf-ways : (root page : ℕ) → Reaches changed root page → Reaches pages root page
  leaf-ways root page (key, t, goes) = (key, t, leaf-goes key t root page goes)

-- ---- an index with one more child

module _ (pages changed : List Content) (q : ℕ) (one : ChangesOne pages q changed) (n : WholeNode) (at : Bytes) (sib : ℕ) (was : slice_get pages q ≡ Some (Node n)) (index : n.is_index ≡ true) (up : IsAscending n.pairs) (now : slice_get changed q ≡ Some (Node (with_child at sib n))) (c : ℕ) (leads : leading n.pairs at ≡ Some (Child c)) (nc : WholeNode) (at_c : slice_get pages c ≡ Some (Node nc)) (ends : nc.hi ≡ at) (some : at ≢ []) (right : nc.next ≡ Some sib) (root : ℕ) where
  abbrev Got : Bytes → ℕ → Type 0
  Got key page = (s : ℕ) × Goes pages key s root page

  out : (key : Bytes) → IsAtMost at key → ¬ IsInRange nc key
  out key le in' = le (subst (λ (x : Bytes). IsBelow key x) ends (in'.1 (λ e. some (sym ends ∙ e))))

  got-then : (key : Bytes) (from to : ℕ) → Got key from → HasNodeAt pages from (λ k. LeadsTo k key to) → Got key to
  got-then key from to (s, goes) first = (suc s, goes-then pages key s root from to goes first)

  new-child : (key : Bytes) (next : ℕ) → IsAtMost at key → IsInRange n key → Got key q → (o : Option Item) → leading (pairs_above at n.pairs) key ≡ o → leading (with_child at sib n).pairs key ≡ Some (Child next) → Got key next
  new-child key next le range got (Some item) is led =
      let led' : leading n.pairs key ≡ Some item = above-some at key n.pairs item up is in
      let same : ◌≡◌ {A = Option Item} (Some item) (Some (Child next)) = sym (set-above at key le (Child sib) n.pairs ∙ rw is refl) ∙ led in
      got-then key q next got (n, was, inl (index, range, led' ∙ same))
  new-child key next le range got None is led =
      let same : sib ≡ next = same-child sib next (sym (set-above at key le (Child sib) n.pairs ∙ rw is refl) ∙ led) in
      let down = got-then key q c got (n, was, inl (index, range, above-none at key le n.pairs is ∙ leads)) in
      subst (λ page. Got key page) same (got-then key c sib down (nc, at_c, inr (out key le, right)))

  from-index : (key : Bytes) (next : ℕ) → Got key q → LeadsTo (with_child at sib n) key next → Got key next
  from-index key next got (inr beside) = got-then key q next got (n, was, inr beside)
  from-index key next got (inl down) = by (side key at)
    where
      by : IsBelow key at ⊎ IsAtMost at key → Got key next
      by (inl lt) = got-then key q next got (n, was, inl (index, down.1, sym (set-below at key lt (Child sib) n.pairs) ∙ down.2))
      by (inr le) = new-child key next le down.1 got (leading (pairs_above at n.pairs) key) refl down.2

  child-step : (key : Bytes) (from next : ℕ) → (from ≡ q) ⊎ (from ≡ q → ⊥) → Got key from → HasNodeAt changed from (λ k. LeadsTo k key next) → Got key next
  child-step key from next (inr other) got first = got-then key from next got (node-was pages changed q one from other (λ k. LeadsTo k key next) first)
  child-step key from next (inl same) got (k, there, leads) = from-index key next (subst (λ page. Got key page) same got) (subst (λ (w : WholeNode). LeadsTo w key next) (one_node changed q (with_child at sib n) k now (subst (λ page. slice_get changed page ≡ Some (Node k)) same there)) leads)

  pub child-goes : (key : Bytes) (t from to : ℕ) → Got key from → Goes changed key t from to → Got key to
  child-goes key zero from to got is = subst (λ page. Got key page) is got
  child-goes key (suc t) from to got (next, first, rest) = child-goes key t next to (child-step key from next (cases_eq from q) got first) rest

  pub child-ways : (page : ℕ) → Reaches changed root page → Reaches pages root page
  child-ways page (key, t, goes) = let (s, got) = child-goes key t root page (zero, refl) goes in (key, s, got)

-- ---- a node that was split

module _ (pages changed : List Content) (p : ℕ) (one : ChangesOne pages p changed) (n l r : WholeNode) {many : ℕ} (splits : SplitsBehind n many l r) (left_well : IsWellFormed l) (right_well : IsWellFormed r) (some : r.lo ≢ []) (was : slice_get pages p ≡ Some (Node n)) (a b : ℕ) (at_a : slice_get changed a ≡ Some (Node (with_next l b))) (at_b : slice_get changed b ≡ Some (Node r)) (root : ℕ) where
  -- the search got to the whole
  abbrev AtWhole : Bytes → Type 0
  AtWhole key = (s : ℕ) × Goes pages key s root p

  -- where the search is: at a page where it was before, or at one of the parts
  abbrev Where : Bytes → ℕ → Type 0
  Where key from = ((s : ℕ) × Goes pages key s root from) ⊎ (((from ≡ a) × AtWhole key) ⊎ ((from ≡ b) × (AtWhole key × (IsInRange n key → IsInRange r key))))

  whole-leads : (key : Bytes) (to : ℕ) → AtWhole key → LeadsTo n key to → Where key to
  whole-leads key to (s, goes) leads = inl (suc s, goes-then pages key s root p to goes (n, was, leads))

  from-first : (key : Bytes) (next : ℕ) → AtWhole key → LeadsTo (with_next l b) key next → Where key next
  from-first key next at (inl down) =
      let part = left-in n l r splits left_well right_well some key b down.1 in
      whole-leads key next at (inl (sym splits.kinds.0 ∙ down.0, part.0, leading-left n l r splits left_well right_well some key part.1 ∙ down.2))
  from-first key next at (inr right) = inr (inr (same-next next b (sym right.1), (at, λ in'. by (side key r.lo) in')))
    where
      by : IsBelow key r.lo ⊎ IsAtMost r.lo key → IsInRange n key → IsInRange r key
      by (inl below) in' = absurd (right.0 (in-left n l r splits left_well right_well some key below b in'))
      by (inr above) in' = in-right n l r splits left_well right_well some key above in'

  from-second : (key : Bytes) (next : ℕ) → AtWhole key → (IsInRange n key → IsInRange r key) → LeadsTo r key next → Where key next
  from-second key next at so (inl down) =
      let part = right-in n l r splits left_well right_well some key down.1 in
      let kind : n.is_index ≡ true = sym splits.kinds.1 ∙ down.0 in
      whole-leads key next at (inl (kind, part.0, leading-right n l r splits left_well right_well some key part.1 kind ∙ down.2))
  from-second key next at so (inr right) = whole-leads key next at (inr ((λ in'. right.0 (so in')), sym splits.right_next ∙ right.1))

  module _ (enter : (key : Bytes) (next : ℕ) → AtWhole key → HasNodeAt changed p (λ k. LeadsTo k key next) → Where key next) where
    split-step : (key : Bytes) (from next : ℕ) → (from ≡ p) ⊎ (from ≡ p → ⊥) → Where key from → HasNodeAt changed from (λ k. LeadsTo k key next) → Where key next
    split-step key from next (inl same) (inl got) first = enter key next (got.0, subst (λ page. Goes pages key got.0 root page) same got.1) (subst (λ page. HasNodeAt changed page (λ k. LeadsTo k key next)) same first)
    split-step key from next (inr other) (inl got) first = inl (suc got.0, goes-then pages key got.0 root from next got.1 (node-was pages changed p one from other (λ k. LeadsTo k key next) first))
    split-step key from next either (inr (inl here)) (k, there, leads) = from-first key next here.1 (subst (λ (w : WholeNode). LeadsTo w key next) (one_node changed a (with_next l b) k at_a (subst (λ page. slice_get changed page ≡ Some (Node k)) here.0 there)) leads)
    split-step key from next either (inr (inr here)) (k, there, leads) = from-second key next here.1.0 here.1.1 (subst (λ (w : WholeNode). LeadsTo w key next) (one_node changed b r k at_b (subst (λ page. slice_get changed page ≡ Some (Node k)) here.0 there)) leads)

    pub split-goes : (key : Bytes) (t from to : ℕ) → Where key from → Goes changed key t from to → Where key to
    split-goes key zero from to at is = subst (λ page. Where key page) is at
    split-goes key (suc t) from to at (next, first, rest) = split-goes key t next to (split-step key from next (cases_eq from p) at first) rest

    pub split-ways : (page : ℕ) → Reaches changed root page → Reaches pages root page ⊎ ((page ≡ a) ⊎ (page ≡ b))
    split-ways page (key, t, goes) = by (split-goes key t root page (inl (zero, refl)) goes)
      where
        by : Where key page → Reaches pages root page ⊎ ((page ≡ a) ⊎ (page ≡ b))
        by (inl got) = inl (key, got.0, got.1)
        by (inr (inl here)) = inr (inl here.0)
        by (inr (inr here)) = inr (inr here.0)

  -- the left part stands in the place of the whole
  pub enter-first : a ≡ p → (key : Bytes) (next : ℕ) → AtWhole key → HasNodeAt changed p (λ k. LeadsTo k key next) → Where key next
  enter-first same key next at (k, there, leads) = from-first key next at (subst (λ (w : WholeNode). LeadsTo w key next) (one_node changed a (with_next l b) k at_a (subst (λ page. slice_get changed page ≡ Some (Node k)) (sym same) there)) leads)

  -- an index over both does
  abbrev hoisted : WholeNode
  hoisted = index_of (([], Child a) ∷ (r.lo, Child b) ∷ [])

  pub enter-index : slice_get changed p ≡ Some (Node hoisted) → (key : Bytes) (next : ℕ) → AtWhole key → HasNodeAt changed p (λ k. LeadsTo k key next) → Where key next
  enter-index now key next at (k, there, leads) = by (subst (λ (w : WholeNode). LeadsTo w key next) (one_node changed p hoisted k now there) leads)
    where
      to-part : leading hoisted.pairs key ≡ Some (Child next) → IsBelow key r.lo ⊎ IsAtMost r.lo key → Where key next
      to-part led (inl below) =
          let first : leading hoisted.pairs key ≡ Some (Child a) = rw (lt-true (bytes_cmp key r.lo) below, lt-false (bytes_cmp key []) (never-below key)) refl in
          inr (inl (same-child next a (sym led ∙ first), at))
      to-part led (inr above) =
          let second : leading hoisted.pairs key ≡ Some (Child b) = rw (lt-false (bytes_cmp key r.lo) above) refl in
          inr (inr (same-child next b (sym led ∙ second), (at, λ in'. in-right n l r splits left_well right_well some key above in')))

      by : LeadsTo hoisted key next → Where key next
      by (inl down) = to-part down.2 (side key r.lo)
      by (inr right) = absurd (right.0 (all-keys hoisted refl refl key))
