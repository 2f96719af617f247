-- An index of which the pair to a child is taken out, to which the child in front of it leads on.
use Rattle.std.proofs.Common.{◌≡◌, ◌≢◌, ◌⊎◌, inl, inr, ℕ, zero, suc, true, List, [], ◌∷◌, ◌++◌, Option, None, Some, slice_get, refl, sym, ◌∙◌, ap, subst, arith, cond}
use Rattle.std.proofs.lemmas.Bool.{cases_eq}
use Rattle.std.specs.List.{AllByRecursion}
use Rattle.sled_base.specs.Order.{Bytes, bytes_cmp, is_below, IsBelow, IsAtMost}
use Rattle.sled_base.specs.OrderLaws.{at_most_trans, below_is_at_most, not_below_itself}
use Rattle.sled_log.specs.Contents.{Content, Node}
use Rattle.sled_node.specs.Node.{Item, Child, WholeNode, IsInRange}
use Rattle.sled_search.specs.Map.{Map, at_key, leading, or_else}
use Rattle.sled_search.specs.Maps.{ChangesOne}
use Rattle.sled_search.specs.Orderly.{IsAt, HasNoneWithin, IsOrderly}
use Rattle.sled_search.specs.Search.{HasNodeAt, LeadsDown, LeadsTo, IsLeafOf, HasAt, Goes, Comes, IsTreeOf}
use Rattle.sled_search.proofs.Kept.{OthersStay, HereToo, kept}
use Rattle.sled_search.proofs.Leading.{leading-append, lt-true, lt-false}
use Rattle.sled_search.proofs.Off.{node-was}
use Rattle.sled_search.proofs.Orders.{Fits, fits-down, fits-right, fits-of, in-order}
use Rattle.sled_search.proofs.OrdersKept.{Got, all-append, all-front, all-back, none-led}
use Rattle.sled_search.proofs.Pairs.{all-weaker}
use Rattle.sled_search.proofs.Search.{goes-then, one_node}
use Rattle.sled_search.proofs.Splits.{side}
use Rattle.sled_search.proofs.Trees.{with_pairs, covers-stay}
use Rattle.sled_search.proofs.Ways.{same-child, same-next}

-- ---- the pairs, with both children and with the left one alone

module _ (front back : List (Bytes × Item)) (low at : Bytes) (l r : ℕ) where
  abbrev pub with_both : List (Bytes × Item)
  with_both = front ++ (low, Child l) ∷ (at, Child r) ∷ back

  abbrev pub left_alone : List (Bytes × Item)
  left_alone = front ++ (low, Child l) ∷ back

  -- what is so of all of them is so without the one
  pub all-fewer : (P : Bytes × Item → Type 0) → AllByRecursion P with_both → AllByRecursion P left_alone
  all-fewer P all =
      let ends = all-back P front ((low, Child l) ∷ (at, Child r) ∷ back) all in
      all-append P front ((low, Child l) ∷ back) (all-front P front ((low, Child l) ∷ (at, Child r) ∷ back) all) (ends.0, ends.1.1)

  module _ (lt : IsBelow low at) (key : Bytes) where
    -- where the right one led, and none behind it does, the left one leads now
    pub led-here : leading back key ≡ None → IsAtMost at key → (leading with_both key ≡ Some (Child r)) × (leading left_alone key ≡ Some (Child l))
    led-here none le = (
      leading-append front ((low, Child l) ∷ (at, Child r) ∷ back) key ∙ rw (none, lt-false (bytes_cmp key at) le) refl,
      leading-append front ((low, Child l) ∷ back) key ∙ rw (none, lt-false (bytes_cmp key low) (at_most_trans low at key (below_is_at_most low at lt) le)) refl,
    )

    -- how a key is led
    abbrev pub Led : Type 0
    Led = (leading left_alone key ≡ leading with_both key) ⊎ (IsAtMost at key × (leading back key ≡ None) × (leading with_both key ≡ Some (Child r)) × (leading left_alone key ≡ Some (Child l)))

    pub which : Led
    which = by (leading back key) refl (side key at)
      where
        by : (o : Option Item) → leading back key ≡ o → IsBelow key at ⊎ IsAtMost at key → Led
        by (Some item) is s =
            let alone : leading left_alone key ≡ Some item = leading-append front ((low, Child l) ∷ back) key ∙ rw is refl in
            let both : leading with_both key ≡ Some item = leading-append front ((low, Child l) ∷ (at, Child r) ∷ back) key ∙ rw is refl in
            inl (alone ∙ sym both)
        by None is (inl before) =
            let alone : leading left_alone key ≡ or_else (cond (is_below key low) None (Some (Child l))) (leading front key) = leading-append front ((low, Child l) ∷ back) key ∙ rw is refl in
            let both : leading with_both key ≡ or_else (cond (is_below key low) None (Some (Child l))) (leading front key) = leading-append front ((low, Child l) ∷ (at, Child r) ∷ back) key ∙ rw (is, lt-true (bytes_cmp key at) before) refl in
            inl (alone ∙ sym both)
        by None is (inr le) = let both = led-here is le in inr (le, is, both.0, both.1)

-- ---- the pages

module _ (pages changed : List Content) (q : ℕ) (n : WholeNode) (front back : List (Bytes × Item)) (low at : Bytes) (l r : ℕ) (lt : IsBelow low at) (is : n.pairs ≡ with_both front back low at l r) (was : slice_get pages q ≡ Some (Node n)) (index : n.is_index ≡ true) (now : slice_get changed q ≡ Some (Node (with_pairs n (left_alone front back low at l r)))) (nl : WholeNode) (at_l : slice_get pages l ≡ Some (Node nl)) (apart : l ≢ q) (ends : nl.hi ≡ at) (some : at ≢ []) (right : nl.next ≡ Some r) where
  abbrev pub k : WholeNode
  k = with_pairs n (left_alone front back low at l r)

  abbrev Leads : Bytes → Type 0
  Leads key = Led front back low at l r lt key

  led-was : (key : Bytes) → leading n.pairs key ≡ leading (with_both front back low at l r) key
  led-was key = ap (λ (pairs : List (Bytes × Item)). leading pairs key) is

  out : (key : Bytes) → IsAtMost at key → ¬ IsInRange nl key
  out key le in' = le (subst (λ (x : Bytes). IsBelow key x) ends (in'.1 (λ e. some (sym ends ∙ e))))

  module _ (others : OthersStay pages changed q) (key : Bytes) (Is : ℕ → WholeNode → Type 0) where
    with-turn : (to : ℕ) → LeadsTo k key to → Comes changed key Is to → Comes changed key Is q
    with-turn to leads (more, found) = (suc more, (to, (k, now, leads), found))

    by-left : IsAtMost at key → Comes changed key Is r → Comes changed key Is l
    by-left le (more, found) = (suc more, (r, (nl, others l apart nl at_l, inr (out key le, right)), found))

    taken-here : HereToo pages changed q others key Is Is
    taken-here zero less (m, there, x) = absurd (let same = one_node pages q n m was there in let e = (subst (λ (w : WholeNode). IsLeafOf key w) same x.0).0 in let f = index in cc)
    taken-here (suc turns) less (to, (m, there, x), rest) = by (subst (λ (w : WholeNode). LeadsTo w key to) (one_node pages q n m was there) x)
      where
        led : LeadsDown n key to → Leads key → Comes changed key Is q
        led down (inl same) = with-turn to (inl (index, down.1, same ∙ (sym (led-was key) ∙ down.2))) (less turns (omega arith) to rest)
        led down (inr new) =
            let e : to ≡ r = same-child to r (sym down.2 ∙ (led-was key ∙ new.2)) in
            with-turn l (inl (index, down.1, new.3)) (by-left new.0 (subst (λ page. Comes changed key Is page) e (less turns (omega arith) to rest)))

        by : LeadsTo n key to → Comes changed key Is q
        by (inl down) = led down (which front back low at l r lt key)
        by (inr beside) = with-turn to (inr beside) (less turns (omega arith) to rest)

    pub taken-kept : (from : ℕ) → Comes pages key Is from → Comes changed key Is from
    taken-kept from found = kept pages changed q others key Is Is (λ pid m other so. so) taken-here from found

  pub tree-taken : OthersStay pages changed q → (root : ℕ) (m : Map) → IsTreeOf pages root m → IsTreeOf changed root m
  tree-taken others root m tree = record {
    ascending = tree.ascending;
    comes = λ key. taken-kept others key (λ _ w. HasAt key (at_key m key) w) root (tree.comes key);
    covers = covers-stay pages changed root m tree (λ key J found. taken-kept others key (λ pid w. J pid w.lo w.hi) root found);
  }

  -- ---- where searches get

  module _ (one : ChangesOne pages q changed) (root : ℕ) where
    -- at a page where they got before, or at the left child on the way to the right one
    abbrev pub Where : Bytes → ℕ → Type 0
    Where key page = Got pages root key page ⊎ ((page ≡ l) × Got pages root key q × LeadsDown n key r × IsAtMost at key)

    got-then : (key : Bytes) (from to : ℕ) → Got pages root key from → HasNodeAt pages from (λ m. LeadsTo m key to) → Got pages root key to
    got-then key from to (s, goes) first = (suc s, goes-then pages key s root from to goes first)

    from-index : (key : Bytes) (next : ℕ) → Got pages root key q → LeadsTo k key next → Where key next
    from-index key next got (inr beside) = inl (got-then key q next got (n, was, inr beside))
    from-index key next got (inl down) = by (which front back low at l r lt key)
      where
        by : Leads key → Where key next
        by (inl same) = inl (got-then key q next got (n, was, inl (index, down.1, led-was key ∙ (sym same ∙ down.2))))
        by (inr new) = inr (same-child next l (sym down.2 ∙ new.3), got, (index, down.1, led-was key ∙ new.2), new.0)

    from-left : (key : Bytes) (next : ℕ) → Got pages root key q → LeadsDown n key r → IsAtMost at key → LeadsTo nl key next → Where key next
    from-left key next got down le (inl below) = absurd (out key le below.1)
    from-left key next got down le (inr beside) = inl (subst (λ page. Got pages root key page) (same-next r next (sym right ∙ beside.1)) (got-then key q r got (n, was, inl down)))

    taken-step : (key : Bytes) (from next : ℕ) → (from ≡ q) ⊎ (from ≡ q → ⊥) → Where key from → HasNodeAt changed from (λ m. LeadsTo m key next) → Where key next
    taken-step key from next (inr other) (inl got) first = inl (got-then key from next got (node-was pages changed q one from other (λ m. LeadsTo m key next) first))
    taken-step key from next (inl same) (inl got) (m, there, leads) = from-index key next (subst (λ page. Got pages root key page) same got) (subst (λ (w : WholeNode). LeadsTo w key next) (one_node changed q k m now (subst (λ page. slice_get changed page ≡ Some (Node m)) same there)) leads)
    taken-step key from next either (inr here) (m, there, leads) =
        let at_it : slice_get pages l ≡ Some (Node m) = sym (one l apart) ∙ subst (λ page. slice_get changed page ≡ Some (Node m)) here.0 there in
        from-left key next here.1 here.2 here.3 (subst (λ (w : WholeNode). LeadsTo w key next) (one_node pages l nl m at_l at_it) leads)

    taken-goes : (key : Bytes) (t from to : ℕ) → Where key from → Goes changed key t from to → Where key to
    taken-goes key zero from to got same = subst (λ page. Where key page) same got
    taken-goes key (suc t) from to got (next, first, rest) = taken-goes key t next to (taken-step key from next (cases_eq from q) got first) rest

    pub taken-ways : (key : Bytes) (t page : ℕ) → Goes changed key t root page → Where key page
    taken-ways key t page goes = taken-goes key t root page (inl (zero, refl)) goes

    -- ---- and in which order

    module _ (order : IsOrderly pages root) (at_low : IsAt pages root low q n) (leads_low : LeadsDown n low l) where
      pub low-l : IsAtMost (order.first l) low
      low-l = (order.rises low q l n at_low (inl leads_low)).1

      l-low : IsAtMost low (order.first l)
      l-low = by ((all-back (λ pair. IsAtMost pair.0 (order.first l) ⊎ IsBelow low pair.0) front ((low, Child l) ∷ (at, Child r) ∷ back) (subst (λ (pairs : List (Bytes × Item)). HasNoneWithin pairs (order.first l) low) is (order.down low q l n at_low leads_low))).0)
        where
          by : IsAtMost low (order.first l) ⊎ IsBelow low low → IsAtMost low (order.first l)
          by (inl le) = le
          by (inr less) = absurd (not_below_itself low less)

      -- the right one has no keys before its pair's
      pub at-r : (key : Bytes) → IsAt pages root key q n → LeadsDown n key r → IsAtMost at key → IsAtMost at (order.first r)
      at-r key is_at down le = by ((all-back (λ pair. IsAtMost pair.0 (order.first r) ⊎ IsBelow key pair.0) front ((low, Child l) ∷ (at, Child r) ∷ back) (subst (λ (pairs : List (Bytes × Item)). HasNoneWithin pairs (order.first r) key) is (order.down key q r n is_at down))).1.0)
        where
          by : IsAtMost at (order.first r) ⊎ IsBelow key at → IsAtMost at (order.first r)
          by (inl fine) = fine
          by (inr less) = absurd (le less)

      module _ (below_low : AllByRecursion (λ pair. IsBelow pair.0 low) front) where
        index-fits : (key : Bytes) (to : ℕ) → IsAt pages root key q n → LeadsTo k key to → Fits order.first key q to k
        index-fits key to is_at (inr beside) =
            let it = fits-of pages root order key q to n is_at (inr beside) in
            fits-right order.first key q to k beside it.from_first it.up_to (it.right beside)
        index-fits key to is_at (inl down) = by (which front back low at l r lt key)
          where
            by : Leads key → Fits order.first key q to k
            by (inl same) =
                let was_down : LeadsDown n key to = (index, down.1, led-was key ∙ (sym same ∙ down.2)) in
                let it = fits-of pages root order key q to n is_at (inl was_down) in
                fits-down order.first key q to k down it.from_first it.up_to (all-fewer front back low at l r (λ pair. IsAtMost pair.0 (order.first to) ⊎ IsBelow key pair.0) (subst (λ (pairs : List (Bytes × Item)). HasNoneWithin pairs (order.first to) key) is (it.down was_down)))
            by (inr new) =
                let same : to ≡ l = same-child to l (sym down.2 ∙ new.3) in
                let rises = order.rises low q l n at_low (inl leads_low) in
                subst (λ page. Fits order.first key q page k) (sym same) (fits-down order.first key q l k (subst (λ page. LeadsDown k key page) same down) rises.0 (at_most_trans (order.first l) low key low-l (at_most_trans low at key (below_is_at_most low at lt) new.0))
                (all-append (λ pair. IsAtMost pair.0 (order.first l) ⊎ IsBelow key pair.0) front ((low, Child l) ∷ back)
                (all-weaker (λ pair. IsBelow pair.0 low) (λ pair. IsAtMost pair.0 (order.first l) ⊎ IsBelow key pair.0) (λ pair less. inl (at_most_trans pair.0 low (order.first l) (below_is_at_most pair.0 low less) l-low)) front below_low)
                (inl l-low, all-weaker (λ pair. IsBelow key pair.0) (λ pair. IsAtMost pair.0 (order.first l) ⊎ IsBelow key pair.0) (λ pair less. inr less) back (none-led back key new.1))))

        left-fits : (key : Bytes) (to : ℕ) → Got pages root key q → LeadsDown n key r → IsAtMost at key → LeadsTo nl key to → Fits order.first key l to nl
        left-fits key to got down le (inl below) = absurd (out key le below.1)
        left-fits key to got down le (inr beside) =
            let same : r ≡ to = same-next r to (sym right ∙ beside.1) in
            let it = order.rises key q r n (got, was) (inl down) in
            let begins = at-r key (got, was) down le in
            subst (λ page. Fits order.first key l page nl) same (fits-right order.first key l r nl (beside.0, right) (at_most_trans (order.first l) at (order.first r) (at_most_trans (order.first l) low at low-l (below_is_at_most low at lt)) begins) it.1 (subst (λ (x : Bytes). IsAtMost x (order.first r)) (sym ends) begins))

        node-low : (key : Bytes) (page : ℕ) (m : WholeNode) → slice_get changed page ≡ Some (Node m) → (page ≡ q) ⊎ (page ≡ q → ⊥) → Where key page → IsAtMost m.lo (order.first page)
        node-low key page m there (inl same) (inl got) = subst (λ p. IsAtMost m.lo (order.first p)) (sym same) (subst (λ (w : WholeNode). IsAtMost w.lo (order.first q)) (sym (one_node changed q k m now (subst (λ p. slice_get changed p ≡ Some (Node m)) same there))) (order.low key q n (subst (λ p. Got pages root key p) same got, was)))
        node-low key page m there (inr other) (inl got) = order.low key page m (got, sym (one page other) ∙ there)
        node-low key page m there either (inr here) =
            let at_it : slice_get pages l ≡ Some (Node m) = sym (one l apart) ∙ subst (λ p. slice_get changed p ≡ Some (Node m)) here.0 there in
            let got_l = got-then low q l at_low.0 (n, was, inl leads_low) in
            subst (λ p. IsAtMost m.lo (order.first p)) (sym here.0) (order.low low l m (got_l, at_it))

        fits : (key : Bytes) (page to : ℕ) (m : WholeNode) → slice_get changed page ≡ Some (Node m) → (page ≡ q) ⊎ (page ≡ q → ⊥) → Where key page → LeadsTo m key to → Fits order.first key page to m
        fits key page to m there (inl same) (inl got) leads =
            let is_k : m ≡ k = one_node changed q k m now (subst (λ p. slice_get changed p ≡ Some (Node m)) same there) in
            subst (λ p. Fits order.first key p to m) (sym same) (subst (λ (w : WholeNode). Fits order.first key q to w) (sym is_k) (index-fits key to (subst (λ p. Got pages root key p) same got, was) (subst (λ (w : WholeNode). LeadsTo w key to) is_k leads)))
        fits key page to m there (inr other) (inl got) leads = fits-of pages root order key page to m (got, sym (one page other) ∙ there) leads
        fits key page to m there either (inr here) leads =
            let at_it : slice_get pages l ≡ Some (Node m) = sym (one l apart) ∙ subst (λ p. slice_get changed p ≡ Some (Node m)) here.0 there in
            let is_l : m ≡ nl = one_node pages l nl m at_l at_it in
            subst (λ p. Fits order.first key p to m) (sym here.0) (subst (λ (w : WholeNode). Fits order.first key l to w) (sym is_l) (left-fits key to here.1 here.2 here.3 (subst (λ (w : WholeNode). LeadsTo w key to) is_l leads)))

        pub taken-order : IsOrderly changed root
        taken-order = in-order changed root order.first order.root_first
            (λ key page m is_at. node-low key page m is_at.1 (cases_eq page q) (taken-ways key is_at.0.0 page is_at.0.1))
            (λ key page to m is_at leads. fits key page to m is_at.1 (cases_eq page q) (taken-ways key is_at.0.0 page is_at.0.1) leads)
