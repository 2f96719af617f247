-- A node that has taken in its right neighbour: searches that came to either come to it.
use Rattle.std.proofs.Common.{◌≡◌, ◌≢◌, ◌⊎◌, inl, inr, ℕ, zero, suc, ◌<◌, true, false, List, Option, None, Some, slice_get, refl, sym, ◌∙◌, subst, arith}
use Rattle.std.proofs.lemmas.Bool.{cases_eq}
use Rattle.std.specs.List.{AllByRecursion}
use Rattle.sled_base.specs.Order.{Bytes, IsBelow, IsAtMost}
use Rattle.sled_base.specs.OrderLaws.{at_most_trans, below_is_at_most, below_trans, not_below_itself}
use Rattle.sled_log.specs.Contents.{Content, Node}
use Rattle.sled_node.specs.Node.{Item, Child, WholeNode, IsInRange, IsWellFormed}
use Rattle.sled_node.specs.Splitting.{CanReceive, merged}
use Rattle.sled_search.specs.Map.{Map, at_key, leading}
use Rattle.sled_search.specs.Maps.{ChangesOne}
use Rattle.sled_search.specs.Merging.{AreBeside}
use Rattle.sled_search.specs.Orderly.{IsAt, IsOrderly}
use Rattle.sled_search.specs.Routes.{IsAstray}
use Rattle.sled_search.specs.Search.{HasNodeAt, LeadsDown, LeadsRight, LeadsTo, IsLeafOf, HasAt, Goes, Finds, Comes, ComesToLeafOf, IsTreeOf}
use Rattle.sled_search.proofs.Edits.{at-append}
use Rattle.sled_search.proofs.Kept.{OthersStay, HereToo, kept}
use Rattle.sled_search.proofs.Leading.{leading-append, leading-none, none-later}
use Rattle.sled_search.proofs.Off.{node-was}
use Rattle.sled_search.proofs.OneOfMany.{finds-goes}
use Rattle.sled_search.proofs.Orders.{Fits, fits-down, fits-right, fits-of, in-order, node-low, one-way}
use Rattle.sled_search.proofs.OrdersKept.{Got, all-append}
use Rattle.sled_search.proofs.Pairs.{all-weaker, at-lacks}
use Rattle.sled_search.proofs.Paths.{rest-of, found-not-astray, met-once}
use Rattle.sled_search.proofs.Search.{IsLeaf, found-both, found-here, found-so, goes-finds, goes-then, one_node}
use Rattle.sled_search.proofs.Splits.{side, below_at_most}
use Rattle.sled_search.proofs.Ways.{same-next}

module _ (l r : ℕ) (nl nr : WholeNode) (fits : CanReceive nl nr) (left_well : IsWellFormed nl) (right_well : IsWellFormed nr) where
  abbrev pub w : WholeNode
  w = merged nl nr

  left-below : AllByRecursion (λ pair. IsBelow pair.0 nr.lo) nl.pairs
  left-below = all-weaker (λ pair. IsInRange nl pair.0) (λ pair. IsBelow pair.0 nr.lo) (λ pair in'. subst (λ (x : Bytes). IsBelow pair.0 x) fits.meet (in'.1 fits.bounded)) nl.pairs left_well.in_range

  right-above : AllByRecursion (λ pair. IsAtMost nr.lo pair.0) nr.pairs
  right-above = all-weaker (λ pair. IsInRange nr pair.0) (λ pair. IsAtMost nr.lo pair.0) (λ pair in'. in'.0) nr.pairs right_well.in_range

  module _ (key : Bytes) where
    -- a key of the left one's range is below the right one's beginning
    is-below : IsInRange nl key → IsBelow key nr.lo
    is-below in' = subst (λ (x : Bytes). IsBelow key x) fits.meet (in'.1 fits.bounded)

    module _ (below : IsBelow key nr.lo) where
      later-all : AllByRecursion (λ pair. IsBelow key pair.0) nr.pairs
      later-all = all-weaker (λ pair. IsAtMost nr.lo pair.0) (λ pair. IsBelow key pair.0) (λ pair le. below_at_most key nr.lo pair.0 below le) nr.pairs right-above

      lead-left : leading w.pairs key ≡ leading nl.pairs key
      lead-left = leading-append nl.pairs nr.pairs key ∙ rw (leading-none nr.pairs key later-all) refl

      at-left : at_key w.pairs key ≡ at_key nl.pairs key
      at-left = at-append nl.pairs nr.pairs key ∙ rw (at-lacks nr.pairs key (all-weaker (λ pair. IsBelow key pair.0) (λ pair. pair.0 ≢ key) (λ pair lt e. not_below_itself key (subst (λ (x : Bytes). IsBelow key x) e lt)) nr.pairs later-all)) (none-later (at_key nl.pairs key))

      in-left : IsInRange w key → IsInRange nl key
      in-left in' = (in'.0, λ _. subst (λ (x : Bytes). IsBelow key x) (sym fits.meet) below)

    left-in : IsInRange nl key → IsInRange w key
    left-in in' = (in'.0, λ some. below_trans key nr.lo nr.hi (is-below in') (right_well.range some))

    lead-right : (item : Item) → leading nr.pairs key ≡ Some item → leading w.pairs key ≡ Some item
    lead-right item is = leading-append nl.pairs nr.pairs key ∙ rw is refl

    right-in : IsInRange nr key → IsInRange w key
    right-in in' = (at_most_trans nl.lo nr.lo key (subst (λ (x : Bytes). IsAtMost nl.lo x) fits.meet (below_is_at_most nl.lo nl.hi (left_well.range fits.bounded))) in'.0, in'.1)

    module _ (above : IsAtMost nr.lo key) where
      at-right : at_key w.pairs key ≡ at_key nr.pairs key
      at-right = at-append nl.pairs nr.pairs key ∙ rw (at-lacks nl.pairs key (all-weaker (λ pair. IsBelow pair.0 nr.lo) (λ pair. pair.0 ≢ key) (λ pair lt e. above (subst (λ (x : Bytes). IsBelow x nr.lo) e lt)) nl.pairs left-below)) refl

      in-right : IsInRange w key → IsInRange nr key
      in-right in' = (above, in'.1)

      out-left : ¬ IsInRange nl key
      out-left in' = above (is-below in')

    -- what is in neither range isn't in that of both
    out-both : ¬ IsInRange nl key → ¬ IsInRange nr key → ¬ IsInRange w key
    out-both out_l out_r in' = by (side key nr.lo)
      where
        by : IsBelow key nr.lo ⊎ IsAtMost nr.lo key → ⊥
        by (inl below) = out_l (in-left below in')
        by (inr above) = out_r (in-right above in')

  -- ---- what searches come to

  module _ (pages changed : List Content) (was_l : slice_get pages l ≡ Some (Node nl)) (was_r : slice_get pages r ≡ Some (Node nr)) (now : slice_get changed l ≡ Some (Node w)) (next : nl.next ≡ Some r) where
    is-left : (m : WholeNode) → slice_get pages l ≡ Some (Node m) → m ≡ nl
    is-left m there = one_node pages l nl m was_l there

    is-right : (m : WholeNode) → slice_get pages r ≡ Some (Node m) → m ≡ nr
    is-right m there = one_node pages r nr m was_r there

    module _ (others : OthersStay pages changed l) (key : Bytes) (Is Is' : ℕ → WholeNode → Type 0) (elsewhere : (pid : ℕ) (k : WholeNode) → pid ≢ l → Is pid k → Is' pid k) (so-left : IsLeafOf key nl → Is l nl → Is' l w) (so-right : IsLeafOf key nr → Is r nr → Is' l w) where
      abbrev Fewer : ℕ → Type 0
      Fewer turns = (t : ℕ) → t < turns → (pid : ℕ) → Finds pages key Is t pid → Comes changed key Is' pid

      with-turn : (to : ℕ) → LeadsTo w key to → Comes changed key Is' to → Comes changed key Is' l
      with-turn to leads (more, found) = (suc more, (to, (w, now, leads), found))

      -- what the right one leads to, and the left one doesn't have
      from-right : ¬ IsInRange nl key → (turns : ℕ) → Fewer turns → Finds pages key Is turns r → Comes changed key Is' l
      from-right out zero less (m, there, x) =
          let of = subst (λ (k : WholeNode). IsLeafOf key k) (is-right m there) x.0 in
          (zero, (w, now, ((fits.kind ∙ of.0, right-in key of.1), so-right of (subst (λ (k : WholeNode). Is r k) (is-right m there) x.1))))
      from-right out (suc turns) less (to, (m, there, x), rest) = with-turn to (by to (subst (λ (k : WholeNode). LeadsTo k key to) (is-right m there) x)) (less turns (omega arith) to rest)
        where
          by : (to : ℕ) → LeadsTo nr key to → LeadsTo w key to
          by to (inl down) = inl (fits.kind ∙ down.0, right-in key down.1, lead-right key (Child to) down.2)
          by to (inr beside) = inr (out-both key out beside.0, beside.1)

      merged-here : HereToo pages changed l others key Is Is'
      merged-here zero less (m, there, x) =
          let of = subst (λ (k : WholeNode). IsLeafOf key k) (is-left m there) x.0 in
          (zero, (w, now, ((of.0, left-in key of.1), so-left of (subst (λ (k : WholeNode). Is l k) (is-left m there) x.1))))
      merged-here (suc turns) less (to, (m, there, x), rest) = by (subst (λ (k : WholeNode). LeadsTo k key to) (is-left m there) x)
        where
          by : LeadsTo nl key to → Comes changed key Is' l
          by (inl down) = with-turn to (inl (down.0, left-in key down.1, lead-left key (is-below key down.1) ∙ down.2)) (less turns (omega arith) to rest)
          by (inr beside) = from-right beside.0 turns (λ t lt pid found. less t (omega arith) pid found) (subst (λ page. Finds pages key Is turns page) (same-next to r (sym beside.1 ∙ next)) rest)

      pub merged-kept : (from : ℕ) → Comes pages key Is from → Comes changed key Is' from
      merged-kept from found = kept pages changed l others key Is Is' elsewhere merged-here from found

    -- ---- where searches get, and in which order

    module _ (one : ChangesOne pages l changed) (root : ℕ) (order : IsOrderly pages root) (m : Map) (tree : IsTreeOf pages root m) (beside : AreBeside pages root l nl r nr) where
      out-end : ¬ IsInRange nl nr.lo
      out-end in' = not_below_itself nr.lo (is-below nr.lo in')

      leads-on : HasNodeAt pages l (λ k. LeadsTo k nr.lo r)
      leads-on = (nl, was_l, inr (out-end, next))

      abbrev s : ℕ
      s = beside.up_to_end.0.0

      at-right-page : Goes pages nr.lo (suc s) root r
      at-right-page = goes-then pages nr.lo s root l r beside.up_to_end.0.1 leads-on

      pub reached-right : Got pages root nr.lo r
      reached-right = (suc s, at-right-page)

      once : (key : Bytes) (i j page : ℕ) → Goes pages key i root page → Goes pages key j root page → i ≡ j
      once key i j page x y = let (t, found) = tree.comes key in met-once pages key (λ _ k. HasAt key (at_key m key) k) t i j root page found x y

      not-left : r ≢ l
      not-left same = let e = once nr.lo (suc s) s l (subst (λ page. Goes pages nr.lo (suc s) root page) same at-right-page) beside.up_to_end.0.1 in absurd (omega arith)

      not-root : root ≢ r
      not-root same = let e = once nr.lo zero (suc s) r same at-right-page in absurd (omega arith)

      -- a search at the right one doesn't come there again
      never-again : (key : Bytes) (to : ℕ) → Got pages root key r → LeadsTo nr key to → to ≢ r
      never-again key to (t, goes) leads same = let e = once key (suc t) t r (goes-then pages key t root r r goes (nr, was_r, subst (λ page. LeadsTo nr key page) same leads)) goes in absurd (omega arith)

      got-then : (key : Bytes) (from to : ℕ) → Got pages root key from → HasNodeAt pages from (λ k. LeadsTo k key to) → Got pages root key to
      got-then key from to (t, goes) first = (suc t, goes-then pages key t root from to goes first)

      not-astray : (key : Bytes) → Got pages root key r → IsAstray key nr → ⊥
      not-astray key (t, goes) stray =
          let (j, found) = tree.comes key in
          let (k, sum, rest) = rest-of pages key (λ _ n. HasAt key (at_key m key) n) t j root r goes found in
          found-not-astray pages key (λ _ n. HasAt key (at_key m key) n) k r rest (nr, was_r, stray)

      -- what is so of a turn from the merged node
      record Turns (key : Bytes) (to : ℕ) : Type 0 where
        pub got : Got pages root key to
        pub other : to ≢ r
        pub ordered : Fits order.first key l to w

      module _ (key : Bytes) (to : ℕ) (got : Got pages root key l) where
        at_l : IsAt pages root key l nl
        at_l = (got, was_l)

        by-left : IsBelow key nr.lo → LeadsTo w key to → Turns key to
        by-left below (inr right) = absurd (right.0 (left-in key (node-low pages root order key l nl at_l, λ _. subst (λ (x : Bytes). IsBelow key x) (sym fits.meet) below)))
        by-left below (inl down) =
            let was : LeadsDown nl key to = (down.0, in-left key below down.1, sym (lead-left key below) ∙ down.2) in
            let there = got-then key l to got (nl, was_l, inl was) in
            let it = fits-of pages root order key l to nl at_l (inl was) in
            record {
              got = there;
              other = λ same. node-low pages root order key r nr (subst (λ page. Got pages root key page) same there, was_r) below;
              ordered = fits-down order.first key l to w down it.from_first it.up_to (all-append (λ pair. IsAtMost pair.0 (order.first to) ⊎ IsBelow key pair.0) nl.pairs nr.pairs (it.down was) (all-weaker (λ pair. IsBelow key pair.0) (λ pair. IsAtMost pair.0 (order.first to) ⊎ IsBelow key pair.0) (λ pair lt. inr lt) nr.pairs (later-all key below)));
            }

        module _ (above : IsAtMost nr.lo key) where
          to-right : LeadsTo nl key r
          to-right = inr (out-left key above, next)

          got-right : Got pages root key r
          got-right = got-then key l r got (nl, was_l, to-right)

          first-right : IsAtMost (order.first l) (order.first r)
          first-right = (order.rises key l r nl at_l to-right).0

          begins : IsAtMost nr.lo (order.first r)
          begins = order.low key r nr (got-right, was_r)

          down-right : LeadsDown w key to → (o : Option Item) → leading nr.pairs key ≡ o → Turns key to
          down-right down None is = absurd (not-astray key got-right ((λ leaf. clash (sym fits.kind ∙ down.0) leaf.0), λ page leads. none page leads))
            where
              clash : nr.is_index ≡ true → nr.is_index ≡ false → ⊥
              clash x y = absurd (let e = x in let f = y in cc)

              not-some : (item : Item) → ◌≡◌ {A = Option Item} None (Some item) → ⊥
              not-some item h = absurd (let e = h in cc)

              none : (page : ℕ) → LeadsTo nr key page → ⊥
              none page (inl below) = not-some (Child page) (sym is ∙ below.2)
              none page (inr right) = right.0 (in-right key above down.1)
          down-right down (Some item) is =
              let same : ◌≡◌ {A = Option Item} (Some item) (Some (Child to)) = sym (lead-right key item is) ∙ down.2 in
              let was : LeadsDown nr key to = (sym fits.kind ∙ down.0, in-right key above down.1, is ∙ same) in
              let it = fits-of pages root order key r to nr (got-right, was_r) (inl was) in
              record {
                got = got-then key r to got-right (nr, was_r, inl was);
                other = never-again key to got-right (inl was);
                ordered = fits-down order.first key l to w down (at_most_trans (order.first l) (order.first r) (order.first to) first-right it.from_first) it.up_to
                    (all-append (λ pair. IsAtMost pair.0 (order.first to) ⊎ IsBelow key pair.0) nl.pairs nr.pairs
                    (all-weaker (λ pair. IsBelow pair.0 nr.lo) (λ pair. IsAtMost pair.0 (order.first to) ⊎ IsBelow key pair.0) (λ pair lt. inl (at_most_trans pair.0 nr.lo (order.first to) (below_is_at_most pair.0 nr.lo lt) (at_most_trans nr.lo (order.first r) (order.first to) begins it.from_first))) nl.pairs left-below)
                    (it.down was));
              }

          by-right : LeadsTo w key to → Turns key to
          by-right (inl down) = down-right down (leading nr.pairs key) refl
          by-right (inr right) =
              let was : LeadsRight nr key to = ((λ in'. right.0 (right-in key in')), right.1) in
              let it = fits-of pages root order key r to nr (got-right, was_r) (inr was) in
              record {
                got = got-then key r to got-right (nr, was_r, inr was);
                other = never-again key to got-right (inr was);
                ordered = fits-right order.first key l to w right (at_most_trans (order.first l) (order.first r) (order.first to) first-right it.from_first) it.up_to (it.right was);
              }

        turns-from : LeadsTo w key to → Turns key to
        turns-from leads = by (side key nr.lo)
          where
            by : IsBelow key nr.lo ⊎ IsAtMost nr.lo key → Turns key to
            by (inl below) = by-left below leads
            by (inr above) = by-right above leads

      abbrev pub Where : Bytes → ℕ → Type 0
      Where key page = Got pages root key page × (page ≢ r)

      merged-node : (page : ℕ) (k : WholeNode) → page ≡ l → slice_get changed page ≡ Some (Node k) → k ≡ w
      merged-node page k same there = one_node changed l w k now (subst (λ q. slice_get changed q ≡ Some (Node k)) same there)

      merged-step : (key : Bytes) (from to : ℕ) → (from ≡ l) ⊎ (from ≡ l → ⊥) → Where key from → HasNodeAt changed from (λ k. LeadsTo k key to) → Where key to
      merged-step key from to (inl same) got (k, there, leads) =
          let it = turns-from key to (subst (λ page. Got pages root key page) same got.0) (subst (λ (x : WholeNode). LeadsTo x key to) (merged-node from k same there) leads) in
          (it.got, it.other)
      merged-step key from to (inr other) got first =
          let was = node-was pages changed l one from other (λ k. LeadsTo k key to) first in
          (got-then key from to got.0 was, λ same. other (one-way pages root order m tree r nr was_r s l beside.up_to_end.0.1 leads-on key got.0.0 from got.0.1 (subst (λ page. HasNodeAt pages from (λ k. LeadsTo k key page)) same was)))

      merged-goes : (key : Bytes) (t from to : ℕ) → Where key from → Goes changed key t from to → Where key to
      merged-goes key zero from to got same = subst (λ page. Where key page) same got
      merged-goes key (suc t) from to got (next', first, rest) = merged-goes key t next' to (merged-step key from next' (cases_eq from l) got first) rest

      pub merged-ways : (key : Bytes) (t page : ℕ) → Goes changed key t root page → Where key page
      merged-ways key t page goes = merged-goes key t root page ((zero, refl), not-root) goes

      low : (key : Bytes) (page : ℕ) (k : WholeNode) → slice_get changed page ≡ Some (Node k) → (page ≡ l) ⊎ (page ≡ l → ⊥) → Got pages root key page → IsAtMost k.lo (order.first page)
      low key page k there (inl same) got = subst (λ q. IsAtMost k.lo (order.first q)) (sym same) (subst (λ (x : WholeNode). IsAtMost x.lo (order.first l)) (sym (merged-node page k same there)) (order.low key l nl (subst (λ q. Got pages root key q) same got, was_l)))
      low key page k there (inr other) got = order.low key page k (got, sym (one page other) ∙ there)

      ordered : (key : Bytes) (page to : ℕ) (k : WholeNode) → slice_get changed page ≡ Some (Node k) → (page ≡ l) ⊎ (page ≡ l → ⊥) → Got pages root key page → LeadsTo k key to → Fits order.first key page to k
      ordered key page to k there (inl same) got leads =
          let is = merged-node page k same there in
          subst (λ q. Fits order.first key q to k) (sym same) (subst (λ (x : WholeNode). Fits order.first key l to x) (sym is) ((turns-from key to (subst (λ q. Got pages root key q) same got) (subst (λ (x : WholeNode). LeadsTo x key to) is leads)).ordered))
      ordered key page to k there (inr other) got leads = fits-of pages root order key page to k (got, sym (one page other) ∙ there) leads

      pub merged-order : IsOrderly changed root
      merged-order = in-order changed root order.first order.root_first
          (λ key page k at. low key page k at.1 (cases_eq page l) (merged-ways key at.0.0 page at.0.1).0)
          (λ key page to k at leads. ordered key page to k at.1 (cases_eq page l) (merged-ways key at.0.0 page at.0.1).0 leads)

      -- ---- leaves still cover their ranges

      module _ (others : OthersStay pages changed l) where
        -- a search comes to no leaf on the page of the right one
        not-there : (key : Bytes) (Is : ℕ → WholeNode → Type 0) (i : ℕ) (found : Finds changed key Is i root) → (found-here changed key Is i root found).pid ≢ r
        not-there key Is i found = let it = found-here changed key Is i root found in (merged-ways key i it.pid (finds-goes changed key it.pid (λ k. k ≡ it.node) i root it.found)).1

        -- all keys of the left one's range come to the left one
        to-left : (key other : Bytes) → IsLeafOf key w → IsInRange w other → IsBelow other nr.lo → ComesToLeafOf changed other key l root
        to-left key other leaf range below =
            let has : IsLeafOf beside.key nl = (leaf.0, (node-low pages root order beside.key l nl beside.from_key, λ _. subst (λ (x : Bytes). IsBelow beside.key x) (sym fits.meet) beside.below)) in
            let comes : ComesToLeafOf pages beside.key other l root = goes-finds pages beside.key (λ pid k. (pid ≡ l) × IsInRange k other) beside.from_key.0.0 root l beside.from_key.0.1 (nl, was_l, (has, (refl, in-left other below range))) in
            merged-kept others other (λ q k. (q ≡ l) × IsInRange k beside.key) (λ q k. (q ≡ l) × IsInRange k key) (λ pid k ne h. absurd (ne h.0)) (λ _ _. (refl, leaf.1)) (λ _ h. absurd (not-left h.0)) root (tree.covers beside.key other l comes)

        -- and all keys of the right one's came to the right one
        from-right-range : (key other : Bytes) → IsLeafOf key w → IsInRange w other → IsAtMost nr.lo other → ComesToLeafOf changed other key l root
        from-right-range key other leaf range above =
            let has : IsLeafOf nr.lo nr = (sym fits.kind ∙ leaf.0, (not_below_itself nr.lo, λ some. right_well.range some)) in
            let comes : ComesToLeafOf pages nr.lo other r root = goes-finds pages nr.lo (λ pid k. (pid ≡ r) × IsInRange k other) (suc s) root r at-right-page (nr, was_r, (has, (refl, in-right other above range))) in
            let (t, found) = merged-kept others other (λ q k. (q ≡ r) × IsInRange k nr.lo) (λ q k. ((q ≡ l) × IsInRange k key) ⊎ (q ≡ r)) (λ pid k ne h. inr h.0) (λ _ h. absurd (not-left (sym h.0))) (λ _ _. inl (refl, leaf.1)) root (tree.covers nr.lo other r comes) in
            let it = found-here changed other (λ q k. ((q ≡ l) × IsInRange k key) ⊎ (q ≡ r)) t root found in
            by t it (not-there other (λ q k. ((q ≡ l) × IsInRange k key) ⊎ (q ≡ r)) t found)
          where
            by : (t : ℕ) (it : IsLeaf changed other (λ q k. ((q ≡ l) × IsInRange k key) ⊎ (q ≡ r)) t root) → it.pid ≢ r → ComesToLeafOf changed other key l root
            by t it away = either it.is
              where
                either : ((it.pid ≡ l) × IsInRange it.node key) ⊎ (it.pid ≡ r) → ComesToLeafOf changed other key l root
                either (inl h) = (t, found-so changed other (λ q k. (q ≡ it.pid) × (k ≡ it.node)) (λ q k. (q ≡ l) × IsInRange k key) (λ q k at of is. (is.0 ∙ h.0, subst (λ (x : WholeNode). IsInRange x key) (sym is.1) h.1)) t root it.found)
                either (inr h) = absurd (away h)

        to-merged : (key other : Bytes) → IsLeafOf key w → IsInRange w other → ComesToLeafOf changed other key l root
        to-merged key other leaf range = by (side other nr.lo)
          where
            by : IsBelow other nr.lo ⊎ IsAtMost nr.lo other → ComesToLeafOf changed other key l root
            by (inl below) = to-left key other leaf range below
            by (inr above) = from-right-range key other leaf range above

        -- where the leaf of a key went
        abbrev Went : ℕ → WholeNode → ℕ → WholeNode → Type 0
        Went pid0 n0 pid k = ((pid0 ≢ l) × (pid ≡ pid0) × (k ≡ n0)) ⊎ ((pid ≡ l) × (k ≡ w))

        module _ (key other : Bytes) (leaf pid0 : ℕ) (n0 : WholeNode) (found : Comes pages key (λ q k. (q ≡ pid0) × (k ≡ n0)) root) where
          went : Comes changed key (Went pid0 n0) root
          went = merged-kept others key (λ q k. (q ≡ pid0) × (k ≡ n0)) (Went pid0 n0) (λ pid k ne is. inl ((λ e. ne (is.0 ∙ e)), is.0, is.1)) (λ _ _. inr (refl, refl)) (λ _ _. inr (refl, refl)) root found

          after : (pid : ℕ) (k : WholeNode) → IsLeafOf key k → pid ≢ r → pid ≡ leaf → IsInRange k other → Went pid0 n0 pid k → ComesToLeafOf changed other key leaf root
          after pid k of away is range (inr (here, same)) = subst (λ page. ComesToLeafOf changed other key page root) (sym here ∙ is) (to-merged key other (subst (λ (x : WholeNode). IsLeafOf key x) same of) (subst (λ (x : WholeNode). IsInRange x other) same range))
          after pid k of away is range (inl (ne, here, same)) =
              let (i, x) = found in
              let leaf_is : pid0 ≡ leaf = sym here ∙ is in
              let comes : ComesToLeafOf pages key other leaf root = (i, found-so pages key (λ q v. (q ≡ pid0) × (v ≡ n0)) (λ q v. (q ≡ leaf) × IsInRange v other) (λ q v at of' it. (it.0 ∙ leaf_is, subst (λ (x : WholeNode). IsInRange x other) (same ∙ sym it.1) range)) i root x) in
              merged-kept others other (λ q v. (q ≡ leaf) × IsInRange v key) (λ q v. (q ≡ leaf) × IsInRange v key) (λ q v _ h. h) (λ _ h. absurd (ne (leaf_is ∙ sym h.0))) (λ _ h. absurd (away (is ∙ sym h.0))) root (tree.covers key other leaf comes)

          covers-one : ComesToLeafOf changed key other leaf root → ComesToLeafOf changed other key leaf root
          covers-one (j, y) =
              let (t, z) = went in
              let both = found-both changed key (Went pid0 n0) (λ q k. (q ≡ leaf) × IsInRange k other) t j root z y in
              let it = found-here changed key (λ pid k. Went pid0 n0 pid k × ((pid ≡ leaf) × IsInRange k other)) t root both in
              after it.pid it.node it.leaf (not-there key (λ pid k. Went pid0 n0 pid k × ((pid ≡ leaf) × IsInRange k other)) t both) it.is.1.0 it.is.1.1 it.is.0

        covers-merged : (key other : Bytes) (leaf : ℕ) → ComesToLeafOf changed key other leaf root → ComesToLeafOf changed other key leaf root
        covers-merged key other leaf comes =
            let (i, x) = tree.comes key in
            let it = found-here pages key (λ _ k. HasAt key (at_key m key) k) i root x in
            covers-one key other leaf it.pid it.node (i, it.found) comes

        pub merged-tree : IsTreeOf changed root m
        merged-tree = record {
          ascending = tree.ascending;
          comes = λ key. merged-kept others key (λ _ k. HasAt key (at_key m key) k) (λ _ k. HasAt key (at_key m key) k) (λ pid k ne is. is) (λ of is. at-left key (is-below key of.1) ∙ is) (λ of is. at-right key of.1.0 ∙ is) root (tree.comes key);
          covers = covers-merged;
        }
