-- The changes of a merge leave all maps: a child is taken out of an index, and its left neighbour takes in what it has.
use Rattle.std.proofs.Common.{◌≡◌, ◌≢◌, ◌⊎◌, inl, inr, ℕ, zero, suc, ◌==◌, true, false, List, [], ◌∷◌, ◌++◌, Some, slice_get, slice_set, refl, sym, ◌∙◌, ap, subst, arith}
use Rattle.std.proofs.Math.Numerals.{add-one}
use Rattle.std.proofs.lemmas.Bool.{cases_eq}
use Rattle.std.proofs.lemmas.Bool.Decides.{eqb_tells}
use Rattle.std.proofs.lemmas.List.{append_assoc}
use Rattle.std.specs.List.{AllByRecursion}
use Rattle.sled_base.specs.Order.{Bytes, bytes_cmp, IsBelow, IsAtMost}
use Rattle.sled_base.specs.OrderLaws.{at_most_trans, below_is_at_most, below_trans, not_below_itself}
use Rattle.sled_log.specs.Contents.{Content, Node}
use Rattle.sled_node.specs.Links.{without_child}
use Rattle.sled_node.specs.Node.{Item, Value, Child, WholeNode, IsInRange, IsWellFormed}
use Rattle.sled_node.specs.Pairs.{IsAscending}
use Rattle.sled_node.specs.Splitting.{CanReceive, merged}
use Rattle.sled_search.specs.Map.{at_key, leading}
use Rattle.sled_search.specs.Maps.{Maps, HasTree, Reaches, AreTrees, IsOff, ChangesOne}
use Rattle.sled_search.specs.Merging.{AreUnder, AreBeside}
use Rattle.sled_search.specs.Orderly.{IsAt, IsOrderly}
use Rattle.sled_search.specs.Search.{LeadsDown, HasAt, Goes, IsTreeOf}
use Rattle.sled_search.proofs.Leading.{leading-append, leading-none, lt-false}
use Rattle.sled_search.proofs.Off.{goes-up_to, off-reaches}
use Rattle.sled_search.proofs.OneOfMany.{set-one, set-now}
use Rattle.sled_search.proofs.Orders.{first-low, same-way}
use Rattle.sled_search.proofs.OrdersKept.{all-back}
use Rattle.sled_search.proofs.Paths.{met-once}
use Rattle.sled_search.proofs.Search.{goes-then, one_node}
use Rattle.sled_search.proofs.Separated.{never-below}
use Rattle.sled_search.proofs.TakenIn as taken-in
use Rattle.sled_search.proofs.TakenOut.{with_both, left_alone, led-here, tree-taken, taken-ways, at-r, taken-order}
use Rattle.sled_search.proofs.Together.{one-changed}
use Rattle.sled_search.proofs.Trees.{with_pairs}

-- ---- pairs that are next to each other

pub record Around (pairs : List (Bytes × Item)) (x y : Bytes × Item) : Type 0 where
  pub front : List (Bytes × Item)
  pub back : List (Bytes × Item)
  pub is : pairs ≡ front ++ x ∷ y ∷ back

around : (pairs : List (Bytes × Item)) (i : ℕ) (x y : Bytes × Item) → slice_get pairs i ≡ Some x → slice_get pairs (suc i) ≡ Some y → Around pairs x y
around [] i x y h h' = absurd (let e = h in cc)
around (p ∷ []) zero x y h h' = absurd (let e = h' in cc)
around (p ∷ p' ∷ pairs) zero x y h h' =
    let e : p ≡ x = cc in
    let f : p' ≡ y = cc in
    record { front = []; back = pairs; is = rw (e, f) refl }
around (p ∷ pairs) (suc i) x y h h' = let it = around pairs i x y h h' in record { front = p ∷ it.front; back = it.back; is = ap (λ (ps : List (Bytes × Item)). p ∷ ps) it.is }

-- what is before a pair, and what is behind it
ascends : (front : List (Bytes × Item)) (x : Bytes × Item) (back : List (Bytes × Item)) → IsAscending (front ++ x ∷ back) → AllByRecursion (λ pair. IsBelow pair.0 x.0) front × AllByRecursion (λ later. IsBelow x.0 later.0) back × IsAscending back
ascends [] x back up = (tt, up.0, up.1)
ascends (p ∷ front) x back up =
    let it = ascends front x back up.1 in
    (((all-back (λ later. IsBelow p.0 later.0) front (x ∷ back) up.0).0, it.0), it.1, it.2)

led-itself : (front : List (Bytes × Item)) (x : Bytes × Item) (back : List (Bytes × Item)) (key : Bytes) → IsAtMost x.0 key → AllByRecursion (λ later. IsBelow key later.0) back → leading (front ++ x ∷ back) key ≡ Some x.1
led-itself front x back key le above = leading-append front (x ∷ back) key ∙ rw (leading-none back key above, lt-false (bytes_cmp key x.0) le) refl

-- the first pair that leads to the page is the one
without-it : (front back : List (Bytes × Item)) (low at : Bytes) (l r : ℕ) → l ≢ r → AllByRecursion (λ pair. pair.1 ≢ Child r) front → without_child r (with_both front back low at l r) ≡ left_alone front back low at l r
without-it [] back low at l r apart none = by (eqb_tells l r) (eqb_tells r r)
  where
    by : ((l == r ≡ true) × (l ≡ r)) ⊎ ((l == r ≡ false) × (l ≢ r)) → ((r == r ≡ true) × (r ≡ r)) ⊎ ((r == r ≡ false) × (r ≢ r)) → without_child r (with_both [] back low at l r) ≡ left_alone [] back low at l r
    by (inl same) either = absurd (apart same.1)
    by (inr differ) (inl here) = rw (differ.0, here.0) refl
    by (inr differ) (inr wrong) = absurd (wrong.1 refl)
without-it ((key, Value value) ∷ front) back low at l r apart none = ap (λ (ps : List (Bytes × Item)). (key, Value value) ∷ ps) (without-it front back low at l r apart none.1)
without-it ((key, Child other) ∷ front) back low at l r apart none = by (eqb_tells other r) (without-it front back low at l r apart none.1)
  where
    by : ((other == r ≡ true) × (other ≡ r)) ⊎ ((other == r ≡ false) × (other ≢ r)) → without_child r (with_both front back low at l r) ≡ left_alone front back low at l r → without_child r (with_both ((key, Child other) ∷ front) back low at l r) ≡ left_alone ((key, Child other) ∷ front) back low at l r
    by (inl same) rest = absurd (none.0 (ap (λ page. Child page) same.1))
    by (inr differ) rest = rw differ.0 (ap (λ (ps : List (Bytes × Item)). (key, Child other) ∷ ps) rest)

-- ---- a child is taken out

module _ (pages : List Content) (maps : Maps) (root : ℕ) (trees : AreTrees pages maps) (has : HasTree maps root) (q : ℕ) (n : WholeNode) (l : ℕ) (nl : WholeNode) (r : ℕ) (nr : WholeNode) (well : IsWellFormed n) (under : AreUnder pages root q n l nl r nr) where
  tree : IsTreeOf pages root has.0
  tree = trees.each root has.0 has.1

  order : IsOrderly pages root
  order = trees.orderly root has

  abbrev low : Bytes
  low = under.low

  abbrev at : Bytes
  at = nr.lo

  pairs-around : Around n.pairs (low, Child l) (at, Child r)
  pairs-around = around n.pairs under.place (low, Child l) (at, Child r) under.leads_left (rw add-one at under.leads_right)

  abbrev front : List (Bytes × Item)
  front = pairs-around.front

  abbrev back : List (Bytes × Item)
  back = pairs-around.back

  is : n.pairs ≡ with_both front back low at l r
  is = pairs-around.is

  lows : AllByRecursion (λ pair. IsBelow pair.0 low) front × AllByRecursion (λ later. IsBelow low later.0) ((at, Child r) ∷ back) × IsAscending ((at, Child r) ∷ back)
  lows = ascends front (low, Child l) ((at, Child r) ∷ back) (subst (λ (ps : List (Bytes × Item)). IsAscending ps) is well.ascending)

  lt : IsBelow low at
  lt = lows.1.0

  ranges : AllByRecursion (λ pair. IsInRange n pair.0) (with_both front back low at l r)
  ranges = subst (λ (ps : List (Bytes × Item)). AllByRecursion (λ pair. IsInRange n pair.0) ps) is well.in_range

  low-in : IsInRange n low
  low-in = (all-back (λ pair. IsInRange n pair.0) front ((low, Child l) ∷ (at, Child r) ∷ back) ranges).0

  at-in : IsInRange n at
  at-in = (all-back (λ pair. IsInRange n pair.0) front ((low, Child l) ∷ (at, Child r) ∷ back) ranges).1.0

  some : at ≢ []
  some e = never-below low (subst (λ (x : Bytes). IsBelow low x) e lt)

  -- a search for each key of the range, up to the key of the right one's pair, is at the index
  at-index : (x : Bytes) → IsAtMost n.lo x → IsAtMost x at → IsAt pages root x q n
  at-index x low' up = ((under.up_to_key.0.0, same-way pages root order under.key x under.up_to_key.0.0 q under.up_to_key.0.1 (at_most_trans (order.first q) n.lo x (first-low pages root order n.lo under.from_low.0.0 q under.from_low.0.1) low') (at_most_trans x at under.key up under.behind)), under.up_to_key.1)

  low-at : IsAt pages root low q n
  low-at = at-index low low-in.0 (below_is_at_most low at lt)

  at-at : IsAt pages root at q n
  at-at = at-index at at-in.0 (not_below_itself at)

  leads-low : LeadsDown n low l
  leads-low = (under.index, low-in, ap (λ (ps : List (Bytes × Item)). leading ps low) is ∙ led-itself front (low, Child l) ((at, Child r) ∷ back) low (not_below_itself low) lows.1)

  led-at : (leading (with_both front back low at l r) at ≡ Some (Child r)) × (leading (left_alone front back low at l r) at ≡ Some (Child l))
  led-at = led-here front back low at l r lt at (leading-none back at lows.2.0) (not_below_itself at)

  leads-at : LeadsDown n at r
  leads-at = (under.index, at-in, ap (λ (ps : List (Bytes × Item)). leading ps at) is ∙ led-at.0)

  once : (x : Bytes) (i j page : ℕ) → Goes pages x i root page → Goes pages x j root page → i ≡ j
  once x i j page a b = let (t, found) = tree.comes x in met-once pages x (λ _ w. HasAt x (at_key has.0 x) w) t i j root page found a b

  apart : l ≢ q
  apart same =
      let nodes : nl ≡ n = one_node pages q n nl under.up_to_key.1 (subst (λ page. slice_get pages page ≡ Some (Node nl)) same under.at_left) in
      let hi : n.hi ≡ at = ap (λ (w : WholeNode). w.hi) (sym nodes) ∙ under.meet in
      not_below_itself at (subst (λ (x : Bytes). IsBelow at x) hi (at-in.1 (λ e. some (sym hi ∙ e))))

  right-apart : r ≢ q
  right-apart same =
      let (t, goes) = at-at.0 in
      let again = goes-then pages at t root q r goes (n, at-at.1, inl leads-at) in
      let e = once at (suc t) t q (subst (λ page. Goes pages at (suc t) root page) same again) goes in
      absurd (omega arith)

  abbrev k : WholeNode
  k = with_pairs n (left_alone front back low at l r)

  abbrev changed : List Content
  changed = slice_set pages q (Node k)

  one : ChangesOne pages q changed
  one = set-one pages q (Node k)

  now : slice_get changed q ≡ Some (Node k)
  now = set-now pages q n k under.up_to_key.1

  -- the first key of the right one is that of its pair
  begins-at : IsAtMost at (order.first r)
  begins-at = at-r pages changed q n front back low at l r lt is under.up_to_key.1 under.index now nl under.at_left apart under.meet some under.next one root order low-at leads-low at at-at leads-at (not_below_itself at)

  not-same : l ≢ r
  not-same same = at_most_trans at (order.first r) low begins-at (subst (λ page. IsAtMost (order.first page) low) same (order.rises low q l n low-at (inl leads-low)).1) lt

  -- no pair in front of the two leads to the right one
  not-led : (done rest : List (Bytes × Item)) → n.pairs ≡ done ++ (rest ++ (low, Child l) ∷ (at, Child r) ∷ back) → AllByRecursion (λ pair. pair.1 ≢ Child r) rest
  not-led done [] split = tt
  not-led done (pair ∷ rest) split = (here, not-led (done ++ pair ∷ []) rest (split ∙ sym (append_assoc done (pair ∷ []) (rest ++ (low, Child l) ∷ (at, Child r) ∷ back))))
    where
      here : pair.1 ≢ Child r
      here e =
          let later = ascends done pair (rest ++ (low, Child l) ∷ (at, Child r) ∷ back) (subst (λ (ps : List (Bytes × Item)). IsAscending ps) split well.ascending) in
          let before : IsBelow pair.0 low = (all-back (λ other. IsBelow pair.0 other.0) rest ((low, Child l) ∷ (at, Child r) ∷ back) later.1).0 in
          let in' : IsInRange n pair.0 = (all-back (λ other. IsInRange n other.0) done (pair ∷ (rest ++ (low, Child l) ∷ (at, Child r) ∷ back)) (subst (λ (ps : List (Bytes × Item)). AllByRecursion (λ other. IsInRange n other.0) ps) split well.in_range)).0 in
          let led : leading n.pairs pair.0 ≡ Some (Child r) = ap (λ (ps : List (Bytes × Item)). leading ps pair.0) split ∙ (led-itself done pair (rest ++ (low, Child l) ∷ (at, Child r) ∷ back) pair.0 (not_below_itself pair.0) later.1 ∙ ap (λ (item : Item). Some item) e) in
          let pair-at = at-index pair.0 in'.0 (below_is_at_most pair.0 at (below_trans pair.0 low at before lt)) in
          at_most_trans at (order.first r) pair.0 begins-at (order.rises pair.0 q r n pair-at (inl (under.index, in', led))).1 (below_trans pair.0 low at before lt)

  without-is : without_child r n.pairs ≡ left_alone front back low at l r
  without-is = ap (λ (ps : List (Bytes × Item)). without_child r ps) is ∙ without-it front back low at l r not-same (not-led [] front is)

  taken-trees : AreTrees (slice_set pages q (Node (with_pairs n (left_alone front back low at l r)))) maps
  taken-trees =
      one-changed pages changed maps maps q root has.0 trees has one (under.key, under.up_to_key.0.0, under.up_to_key.0.1) (λ b other. refl) has.1
      (tree-taken pages changed q n front back low at l r lt is under.up_to_key.1 under.index now nl under.at_left apart under.meet some under.next (λ pid other w there. one pid other ∙ there) root has.0 tree)
      (taken-order pages changed q n front back low at l r lt is under.up_to_key.1 under.index now nl under.at_left apart under.meet some under.next one root order low-at leads-low lows.0)
      (λ page x. by page x.0 (taken-ways pages changed q n front back low at l r lt is under.up_to_key.1 under.index now nl under.at_left apart under.meet some under.next one root x.0 x.1 page x.2))
    where
      by : (page : ℕ) (key : Bytes) → ((s : ℕ) × Goes pages key s root page) ⊎ ((page ≡ l) × ((s : ℕ) × Goes pages key s root q) × LeadsDown n key r × IsAtMost at key) → Reaches pages root page ⊎ IsOff pages maps page
      by page key (inl got) = inl (key, got.0, got.1)
      by page key (inr here) = inl (subst (λ p. Reaches pages root p) (sym here.0) (low, suc low-at.0.0, goes-then pages low low-at.0.0 root q l low-at.0.1 (n, low-at.1, inl leads-low)))

  -- the search for a key is at the left one now
  at-left-now : (x : Bytes) → IsAt pages root x q n → LeadsDown k x l → IsAt changed root x l nl
  at-left-now x ((t, goes), there) leads =
      let before = goes-up_to pages changed q one x t root q goes (λ i less met. let e = once x i t q met goes in absurd (omega arith)) in
      ((suc t, goes-then changed x t root q l before (k, now, inl leads)), one l apart ∙ under.at_left)

  taken-beside : AreBeside (slice_set pages q (Node (with_pairs n (left_alone front back low at l r)))) root l nl r nr
  taken-beside = record {
    key = low;
    below = lt;
    from_key = at-left-now low low-at (under.index, low-in, led-itself front (low, Child l) back low (not_below_itself low) lows.1.1);
    up_to_end = at-left-now at at-at (under.index, at-in, led-at.1);
    at_right = one r right-apart ∙ under.at_right;
    meet = under.meet;
    next = under.next;
  }

  pub taken-out-among : AreTrees (slice_set pages q (Node (with_pairs n (without_child r n.pairs)))) maps
  taken-out-among = subst (λ (ps : List (Bytes × Item)). AreTrees (slice_set pages q (Node (with_pairs n ps))) maps) (sym without-is) taken-trees

  pub taken-out-beside : AreBeside (slice_set pages q (Node (with_pairs n (without_child r n.pairs)))) root l nl r nr
  taken-out-beside = subst (λ (ps : List (Bytes × Item)). AreBeside (slice_set pages q (Node (with_pairs n ps))) root l nl r nr) (sym without-is) taken-beside

-- ---- the left one takes in the right one

module _ (pages : List Content) (maps : Maps) (root : ℕ) (trees : AreTrees pages maps) (has : HasTree maps root) (l : ℕ) (nl : WholeNode) (r : ℕ) (nr : WholeNode) (beside : AreBeside pages root l nl r nr) (fits : CanReceive nl nr) (left_well : IsWellFormed nl) (right_well : IsWellFormed nr) where
  one-l : ChangesOne pages l (slice_set pages l (Node (merged nl nr)))
  one-l = set-one pages l (Node (merged nl nr))

  now-l : slice_get (slice_set pages l (Node (merged nl nr))) l ≡ Some (Node (merged nl nr))
  now-l = set-now pages l nl (merged nl nr) beside.from_key.1

  at-l : Reaches pages root l
  at-l = (beside.key, beside.from_key.0.0, beside.from_key.0.1)

  ways : (key : Bytes) (t page : ℕ) → Goes (slice_set pages l (Node (merged nl nr))) key t root page → ((s : ℕ) × Goes pages key s root page) × (page ≢ r)
  ways = taken-in.merged-ways l r nl nr fits left_well right_well pages (slice_set pages l (Node (merged nl nr))) beside.from_key.1 beside.at_right now-l beside.next one-l root (trees.orderly root has) has.0 (trees.each root has.0 has.1) beside

  pub taken-in-among : AreTrees (slice_set pages l (Node (merged nl nr))) maps
  taken-in-among =
      let made = slice_set pages l (Node (merged nl nr)) in
      let order = trees.orderly root has in
      let tree = trees.each root has.0 has.1 in
      one-changed pages made maps maps l root has.0 trees has one-l at-l (λ b other. refl) has.1
      (taken-in.merged-tree l r nl nr fits left_well right_well pages made beside.from_key.1 beside.at_right now-l beside.next one-l root order has.0 tree beside (λ pid other w there. one-l pid other ∙ there))
      (taken-in.merged-order l r nl nr fits left_well right_well pages made beside.from_key.1 beside.at_right now-l beside.next one-l root order has.0 tree beside)
      (λ page x. inl (x.0, (ways x.0 x.1 page x.2).0.0, (ways x.0 x.1 page x.2).0.1))

  -- no search is at the right one any more
  pub taken-in-off : IsOff (slice_set pages l (Node (merged nl nr))) maps r
  taken-in-off b has_b x = by (cases_eq b root)
    where
      by : (b ≡ root) ⊎ (b ≡ root → ⊥) → ⊥
      by (inl same) = (ways x.0 x.1 r (subst (λ q. Goes (slice_set pages l (Node (merged nl nr))) x.0 x.1 q r) same x.2)).1 refl
      by (inr other) =
          let was = off-reaches pages (slice_set pages l (Node (merged nl nr))) l one-l b (λ y. trees.apart b root has_b has other l y at-l) r x in
          let got = taken-in.reached-right l r nl nr fits left_well right_well pages (slice_set pages l (Node (merged nl nr))) beside.from_key.1 beside.at_right now-l beside.next one-l root (trees.orderly root has) has.0 (trees.each root has.0 has.1) beside in
          trees.apart b root has_b has other r was (nr.lo, got.0, got.1)
