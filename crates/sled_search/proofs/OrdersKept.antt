-- What a change of one page makes of the order of a tree's pages: it stays, with a first key for each new page.
use Rattle.std.proofs.Common.{◌≡◌, ◌≢◌, ◌⊎◌, inl, inr, ℕ, zero, suc, Bool, true, false, List, [], ◌∷◌, ◌++◌, Option, None, Some, slice_get, refl, sym, ◌∙◌, ap, subst, cond}
use Rattle.std.proofs.lemmas.Bool.{cases_eq}
use Rattle.std.specs.List.{AllByRecursion}
use Rattle.sled_base.specs.Order.{Bytes, bytes_cmp, is_below, IsBelow, IsAtMost}
use Rattle.sled_base.specs.OrderLaws.{at_most_trans, below_is_at_most}
use Rattle.sled_log.specs.Contents.{Content, Node}
use Rattle.sled_node.specs.Children.{with_child}
use Rattle.sled_node.specs.Node.{Item, Child, WholeNode, IsInRange}
use Rattle.sled_node.specs.Pairs.{IsAscending, pairs_below, pairs_above}
use Rattle.sled_search.specs.Map.{leading, or_else}
use Rattle.sled_search.specs.Maps.{ChangesOne}
use Rattle.sled_search.specs.Orderly.{IsAt, HasNoneWithin, IsOrderly}
use Rattle.sled_search.specs.Search.{LeadsDown, LeadsRight, LeadsTo, Goes}
use Rattle.sled_search.proofs.Hints.{less-is, set-below, set-above, above-none, above-some}
use Rattle.sled_search.proofs.Leading.{lt-true, lt-false, none-later}
use Rattle.sled_search.proofs.Orders.{Fits, fits-down, fits-right, fits-of, in-order}
use Rattle.sled_search.proofs.Pairs.{all-weaker}
use Rattle.sled_search.proofs.Search.{goes-then, one_node}
use Rattle.sled_search.proofs.Splits.{side}
use Rattle.sled_search.proofs.Trees.{with_pairs}
use Rattle.sled_search.proofs.Ways.{leaf-goes, child-goes, same-child}

-- a search for the key is at the page
abbrev pub Got : List Content → ℕ → Bytes → ℕ → Type 0
Got pages root key page = (s : ℕ) × Goes pages key s root page

-- Where one page is changed, and searches are at no new pages, the order stays if what is on that page leads in order.
module _ (pages changed : List Content) (root p : ℕ) (order : IsOrderly pages root) (one : ChangesOne pages p changed) (n k : WholeNode) (was : slice_get pages p ≡ Some (Node n)) (now : slice_get changed p ≡ Some (Node k)) (ways : (key : Bytes) (t page : ℕ) → Goes changed key t root page → Got pages root key page) (same-low : k.lo ≡ n.lo) (here : (key : Bytes) (to : ℕ) → IsAt pages root key p n → LeadsTo k key to → Fits order.first key p to k) where
  -- where the search is
  abbrev At : Bytes → ℕ → WholeNode → Type 0
  At key page m = IsAt pages root key page m ⊎ ((page ≡ p) × (m ≡ k) × IsAt pages root key p n)

  at-was : (key : Bytes) (page : ℕ) (m : WholeNode) → IsAt changed root key page m → At key page m
  at-was key page m ((t, goes), there) = by (cases_eq page p)
    where
      by : (page ≡ p) ⊎ (page ≡ p → ⊥) → At key page m
      by (inl same) = inr (same, one_node changed p k m now (subst (λ q. slice_get changed q ≡ Some (Node m)) same there), (subst (λ q. Got pages root key q) same (ways key t page goes), was))
      by (inr other) = inl (ways key t page goes, sym (one page other) ∙ there)

  low : (key : Bytes) (page : ℕ) (m : WholeNode) → At key page m → IsAtMost m.lo (order.first page)
  low key page m (inl at) = order.low key page m at
  low key page m (inr (same, is, at)) = subst (λ q. IsAtMost m.lo (order.first q)) (sym same) (subst (λ (x : Bytes). IsAtMost x (order.first p)) (sym (ap (λ (w : WholeNode). w.lo) is ∙ same-low)) (order.low key p n at))

  fits : (key : Bytes) (page to : ℕ) (m : WholeNode) → At key page m → LeadsTo m key to → Fits order.first key page to m
  fits key page to m (inl at) leads = fits-of pages root order key page to m at leads
  fits key page to m (inr (same, is, at)) leads = subst (λ q. Fits order.first key q to m) (sym same) (subst (λ (w : WholeNode). Fits order.first key p to w) (sym is) (here key to at (subst (λ (w : WholeNode). LeadsTo w key to) is leads)))

  pub order-one : IsOrderly changed root
  order-one = in-order changed root order.first order.root_first (λ key page m at. low key page m (at-was key page m at)) (λ key page to m at leads. fits key page to m (at-was key page m at) leads)

-- ---- a leaf with other pairs

module _ (pages changed : List Content) (root p : ℕ) (order : IsOrderly pages root) (one : ChangesOne pages p changed) (n : WholeNode) (pairs : List (Bytes × Item)) (was : slice_get pages p ≡ Some (Node n)) (leaf : n.is_index ≡ false) (now : slice_get changed p ≡ Some (Node (with_pairs n pairs))) where
  pub leaf-order : IsOrderly changed root
  leaf-order = order-one pages changed root p order one n (with_pairs n pairs) was now (λ key t page goes. (t, leaf-goes pages changed p one n pairs was leaf now key t root page goes)) refl here
    where
      here : (key : Bytes) (to : ℕ) → IsAt pages root key p n → LeadsTo (with_pairs n pairs) key to → Fits order.first key p to (with_pairs n pairs)
      here key to at (inl down) = absurd (let e = down.0 in let f = leaf in cc)
      here key to at (inr right) =
          let it = fits-of pages root order key p to n at (inr right) in
          fits-right order.first key p to (with_pairs n pairs) right it.from_first it.up_to (it.right right)

-- ---- an index with one more child

module _ {X : Type 0} (P : X → Type 0) where
  pub all-append : (xs ys : List X) → AllByRecursion P xs → AllByRecursion P ys → AllByRecursion P (xs ++ ys)
  all-append [] ys all all' = all'
  all-append (x ∷ xs) ys all all' = (all.0, all-append xs ys all.1 all')

  pub all-front : (xs ys : List X) → AllByRecursion P (xs ++ ys) → AllByRecursion P xs
  all-front [] ys all = tt
  all-front (x ∷ xs) ys all = (all.0, all-front xs ys all.1)

  pub all-back : (xs ys : List X) → AllByRecursion P (xs ++ ys) → AllByRecursion P ys
  all-back [] ys all = all
  all-back (x ∷ xs) ys all = all-back xs ys all.1

-- where none leads a key, all are above it
pub none-led : {V : Type 0} (pairs : List (Bytes × V)) (key : Bytes) → leading pairs key ≡ None → AllByRecursion (λ pair. IsBelow key pair.0) pairs
none-led [] key none = tt
none-led (pair ∷ pairs) key none = by (none-led pairs key) (side key pair.0) (leading pairs key) refl
  where
    not-some : {V : Type 0} (v : V) → Some v ≡ None → ⊥
    not-some v h = absurd (let e = h in cc)

    by : (leading pairs key ≡ None → AllByRecursion (λ later. IsBelow key later.0) pairs) → IsBelow key pair.0 ⊎ IsAtMost pair.0 key → (o : Option _) → leading pairs key ≡ o → AllByRecursion (λ later. IsBelow key later.0) (pair ∷ pairs)
    by rest s (Some v) is = absurd (not-some v (rw is at none))
    by rest (inl lt) None is = (lt, rest is)
    by rest (inr le) None is = absurd (not-some pair.1 (rw (is, lt-false (bytes_cmp key pair.0) le) at none))

module _ (at : Bytes) where
  -- pairs below a string and above it have keys there
  below-are : (P : Bytes × Item → Type 0) (pairs : List (Bytes × Item)) → ((pair : Bytes × Item) → IsBelow pair.0 at → P pair) → AllByRecursion P (pairs_below at pairs)
  below-are P [] so = tt
  below-are P (pair ∷ pairs) so = by (below-are P pairs so) (is_below pair.0 at) refl
    where
      by : AllByRecursion P (pairs_below at pairs) → (b : Bool) → is_below pair.0 at ≡ b → AllByRecursion P (cond b (pair ∷ pairs_below at pairs) (pairs_below at pairs))
      by rest true is = (so pair (less-is (bytes_cmp pair.0 at) is), rest)
      by rest false is = rest

  below-all : (P : Bytes × Item → Type 0) (pairs : List (Bytes × Item)) → AllByRecursion P pairs → AllByRecursion P (pairs_below at pairs)
  below-all P [] all = tt
  below-all P (pair ∷ pairs) all = by (below-all P pairs all.1) (is_below pair.0 at)
    where
      by : AllByRecursion P (pairs_below at pairs) → (b : Bool) → AllByRecursion P (cond b (pair ∷ pairs_below at pairs) (pairs_below at pairs))
      by rest true = (all.0, rest)
      by rest false = rest

  above-all : (P : Bytes × Item → Type 0) (pairs : List (Bytes × Item)) → AllByRecursion P pairs → AllByRecursion P (pairs_above at pairs)
  above-all P [] all = tt
  above-all P (pair ∷ pairs) all = by (above-all P pairs all.1) (is_below at pair.0)
    where
      by : AllByRecursion P (pairs_above at pairs) → (b : Bool) → AllByRecursion P (cond b (pair ∷ pairs_above at pairs) (pairs_above at pairs))
      by rest true = (all.0, rest)
      by rest false = rest

  -- where a pair above the string leads a key, and none is within, the first key is above the string
  above-first : (pairs : List (Bytes × Item)) (first key : Bytes) (item : Item) → HasNoneWithin pairs first key → leading (pairs_above at pairs) key ≡ Some item → IsAtMost at first
  above-first [] first key item none led = absurd (let e = led in cc)
  above-first (pair ∷ pairs) first key item none led = by (above-first pairs first key item none.1) (is_below at pair.0) refl led
    where
      at-pair : IsBelow at pair.0 → IsAtMost pair.0 first ⊎ IsBelow key pair.0 → (leading (pairs_above at pairs) key ≡ Some item → IsAtMost at first) → or_else (leading (pairs_above at pairs) key) (cond (is_below key pair.0) None (Some pair.1)) ≡ Some item → IsAtMost at first
      at-pair lt (inl low) rest led = at_most_trans at pair.0 first (below_is_at_most at pair.0 lt) low
      at-pair lt (inr later) rest led = rest (sym (none-later (leading (pairs_above at pairs) key)) ∙ rw (lt-true (bytes_cmp key pair.0) later) at led)

      by : (leading (pairs_above at pairs) key ≡ Some item → IsAtMost at first) → (b : Bool) → is_below at pair.0 ≡ b → leading (cond b (pair ∷ pairs_above at pairs) (pairs_above at pairs)) key ≡ Some item → IsAtMost at first
      by rest true is led = at-pair (less-is (bytes_cmp at pair.0) is) none.0 rest led
      by rest false is led = rest led

module _ (pages changed : List Content) (root q : ℕ) (order : IsOrderly pages root) (one : ChangesOne pages q changed) (n : WholeNode) (at : Bytes) (sib : ℕ) (was : slice_get pages q ≡ Some (Node n)) (index : n.is_index ≡ true) (up : IsAscending n.pairs) (now : slice_get changed q ≡ Some (Node (with_child at sib n))) (c : ℕ) (leads : leading n.pairs at ≡ Some (Child c)) (nc : WholeNode) (at_c : slice_get pages c ≡ Some (Node nc)) (ends : nc.hi ≡ at) (some : at ≢ []) (beside : nc.next ≡ Some sib) where
  abbrev k : WholeNode
  k = with_child at sib n

  with-new : (P : Bytes × Item → Type 0) → AllByRecursion P (pairs_below at n.pairs) → P (at, Child sib) → AllByRecursion P (pairs_above at n.pairs) → AllByRecursion P k.pairs
  with-new P below here above = all-append P (pairs_below at n.pairs) ((at, Child sib) ∷ pairs_above at n.pairs) below (here, above)

  -- one more pair, which isn't within
  still-none : (first key : Bytes) → HasNoneWithin n.pairs first key → IsAtMost at first ⊎ IsBelow key at → HasNoneWithin k.pairs first key
  still-none first key none here =
      with-new (λ pair. IsAtMost pair.0 first ⊎ IsBelow key pair.0) (below-all at (λ pair. IsAtMost pair.0 first ⊎ IsBelow key pair.0) n.pairs none) here (above-all at (λ pair. IsAtMost pair.0 first ⊎ IsBelow key pair.0) n.pairs none)

  module _ (key : Bytes) (to : ℕ) (is_at : IsAt pages root key q n) where
    as-before : LeadsDown k key to → leading n.pairs key ≡ Some (Child to) → IsAtMost at (order.first to) ⊎ IsBelow key at → Fits order.first key q to k
    as-before down led here =
        let was-down : LeadsDown n key to = (index, down.1, led) in
        let it = fits-of pages root order key q to n is_at (inl was-down) in
        fits-down order.first key q to k down it.from_first it.up_to (still-none (order.first to) key (it.down was-down) here)

    at-new : LeadsDown k key to → IsAtMost at key → leading (pairs_above at n.pairs) key ≡ None → sib ≡ to → Fits order.first key q to k
    at-new down le none same =
        let to_c : LeadsDown n key c = (index, down.1, above-none at key le n.pairs none ∙ leads) in
        let first_turn = fits-of pages root order key q c n is_at (inl to_c) in
        let at_child : IsAt pages root key c nc = ((suc is_at.0.0, goes-then pages key is_at.0.0 root q c is_at.0.1 (n, is_at.1, inl to_c)), at_c) in
        let out : ¬ IsInRange nc key = λ in'. le (subst (λ (x : Bytes). IsBelow key x) ends (in'.1 (λ e. some (sym ends ∙ e)))) in
        let to_sib : LeadsRight nc key sib = (out, beside) in
        let second_turn = fits-of pages root order key c sib nc at_child (inr to_sib) in
        let end : IsAtMost at (order.first sib) = subst (λ (x : Bytes). IsAtMost x (order.first sib)) ends (second_turn.right to_sib) in
        let behind = none-led (pairs_above at n.pairs) key none in
        subst (λ page. Fits order.first key q page k) same (fits-down order.first key q sib k (subst (λ page. LeadsDown k key page) (sym same) down) (at_most_trans (order.first q) (order.first c) (order.first sib) first_turn.from_first second_turn.from_first) second_turn.up_to
        (with-new (λ pair. IsAtMost pair.0 (order.first sib) ⊎ IsBelow key pair.0) (below-are at (λ pair. IsAtMost pair.0 (order.first sib) ⊎ IsBelow key pair.0) n.pairs (λ pair lt. inl (at_most_trans pair.0 at (order.first sib) (below_is_at_most pair.0 at lt) end))) (inl end) (all-weaker (λ pair. IsBelow key pair.0) (λ pair. IsAtMost pair.0 (order.first sib) ⊎ IsBelow key pair.0) (λ pair lt. inr lt) (pairs_above at n.pairs) behind)))

    from-new : LeadsDown k key to → IsAtMost at key → (o : Option Item) → leading (pairs_above at n.pairs) key ≡ o → Fits order.first key q to k
    from-new down le (Some item) is =
        let led' : leading n.pairs key ≡ Some item = above-some at key n.pairs item up is in
        let same : ◌≡◌ {A = Option Item} (Some item) (Some (Child to)) = sym (set-above at key le (Child sib) n.pairs ∙ rw is refl) ∙ down.2 in
        let led : leading n.pairs key ≡ Some (Child to) = led' ∙ same in
        let it = fits-of pages root order key q to n is_at (inl (index, down.1, led)) in
        as-before down led (inl (above-first at n.pairs (order.first to) key item (it.down (index, down.1, led)) is))
    from-new down le None is = at-new down le is (same-child sib to (sym (set-above at key le (Child sib) n.pairs ∙ rw is refl) ∙ down.2))

    child-fits : LeadsTo k key to → Fits order.first key q to k
    child-fits (inr right) =
        let it = fits-of pages root order key q to n is_at (inr right) in
        fits-right order.first key q to k right it.from_first it.up_to (it.right right)
    child-fits (inl down) = by (side key at)
      where
        by : IsBelow key at ⊎ IsAtMost at key → Fits order.first key q to k
        by (inl lt) = as-before down (sym (set-below at key lt (Child sib) n.pairs) ∙ down.2) (inr lt)
        by (inr le) = from-new down le (leading (pairs_above at n.pairs) key) refl

  pub child-order : IsOrderly changed root
  child-order = order-one pages changed root q order one n k was now (λ key t page goes. child-goes pages changed q one n at sib was index up now c leads nc at_c ends some beside root key t root page (zero, refl) goes) refl (λ key to is_at leads_to. child-fits key to is_at leads_to)
