-- One of several trees changes, and the others stay.
use Rattle.std.proofs.Common.{◌≡◌, ◌≢◌, ◌⊎◌, inl, inr, ℕ, zero, suc, ◌==◌, true, false, List, [], ◌∷◌, Option, None, Some, slice_get, refl, sym, ◌∙◌, subst, cond}
use Rattle.std.proofs.lemmas.Bool.{cases_eq}
use Rattle.std.proofs.lemmas.Bool.Decides.{eqb_tells}
use Rattle.sled_base.specs.Order.{Bytes, bytes_cmp, IsAtMost}
use Rattle.sled_log.specs.Contents.{Content, Node}
use Rattle.sled_node.specs.Children.{index_of}
use Rattle.sled_node.specs.Node.{Item, Child, WholeNode, empty_leaf}
use Rattle.sled_search.specs.Map.{Map}
use Rattle.sled_search.specs.Maps.{Maps, HasTree, no_maps, with_map, without_map, Reaches, AreTrees, IsOff, ChangesOne}
use Rattle.sled_search.specs.Orderly.{IsAt, IsOrderly}
use Rattle.sled_search.specs.Search.{LeadsTo, Goes, IsTreeOf}
use Rattle.sled_search.proofs.Empty.{empty-tree}
use Rattle.sled_search.proofs.Off.{off-order, off-reaches, off-tree}
use Rattle.sled_search.proofs.Orders.{Fits, fits-down, in-order}
use Rattle.sled_search.proofs.Search.{one_node}
use Rattle.sled_search.proofs.Separated.{never-below}
use Rattle.sled_search.proofs.Leading.{lt-false}
use Rattle.sled_search.proofs.SplitTrees.{all-keys}

pub same-map : (m m' : Map) → ◌≡◌ {A = Option Map} (Some m) (Some m') → m ≡ m'
same-map m m' h = cc

pub with-here : (root : ℕ) (m : Map) (maps : Maps) → with_map root m maps root ≡ Some m
with-here root m maps = by (eqb_tells root root)
  where
    by : ((root == root ≡ true) × (root ≡ root)) ⊎ ((root == root ≡ false) × (root ≢ root)) → cond (root == root) (Some m) (maps root) ≡ Some m
    by (inl same) = rw same.0 refl
    by (inr differ) = absurd (differ.1 refl)

pub with-other : (root : ℕ) (m : Map) (maps : Maps) (b : ℕ) → b ≢ root → with_map root m maps b ≡ maps b
with-other root m maps b other = by (eqb_tells b root)
  where
    by : ((b == root ≡ true) × (b ≡ root)) ⊎ ((b == root ≡ false) × (b ≢ root)) → cond (b == root) (Some m) (maps b) ≡ maps b
    by (inl same) = absurd (other same.1)
    by (inr differ) = rw differ.0 refl

module _ (pages changed : List Content) (maps maps' : Maps) (p root : ℕ) (m' : Map) (trees : AreTrees pages maps) (has : HasTree maps root) (one : ChangesOne pages p changed) (at : Reaches pages root p) (others : (b : ℕ) → b ≢ root → maps' b ≡ maps b) (now : maps' root ≡ Some m') (tree : IsTreeOf changed root m') (order : IsOrderly changed root) (grows : (page : ℕ) → Reaches changed root page → Reaches pages root page ⊎ IsOff pages maps page) where
  had : (b : ℕ) → b ≢ root → HasTree maps' b → HasTree maps b
  had b other (m, is) = (m, sym (others b other) ∙ is)

  other-off : (b : ℕ) → HasTree maps b → b ≢ root → Reaches pages b p → ⊥
  other-off b has_b other x = trees.apart b root has_b has other p x at

  was-there : (b : ℕ) → HasTree maps b → b ≢ root → (page : ℕ) → Reaches changed b page → Reaches pages b page
  was-there b has_b other page x = off-reaches pages changed p one b (other-off b has_b other) page x

  each-one : (b : ℕ) (m : Map) → maps' b ≡ Some m → (b ≡ root) ⊎ (b ≡ root → ⊥) → IsTreeOf changed b m
  each-one b m is (inl same) =
      let is' : maps' root ≡ Some m = subst (λ q. maps' q ≡ Some m) same is in
      subst (λ q. IsTreeOf changed q m) (sym same) (subst (λ (w : Map). IsTreeOf changed root w) (same-map m' m (sym now ∙ is')) tree)
  each-one b m is (inr other) = off-tree pages changed p one b (other-off b (m, sym (others b other) ∙ is) other) m (trees.each b m (sym (others b other) ∙ is))

  from-root : (b : ℕ) → HasTree maps b → b ≢ root → (page : ℕ) → Reaches changed root page → Reaches pages b page → ⊥
  from-root b has_b other page x y = by (grows page x)
    where
      by : Reaches pages root page ⊎ IsOff pages maps page → ⊥
      by (inl was) = trees.apart b root has_b has other page y was
      by (inr off) = off b has_b y

  two : (a b : ℕ) → HasTree maps' a → HasTree maps' b → a ≢ b → (page : ℕ) → Reaches changed a page → Reaches changed b page → (a ≡ root) ⊎ (a ≡ root → ⊥) → (b ≡ root) ⊎ (b ≡ root → ⊥) → ⊥
  two a b has_a has_b differ page x y (inl same) (inl same') = differ (same ∙ sym same')
  two a b has_a has_b differ page x y (inl same) (inr other) = let had_b = had b other has_b in from-root b had_b other page (subst (λ q. Reaches changed q page) same x) (was-there b had_b other page y)
  two a b has_a has_b differ page x y (inr other) (inl same) = let had_a = had a other has_a in from-root a had_a other page (subst (λ q. Reaches changed q page) same y) (was-there a had_a other page x)
  two a b has_a has_b differ page x y (inr other) (inr other') = let had_a = had a other has_a in let had_b = had b other' has_b in trees.apart a b had_a had_b differ page (was-there a had_a other page x) (was-there b had_b other' page y)

  orderly-one : (b : ℕ) → HasTree maps' b → (b ≡ root) ⊎ (b ≡ root → ⊥) → IsOrderly changed b
  orderly-one b has_b (inl same) = subst (λ q. IsOrderly changed q) (sym same) order
  orderly-one b has_b (inr other) = let had_b = had b other has_b in off-order pages changed p one b (other-off b had_b other) (trees.orderly b had_b)

  pub one-changed : AreTrees changed maps'
  one-changed = record {
    each = λ b m is. each-one b m is (cases_eq b root);
    apart = λ a b has_a has_b differ page x y. two a b has_a has_b differ page x y (cases_eq a root) (cases_eq b root);
    orderly = λ b has_b. orderly-one b has_b (cases_eq b root);
  }

-- ---- no trees, and a tree more

pub not-some-map : (m : Map) → ◌≡◌ {A = Option Map} None (Some m) → ⊥
not-some-map m h = absurd (let e = h in cc)

pub none-there : (pages : List Content) → AreTrees pages no_maps
none-there pages = record {
  each = λ root m is. absurd (not-some-map m is);
  apart = λ a b has has' differ page x y. not-some-map has.0 has.1;
  orderly = λ root has. absurd (not-some-map has.0 has.1);
}

pub none-off : (pages : List Content) (page : ℕ) → IsOff pages no_maps page
none-off pages page root has x = not-some-map has.0 has.1

not-some-page : (page : ℕ) → ◌≡◌ {A = Option ℕ} None (Some page) → ⊥
not-some-page page h = absurd (let e = h in cc)

same-page : (a b : ℕ) → ◌≡◌ {A = Option Item} (Some (Child a)) (Some (Child b)) → a ≡ b
same-page a b h = let e : Child a ≡ Child b = cc in cc

module _ (pages : List Content) (maps : Maps) (root leaf : ℕ) (trees : AreTrees pages maps) (off : IsOff pages maps root) (leaf_off : IsOff pages maps leaf) (at_root : slice_get pages root ≡ Some (Node (index_of (([], Child leaf) ∷ [])))) (at_leaf : slice_get pages leaf ≡ Some (Node empty_leaf)) where
  abbrev index : WholeNode
  index = index_of (([], Child leaf) ∷ [])

  down-alone : (key : Bytes) (next : ℕ) → LeadsTo index key next → next ≡ leaf
  down-alone key next (inl down) = same-page next leaf (sym down.2 ∙ rw (lt-false (bytes_cmp key []) (never-below key)) refl)
  down-alone key next (inr right) = absurd (right.0 (all-keys index refl refl key))

  leads-nowhere : (key : Bytes) (next : ℕ) → LeadsTo empty_leaf key next → ⊥
  leads-nowhere key next (inl down) = absurd (let e = down.0 in cc)
  leads-nowhere key next (inr right) = not-some-page next right.1

  from-leaf : (key : Bytes) (t page : ℕ) → Goes pages key t leaf page → leaf ≡ page
  from-leaf key zero page is = is
  from-leaf key (suc t) page (next, (k, there, leads), rest) = absurd (leads-nowhere key next (subst (λ (w : WholeNode). LeadsTo w key next) (one_node pages leaf empty_leaf k at_leaf there) leads))

  pub two-pages : (key : Bytes) (t page : ℕ) → Goes pages key t root page → (root ≡ page) ⊎ (leaf ≡ page)
  two-pages key zero page is = inl is
  two-pages key (suc t) page (next, (k, there, leads), rest) =
      let same : next ≡ leaf = down-alone key next (subst (λ (w : WholeNode). LeadsTo w key next) (one_node pages root index k at_root there) leads) in
      inr (from-leaf key t page (subst (λ q. Goes pages key t q page) same rest))

  new-apart : (b : ℕ) → HasTree maps b → (page : ℕ) → Reaches pages root page → Reaches pages b page → ⊥
  new-apart b has page (key, t, goes) y = by (two-pages key t page goes)
    where
      by : (root ≡ page) ⊎ (leaf ≡ page) → ⊥
      by (inl same) = off b has (subst (λ q. Reaches pages b q) (sym same) y)
      by (inr same) = leaf_off b has (subst (λ q. Reaches pages b q) (sym same) y)

  new-had : (b : ℕ) → b ≢ root → HasTree (with_map root [] maps) b → HasTree maps b
  new-had b other (m, is) = (m, sym (with-other root [] maps b other) ∙ is)

  new-each : (b : ℕ) (m : Map) → with_map root [] maps b ≡ Some m → (b ≡ root) ⊎ (b ≡ root → ⊥) → IsTreeOf pages b m
  new-each b m is (inl same) =
      let is' : with_map root [] maps root ≡ Some m = subst (λ q. with_map root [] maps q ≡ Some m) same is in
      subst (λ q. IsTreeOf pages q m) (sym same) (subst (λ (w : Map). IsTreeOf pages root w) (same-map [] m (sym (with-here root [] maps) ∙ is')) (empty-tree pages root leaf at_root at_leaf))
  new-each b m is (inr other) = trees.each b m (sym (with-other root [] maps b other) ∙ is)

  new-two : (a b : ℕ) → HasTree (with_map root [] maps) a → HasTree (with_map root [] maps) b → a ≢ b → (page : ℕ) → Reaches pages a page → Reaches pages b page → (a ≡ root) ⊎ (a ≡ root → ⊥) → (b ≡ root) ⊎ (b ≡ root → ⊥) → ⊥
  new-two a b has_a has_b differ page x y (inl same) (inl same') = differ (same ∙ sym same')
  new-two a b has_a has_b differ page x y (inl same) (inr other) = new-apart b (new-had b other has_b) page (subst (λ q. Reaches pages q page) same x) y
  new-two a b has_a has_b differ page x y (inr other) (inl same) = new-apart a (new-had a other has_a) page (subst (λ q. Reaches pages q page) same y) x
  new-two a b has_a has_b differ page x y (inr other) (inr other') = trees.apart a b (new-had a other has_a) (new-had b other' has_b) differ page x y

  -- its pages are in order
  new-node : (key : Bytes) (page : ℕ) (n : WholeNode) → IsAt pages root key page n → (n ≡ index) ⊎ (n ≡ empty_leaf)
  new-node key page n ((t, goes), there) = by (two-pages key t page goes)
    where
      by : (root ≡ page) ⊎ (leaf ≡ page) → (n ≡ index) ⊎ (n ≡ empty_leaf)
      by (inl same) = inl (one_node pages root index n at_root (subst (λ q. slice_get pages q ≡ Some (Node n)) (sym same) there))
      by (inr same) = inr (one_node pages leaf empty_leaf n at_leaf (subst (λ q. slice_get pages q ≡ Some (Node n)) (sym same) there))

  index-fits : (key : Bytes) (page to : ℕ) → LeadsTo index key to → Fits (λ _. []) key page to index
  index-fits key page to (inl down) = fits-down (λ _. []) key page to index down (never-below []) (never-below key) (inl (never-below []), tt)
  index-fits key page to (inr right) = absurd (right.0 (all-keys index refl refl key))

  pub new-order : IsOrderly pages root
  new-order = in-order pages root (λ _. []) refl (λ key page n at. low n (new-node key page n at)) (λ key page to n at leads. fits key page to n (new-node key page n at) leads)
    where
      low : (n : WholeNode) → (n ≡ index) ⊎ (n ≡ empty_leaf) → IsAtMost n.lo []
      low n (inl same) = subst (λ (w : WholeNode). IsAtMost w.lo []) (sym same) (never-below [])
      low n (inr same) = subst (λ (w : WholeNode). IsAtMost w.lo []) (sym same) (never-below [])

      fits : (key : Bytes) (page to : ℕ) (n : WholeNode) → (n ≡ index) ⊎ (n ≡ empty_leaf) → LeadsTo n key to → Fits (λ _. []) key page to n
      fits key page to n (inl same) leads = subst (λ (w : WholeNode). Fits (λ _. []) key page to w) (sym same) (index-fits key page to (subst (λ (w : WholeNode). LeadsTo w key to) same leads))
      fits key page to n (inr same) leads = absurd (leads-nowhere key to (subst (λ (w : WholeNode). LeadsTo w key to) same leads))

  new-orderly : (b : ℕ) → HasTree (with_map root [] maps) b → (b ≡ root) ⊎ (b ≡ root → ⊥) → IsOrderly pages b
  new-orderly b has (inl same) = subst (λ q. IsOrderly pages q) (sym same) new-order
  new-orderly b has (inr other) = trees.orderly b (new-had b other has)

  pub one-more : AreTrees pages (with_map root [] maps)
  one-more = record {
    each = λ b m is. new-each b m is (cases_eq b root);
    apart = λ a b has_a has_b differ page x y. new-two a b has_a has_b differ page x y (cases_eq a root) (cases_eq b root);
    orderly = λ b has. new-orderly b has (cases_eq b root);
  }

pub alone : (pages : List Content) (root : ℕ) (m : Map) → IsTreeOf pages root m → IsOrderly pages root → AreTrees pages (with_map root m no_maps)
alone pages root m tree order = record {
  each = λ b k is. each-alone b k is (cases_eq b root);
  apart = λ a b has has' differ page x y. differ (only a has (cases_eq a root) ∙ sym (only b has' (cases_eq b root)));
  orderly = λ b has. subst (λ q. IsOrderly pages q) (sym (only b has (cases_eq b root))) order;
}
  where
    each-alone : (b : ℕ) (k : Map) → with_map root m no_maps b ≡ Some k → (b ≡ root) ⊎ (b ≡ root → ⊥) → IsTreeOf pages b k
    each-alone b k is (inl same) =
        let is' : with_map root m no_maps root ≡ Some k = subst (λ q. with_map root m no_maps q ≡ Some k) same is in
        subst (λ q. IsTreeOf pages q k) (sym same) (subst (λ (w : Map). IsTreeOf pages root w) (same-map m k (sym (with-here root m no_maps) ∙ is')) tree)
    each-alone b k is (inr other) = absurd (not-some-map k (sym (with-other root m no_maps b other) ∙ is))

    only : (b : ℕ) → HasTree (with_map root m no_maps) b → (b ≡ root) ⊎ (b ≡ root → ⊥) → b ≡ root
    only b has (inl same) = same
    only b (k, is) (inr other) = absurd (not-some-map k (sym (with-other root m no_maps b other) ∙ is))

-- ---- a tree less

none-here : (root : ℕ) (maps : Maps) → without_map root maps root ≡ None
none-here root maps = by (eqb_tells root root)
  where
    by : ((root == root ≡ true) × (root ≡ root)) ⊎ ((root == root ≡ false) × (root ≢ root)) → cond (root == root) None (maps root) ≡ None
    by (inl same) = rw same.0 refl
    by (inr differ) = absurd (differ.1 refl)

without-other : (root : ℕ) (maps : Maps) (b : ℕ) → b ≢ root → without_map root maps b ≡ maps b
without-other root maps b other = by (eqb_tells b root)
  where
    by : ((b == root ≡ true) × (b ≡ root)) ⊎ ((b == root ≡ false) × (b ≢ root)) → cond (b == root) None (maps b) ≡ maps b
    by (inl same) = absurd (other same.1)
    by (inr differ) = rw differ.0 refl

pub left-over : (root : ℕ) (maps : Maps) (b : ℕ) (m : Map) → without_map root maps b ≡ Some m → (b ≢ root) × (maps b ≡ Some m)
left-over root maps b m is = by (cases_eq b root)
  where
    by : (b ≡ root) ⊎ (b ≡ root → ⊥) → (b ≢ root) × (maps b ≡ Some m)
    by (inl same) = absurd (not-some-map m (sym (none-here root maps) ∙ subst (λ q. without_map root maps q ≡ Some m) same is))
    by (inr other) = (other, sym (without-other root maps b other) ∙ is)

pub one-less : (pages : List Content) (maps : Maps) (root : ℕ) → AreTrees pages maps → AreTrees pages (without_map root maps)
one-less pages maps root trees = record {
  each = λ b m is. trees.each b m (left-over root maps b m is).1;
  apart = λ a b has_a has_b differ page x y. trees.apart a b (has_a.0, (left-over root maps a has_a.0 has_a.1).1) (has_b.0, (left-over root maps b has_b.0 has_b.1).1) differ page x y;
  orderly = λ b has. trees.orderly b (has.0, (left-over root maps b has.0 has.1).1);
}

pub dropped-off : (pages : List Content) (maps : Maps) (root page : ℕ) → AreTrees pages maps → HasTree maps root → Reaches pages root page → IsOff pages (without_map root maps) page
dropped-off pages maps root page trees has x b has_b y =
    let left = left-over root maps b has_b.0 has_b.1 in
    trees.apart b root (has_b.0, left.1) has left.0 page y x
