-- An index that leads to one more child, to which a search came anyway.
use Rattle.std.proofs.Common.{◌≡◌, ◌≢◌, ◌⊎◌, inl, inr, ℕ, zero, suc, ◌<◌, Bool, true, false, List, [], ◌∷◌, Option, None, Some, slice_get, slice_set, refl, sym, ◌∙◌, ap, subst, arith, cond}
use Rattle.std.specs.List.{AllByRecursion}
use Rattle.std.proofs.lemmas.Option.{slice_get_within}
use Rattle.std.specs.declared.cmp.Ordering.{Ordering}
use Rattle.std.specs.declared.cmp.Ordering.TheVariants.{Less, Equal, Greater}
use Rattle.std.specs.Ordering.{is_lt}
use Rattle.sled_base.proofs.LinkedLists.Linking.{get_set_there, get_set_other}
use Rattle.sled_base.specs.Order.{Bytes, bytes_cmp, is_below, IsBelow, IsAtMost}
use Rattle.sled_base.specs.OrderLaws.{below_trans, at_most_trans}
use Rattle.sled_log.specs.Contents.{Content, Node}
use Rattle.sled_node.specs.Children.{with_child}
use Rattle.sled_node.specs.Node.{Item, Child, WholeNode, IsInRange}
use Rattle.sled_node.specs.Pairs.{IsAscending, set_pair, pairs_below, pairs_above}
use Rattle.sled_search.specs.Map.{Map, at_key, leading, or_else}
use Rattle.sled_search.specs.Search.{LeadsTo, IsLeafOf, HasAt, Finds, Comes, IsTreeOf}
use Rattle.sled_search.proofs.Kept.{OthersStay, HereToo, kept}
use Rattle.sled_search.proofs.Leading.{leading-append, none-later, lt-true, lt-false}
use Rattle.sled_search.proofs.Search.{one_node}
use Rattle.sled_search.proofs.Splits.{side, below_at_most}
use Rattle.sled_search.proofs.Trees.{covers-stay}

pub less-is : (o : Ordering) → is_lt o ≡ true → o ≡ Less
less-is Less h = refl
less-is Equal h = absurd cc
less-is Greater h = absurd cc

module _ {V : Type 0} where
  -- what a pair adds
  abbrev own : (key : Bytes) (pair : Bytes × V) → Option V
  own key pair = cond (is_below key pair.0) None (Some pair.1)

  own-above : (key : Bytes) (pair : Bytes × V) → IsBelow key pair.0 → own key pair ≡ None
  own-above key pair lt = rw (lt-true (bytes_cmp key pair.0) lt) refl

  own-at-most : (key : Bytes) (pair : Bytes × V) → IsAtMost pair.0 key → own key pair ≡ Some pair.1
  own-at-most key pair le = rw (lt-false (bytes_cmp key pair.0) le) refl

  module _ (at : Bytes) where
    -- pairs from a string on lead no key below it
    below-kept : (key : Bytes) → IsBelow key at → (pairs : List (Bytes × V)) → leading (pairs_below at pairs) key ≡ leading pairs key
    below-kept key lt [] = refl
    below-kept key lt (pair ∷ pairs) = by (below-kept key lt pairs) (is_below pair.0 at) refl
      where
        by : leading (pairs_below at pairs) key ≡ leading pairs key → (b : Bool) → is_below pair.0 at ≡ b → leading (cond b (pair ∷ pairs_below at pairs) (pairs_below at pairs)) key ≡ or_else (leading pairs key) (own key pair)
        by rest true is = ap (λ (o : Option V). or_else o (own key pair)) rest
        by rest false is = rest ∙ sym (ap (λ (o : Option V). or_else (leading pairs key) o) (own-above key pair (below_at_most key at pair.0 lt (λ less. absurd (let e = lt-true (bytes_cmp pair.0 at) less in let f = is in cc)))) ∙ none-later (leading pairs key))

    above-all : (key : Bytes) → IsBelow key at → (pairs : List (Bytes × V)) → leading (pairs_above at pairs) key ≡ None
    above-all key lt [] = refl
    above-all key lt (pair ∷ pairs) = by (above-all key lt pairs) (is_below at pair.0) refl
      where
        by : leading (pairs_above at pairs) key ≡ None → (b : Bool) → is_below at pair.0 ≡ b → leading (cond b (pair ∷ pairs_above at pairs) (pairs_above at pairs)) key ≡ None
        by rest true is = rw (rest, own-above key pair (below_trans key at pair.0 lt (less-is (bytes_cmp at pair.0) is))) refl
        by rest false is = rest

    -- a key below the new pair is led as before
    pub set-below : (key : Bytes) → IsBelow key at → (item : V) (pairs : List (Bytes × V)) → leading (set_pair at item pairs) key ≡ leading pairs key
    set-below key lt item pairs = leading-append (pairs_below at pairs) ((at, item) ∷ pairs_above at pairs) key ∙ rw (above-all key lt pairs, own-above key (at, item) lt) (below-kept key lt pairs)

    -- one from the new pair on is led by it, unless a pair above it leads
    pub set-above : (key : Bytes) → IsAtMost at key → (item : V) (pairs : List (Bytes × V)) → leading (set_pair at item pairs) key ≡ or_else (leading (pairs_above at pairs) key) (Some item)
    set-above key le item pairs = leading-append (pairs_below at pairs) ((at, item) ∷ pairs_above at pairs) key ∙ rw (own-at-most key (at, item) le) (first-some (leading (pairs_above at pairs) key) item (leading (pairs_below at pairs) key))
      where
        first-some : (o : Option V) (x : V) (later : Option V) → or_else (or_else o (Some x)) later ≡ or_else o (Some x)
        first-some (Some v) x later = refl
        first-some None x later = refl

    none-both : (a b : Option V) → or_else a b ≡ None → (a ≡ None) × (b ≡ None)
    none-both (Some v) b h = absurd cc
    none-both None b h = (refl, h)

    -- where none above it leads, the key is led as the string is
    pub above-none : (key : Bytes) → IsAtMost at key → (pairs : List (Bytes × V)) → leading (pairs_above at pairs) key ≡ None → leading pairs key ≡ leading pairs at
    above-none key le [] none = refl
    above-none key le (pair ∷ pairs) none = by (above-none key le pairs) (is_below at pair.0) refl none
      where
        own-none : own key pair ≡ None → is_below at pair.0 ≡ true → own key pair ≡ own at pair
        own-none none is = none ∙ sym (own-above at pair (less-is (bytes_cmp at pair.0) is))

        by : (leading (pairs_above at pairs) key ≡ None → leading pairs key ≡ leading pairs at) → (b : Bool) → is_below at pair.0 ≡ b → leading (cond b (pair ∷ pairs_above at pairs) (pairs_above at pairs)) key ≡ None → or_else (leading pairs key) (own key pair) ≡ or_else (leading pairs at) (own at pair)
        by rest true is none = let both = none-both (leading (pairs_above at pairs) key) (own key pair) none in
            ap (λ (o : Option V). or_else o (own key pair)) (rest both.0) ∙ ap (λ (o : Option V). or_else (leading pairs at) o) (own-none both.1 is)
        by rest false is none =
            let low : IsAtMost pair.0 at = (λ lt. absurd (let e = lt-true (bytes_cmp at pair.0) lt in let f = is in cc)) in
            ap (λ (o : Option V). or_else o (own key pair)) (rest none) ∙ ap (λ (o : Option V). or_else (leading pairs at) o) (own-at-most key pair (at_most_trans pair.0 at key low le) ∙ sym (own-at-most at pair low))

module _ {V : Type 0} (at : Bytes) where
  -- a pair that leads among those above the string leads among all, if they rise
  no-lower : (pairs : List (Bytes × V)) (key : Bytes) (low : Bytes) → IsBelow at low → AllByRecursion (λ later. IsBelow low later.0) pairs → leading (pairs_above at pairs) key ≡ leading pairs key
  no-lower [] key low lt all = refl
  no-lower (pair ∷ pairs) key low lt all = rw (lt-true (bytes_cmp at pair.0) (below_trans at low pair.0 lt all.0)) (ap (λ (o : Option V). or_else o (own key pair)) (no-lower pairs key low lt all.1))

  pub above-some : (key : Bytes) (pairs : List (Bytes × V)) (item : V) → IsAscending pairs → leading (pairs_above at pairs) key ≡ Some item → leading pairs key ≡ Some item
  above-some key [] item up h = h
  above-some key (pair ∷ pairs) item up h = by (above-some key pairs item up.1) (is_below at pair.0) refl h
    where
      first : (o : Option V) → o ≡ Some item → or_else o (own key pair) ≡ Some item
      first o e = rw e refl

      by : (leading (pairs_above at pairs) key ≡ Some item → leading pairs key ≡ Some item) → (b : Bool) → is_below at pair.0 ≡ b → leading (cond b (pair ∷ pairs_above at pairs) (pairs_above at pairs)) key ≡ Some item → or_else (leading pairs key) (own key pair) ≡ Some item
      by rest true is h = sym (ap (λ (o : Option V). or_else o (own key pair)) (no-lower pairs key pair.0 (less-is (bytes_cmp at pair.0) is) up.0)) ∙ h
      by rest false is h = first (leading pairs key) (rest h)

-- ---- pages

module _ (pages changed : List Content) (q : ℕ) (others : OthersStay pages changed q) (n : WholeNode) (at : Bytes) (sib : ℕ) (was : slice_get pages q ≡ Some (Node n)) (index : n.is_index ≡ true) (up : IsAscending n.pairs) (now : slice_get changed q ≡ Some (Node (with_child at sib n))) (c : ℕ) (leads : leading n.pairs at ≡ Some (Child c)) (nc : WholeNode) (at_c : slice_get pages c ≡ Some (Node nc)) (ends : nc.hi ≡ at) (some : at ≢ []) (right : nc.next ≡ Some sib) (key : Bytes) (Is : ℕ → WholeNode → Type 0) where
  abbrev Fewer : ℕ → Type 0
  Fewer turns = (t : ℕ) → t < turns → (pid : ℕ) → Finds pages key Is t pid → Comes changed key Is pid

  out : IsAtMost at key → ¬ IsInRange nc key
  out le in' = le (subst (λ (x : Bytes). IsBelow key x) ends (in'.1 (λ e. some (sym ends ∙ e))))

  -- from the child the search goes to the right
  beyond : IsAtMost at key → (t : ℕ) → Finds pages key Is t c → (s : ℕ) × (s < t) × Finds pages key Is s sib
  beyond le zero (k, there, x) = absurd (out le (subst (λ (w : WholeNode). IsLeafOf key w) (one_node pages c nc k at_c there) x.0).1)
  beyond le (suc t) (to, (k, there, x), rest) = by (subst (λ (w : WholeNode). LeadsTo w key to) (one_node pages c nc k at_c there) x)
    where
      by : LeadsTo nc key to → (s : ℕ) × (s < suc t) × Finds pages key Is s sib
      by (inl down) = absurd (out le down.1)
      by (inr beside) = let e : to ≡ sib = (let a = beside.1 in let b = right in cc) in (t, omega arith, subst (λ page. Finds pages key Is t page) e rest)

  with-turn : (to : ℕ) → LeadsTo (with_child at sib n) key to → Comes changed key Is to → Comes changed key Is q
  with-turn to leads (more, found) = (suc more, (to, (with_child at sib n, now, leads), found))

  same-child : (a b : ℕ) → ◌≡◌ {A = Option Item} (Some (Child a)) (Some (Child b)) → a ≡ b
  same-child a b h = let e : Child a ≡ Child b = cc in cc

  at-new : IsAtMost at key → IsInRange n key → (turns : ℕ) → Fewer (suc turns) → (to : ℕ) → leading n.pairs key ≡ Some (Child to) → Finds pages key Is turns to → (o : Option Item) → leading (pairs_above at n.pairs) key ≡ o → Comes changed key Is q
  at-new le range turns less to led rest (Some item) is = with-turn to (inl (index, range, set-above at key le (Child sib) n.pairs ∙ rw is (sym (above-some at key n.pairs item up is) ∙ led))) (less turns (omega arith) to rest)
  at-new le range turns less to led rest None is =
      let e : to ≡ c = same-child to c (sym led ∙ above-none at key le n.pairs is ∙ leads) in
      let (s, lt, found) = beyond le turns (subst (λ page. Finds pages key Is turns page) e rest) in
      with-turn sib (inl (index, range, set-above at key le (Child sib) n.pairs ∙ rw is refl)) (less s (omega arith) sib found)

  hint-here : HereToo pages changed q others key Is Is
  hint-here zero less (k, there, x) = absurd (let same = one_node pages q n k was there in let e = (subst (λ (w : WholeNode). IsLeafOf key w) same x.0).0 in let f = index in cc)
  hint-here (suc turns) less (to, (k, there, x), rest) = by (subst (λ (w : WholeNode). LeadsTo w key to) (one_node pages q n k was there) x) (side key at)
    where
      by : LeadsTo n key to → IsBelow key at ⊎ IsAtMost at key → Comes changed key Is q
      by (inl down) (inl lt) = with-turn to (inl (index, down.1, set-below at key lt (Child sib) n.pairs ∙ down.2)) (less turns (omega arith) to rest)
      by (inl down) (inr le) = at-new le down.1 turns less to down.2 rest (leading (pairs_above at n.pairs) key) refl
      by (inr beside) s = with-turn to (inr beside) (less turns (omega arith) to rest)

  pub hint-kept : (from : ℕ) → Comes pages key Is from → Comes changed key Is from
  hint-kept from found = kept pages changed q others key Is Is (λ pid k other is. is) hint-here from found

pub tree-hinted : (pages : List Content) (root : ℕ) (m : Map) → IsTreeOf pages root m → (q : ℕ) (n : WholeNode) (at : Bytes) (sib : ℕ) → slice_get pages q ≡ Some (Node n) → n.is_index ≡ true → IsAscending n.pairs → (c : ℕ) → leading n.pairs at ≡ Some (Child c) → (nc : WholeNode) → slice_get pages c ≡ Some (Node nc) → nc.hi ≡ at → at ≢ [] → nc.next ≡ Some sib
    → IsTreeOf (slice_set pages q (Node (with_child at sib n))) root m
tree-hinted pages root m tree q n at sib was index up c leads nc at_c ends some right =
    let changed = slice_set pages q (Node (with_child at sib n)) in
    let now = get_set_there pages q (Node (with_child at sib n)) (slice_get_within pages q (Node n) was) in
    let stay : OthersStay pages (slice_set pages q (Node (with_child at sib n))) q = λ pid other k there. get_set_other pages q pid (Node (with_child at sib n)) (λ e. other (sym e)) ∙ there in
    record {
      ascending = tree.ascending;
      comes = λ key. hint-kept pages changed q stay n at sib was index up now c leads nc at_c ends some right key (λ _ k. HasAt key (at_key m key) k) root (tree.comes key);
      covers = covers-stay pages changed root m tree (λ key J found. hint-kept pages changed q stay n at sib was index up now c leads nc at_c ends some right key (λ pid k. J pid k.lo k.hi) root found);
    }
