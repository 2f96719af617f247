-- What the order of a tree's pages says: searches for keys between the first key of a page and one that comes there come there too.
use Rattle.std.proofs.Common.{◌≡◌, ◌≢◌, ◌⊎◌, inl, inr, ℕ, zero, suc, List, [], ◌∷◌, Option, None, Some, slice_get, refl, sym, ◌∙◌, ap, subst, arith, cond}
use Rattle.sled_base.specs.Order.{Bytes, bytes_cmp, is_below, IsBelow, IsAtMost}
use Rattle.sled_base.specs.OrderLaws.{at_most_below_trans, at_most_trans, not_below_itself}
use Rattle.sled_log.specs.Contents.{Content, Node}
use Rattle.sled_node.specs.Node.{Item, WholeNode, IsInRange}
use Rattle.sled_search.specs.Map.{Map, at_key, leading, or_else}
use Rattle.sled_search.specs.Orderly.{IsAt, HasNoneWithin, IsOrderly}
use Rattle.sled_search.specs.Search.{HasNodeAt, LeadsDown, LeadsRight, LeadsTo, HasAt, Goes, IsTreeOf}
use Rattle.sled_search.proofs.Leading.{lt-true, lt-false}
use Rattle.sled_search.proofs.Paths.{met-once}
use Rattle.sled_search.proofs.Search.{goes-then, one_node, one_turn}
use Rattle.sled_search.proofs.Separated.{never-below}

-- ---- what is so of one turn

-- where a node leads a key, it is in order
pub record Fits (first : ℕ → Bytes) (key : Bytes) (page to : ℕ) (n : WholeNode) : Type 0 where
  pub from_first : IsAtMost (first page) (first to)
  pub up_to : IsAtMost (first to) key
  pub down : LeadsDown n key to → HasNoneWithin n.pairs (first to) key
  pub right : LeadsRight n key to → IsAtMost n.hi (first to)

pub fits-down : (first : ℕ → Bytes) (key : Bytes) (page to : ℕ) (n : WholeNode) → LeadsDown n key to → IsAtMost (first page) (first to) → IsAtMost (first to) key → HasNoneWithin n.pairs (first to) key → Fits first key page to n
fits-down first key page to n leads from_first up_to none = record { from_first = from_first; up_to = up_to; down = λ _. none; right = λ beside. absurd (beside.0 leads.1) }

pub fits-right : (first : ℕ → Bytes) (key : Bytes) (page to : ℕ) (n : WholeNode) → LeadsRight n key to → IsAtMost (first page) (first to) → IsAtMost (first to) key → IsAtMost n.hi (first to) → Fits first key page to n
fits-right first key page to n leads from_first up_to end = record { from_first = from_first; up_to = up_to; down = λ below. absurd (leads.0 below.1); right = λ _. end }

pub fits-of : (pages : List Content) (root : ℕ) (order : IsOrderly pages root) (key : Bytes) (page to : ℕ) (n : WholeNode) → IsAt pages root key page n → LeadsTo n key to → Fits order.first key page to n
fits-of pages root order key page to n at leads =
    let up = order.rises key page to n at leads in
    record { from_first = up.0; up_to = up.1; down = λ below. order.down key page to n at below; right = λ beside. order.right key page to n at beside }

pub in-order : (pages : List Content) (root : ℕ) (first : ℕ → Bytes) → first root ≡ [] → ((key : Bytes) (page : ℕ) (n : WholeNode) → IsAt pages root key page n → IsAtMost n.lo (first page)) → ((key : Bytes) (page to : ℕ) (n : WholeNode) → IsAt pages root key page n → LeadsTo n key to → Fits first key page to n) → IsOrderly pages root
in-order pages root first root_first low fits = record {
  first = first;
  root_first = root_first;
  low = low;
  rises = λ key page to n at leads. let it = fits key page to n at leads in (it.from_first, it.up_to);
  down = λ key page child n at leads. let it = fits key page child n at (inl leads) in it.down leads;
  right = λ key page beside n at leads. let it = fits key page beside n at (inr leads) in it.right leads;
}

-- where searches are at pages where they were, and these are as they were
pub same-order : (pages changed : List Content) (root : ℕ) → ((key : Bytes) (page : ℕ) (n : WholeNode) → IsAt changed root key page n → IsAt pages root key page n) → IsOrderly pages root → IsOrderly changed root
same-order pages changed root was order = in-order changed root order.first order.root_first (λ key page n at. order.low key page n (was key page n at)) (λ key page to n at leads. fits-of pages root order key page to n (was key page n at) leads)

-- ---- pairs of which none is within

-- what a pair adds is the same for keys between
one-pair : {V : Type 0} (pair : Bytes × V) (first key other : Bytes) → IsAtMost pair.0 first ⊎ IsBelow key pair.0 → IsAtMost first other → IsAtMost other key → cond (is_below other pair.0) None (Some pair.1) ≡ cond (is_below key pair.0) None (Some pair.1)
one-pair pair first key other (inl low) le up = rw (lt-false (bytes_cmp other pair.0) (at_most_trans pair.0 first other low le), lt-false (bytes_cmp key pair.0) (at_most_trans pair.0 other key (at_most_trans pair.0 first other low le) up)) refl
one-pair pair first key other (inr later) le up = rw (lt-true (bytes_cmp other pair.0) (at_most_below_trans other key pair.0 up later), lt-true (bytes_cmp key pair.0) later) refl

pub leads-same : (pairs : List (Bytes × Item)) (first key other : Bytes) → HasNoneWithin pairs first key → IsAtMost first other → IsAtMost other key → leading pairs other ≡ leading pairs key
leads-same [] first key other none le up = refl
leads-same (pair ∷ pairs) first key other none le up =
    ap (λ (o : Option Item). or_else o (cond (is_below other pair.0) None (Some pair.1))) (leads-same pairs first key other none.1 le up)
    ∙ ap (λ (o : Option Item). or_else (leading pairs key) o) (one-pair pair first key other none.0 le up)

-- ---- ways of searches

-- behind as many turns a search is at one page
pub one-place : (pages : List Content) (key : Bytes) (turns from a b : ℕ) → Goes pages key turns from a → Goes pages key turns from b → a ≡ b
one-place pages key zero from a b x y = sym x ∙ y
one-place pages key (suc turns) from a b (to, (n, there, leads), rest) (to', (m, there', leads'), rest') =
    let same = one_turn n key to' to (subst (λ (w : WholeNode). LeadsTo w key to') (one_node pages from n m there there') leads') leads in
    one-place pages key turns to a b rest (subst (λ page. Goes pages key turns page b) same rest')

module _ (pages : List Content) (root : ℕ) (order : IsOrderly pages root) where
  root-low : (key : Bytes) → IsAtMost (order.first root) key
  root-low key = subst (λ (x : Bytes). IsAtMost x key) (sym order.root_first) (never-below key)

  after : (key : Bytes) (s t from to : ℕ) → Goes pages key s root from → IsAtMost (order.first from) key → Goes pages key t from to → IsAtMost (order.first from) (order.first to) × IsAtMost (order.first to) key
  after key s zero from to goes le is = subst (λ page. IsAtMost (order.first from) (order.first page) × IsAtMost (order.first page) key) is (not_below_itself (order.first from), le)
  after key s (suc t) from to goes le (next, (n, there, leads), rest) =
      let up = order.rises key from next n ((s, goes), there) leads in
      let more = after key (suc s) t next to (goes-then pages key s root from next goes (n, there, leads)) up.1 rest in
      (at_most_trans (order.first from) (order.first next) (order.first to) up.0 more.0, more.1)

  -- a search is at no page whose first key is above its own
  pub first-low : (key : Bytes) (s at : ℕ) → Goes pages key s root at → IsAtMost (order.first at) key
  first-low key s at goes = (after key zero s root at refl (root-low key) goes).1

  pub node-low : (key : Bytes) (page : ℕ) (n : WholeNode) → IsAt pages root key page n → IsAtMost n.lo key
  node-low key page n ((s, goes), there) = at_most_trans n.lo (order.first page) key (order.low key page n ((s, goes), there)) (first-low key s page goes)

  -- a key that isn't in the range of the node where its search is, is at the node's end or behind it
  pub beyond : (key : Bytes) (page : ℕ) (n : WholeNode) → IsAt pages root key page n → ¬ IsInRange n key → (n.hi ≢ []) × IsAtMost n.hi key
  beyond key page n at out = ((λ e. out (low, λ some. absurd (some e))), λ lt. out (low, λ _. lt))
    where
      low : IsAtMost n.lo key
      low = node-low key page n at

  -- keys between take the same turn
  pub same-turn : (key other : Bytes) (from to : ℕ) (n : WholeNode) → IsAt pages root key from n → LeadsTo n key to → IsAtMost (order.first to) other → IsAtMost other key → LeadsTo n other to
  same-turn key other from to n at leads le up = by leads
    where
      low : IsAtMost n.lo other
      low = let rises = order.rises key from to n at leads in at_most_trans n.lo (order.first from) other (order.low key from n at) (at_most_trans (order.first from) (order.first to) other rises.0 le)

      by : LeadsTo n key to → LeadsTo n other to
      by (inl down) = inl (down.0, (low, λ some. at_most_below_trans other key n.hi up (down.1.1 some)), leads-same n.pairs (order.first to) key other (order.down key from to n at down) le up ∙ down.2)
      by (inr right) =
          let end = beyond key from n at right.0 in
          inr ((λ in'. at_most_trans n.hi (order.first to) other (order.right key from to n at right) le (in'.1 end.0)), right.1)

  -- and the same way
  same-way-on : (key other : Bytes) (s t from to : ℕ) → Goes pages key s root from → Goes pages key t from to → IsAtMost (order.first to) other → IsAtMost other key → Goes pages other t from to
  same-way-on key other s zero from to goes is le up = is
  same-way-on key other s (suc t) from to goes (next, (n, there, leads), rest) le up =
      let more = goes-then pages key s root from next goes (n, there, leads) in
      let behind = after key (suc s) t next to more (first-low key (suc s) next more) rest in
      (next, (n, there, same-turn key other from next n ((s, goes), there) leads (at_most_trans (order.first next) (order.first to) other behind.0 le) up), same-way-on key other (suc s) t next to more rest le up)

  pub same-way : (key other : Bytes) (t to : ℕ) → Goes pages key t root to → IsAtMost (order.first to) other → IsAtMost other key → Goes pages other t root to
  same-way key other t to goes le up = same-way-on key other zero t root to refl goes le up

  -- all searches that come to a page from the node's beginning on come there from one page
  pub one-way : (m : Map) → IsTreeOf pages root m → (r : ℕ) (nr : WholeNode) → slice_get pages r ≡ Some (Node nr) → (s l : ℕ) → Goes pages nr.lo s root l → HasNodeAt pages l (λ n. LeadsTo n nr.lo r) → (key : Bytes) (t a : ℕ) → Goes pages key t root a → HasNodeAt pages a (λ n. LeadsTo n key r) → a ≡ l
  one-way m tree r nr there s l goes (nl, at_l, leads) key t a goes' (na, at_a, leads') =
      let got = goes-then pages nr.lo s root l r goes (nl, at_l, leads) in
      let got' = goes-then pages key t root a r goes' (na, at_a, leads') in
      let up = first-low nr.lo (suc s) r got in
      let le = at_most_trans nr.lo (order.first r) key (order.low nr.lo r nr ((suc s, got), there)) (first-low key (suc t) r got') in
      let rises = order.rises key a r na ((t, goes'), at_a) leads' in
      let also = same-way key nr.lo t a goes' (at_most_trans (order.first a) (order.first r) nr.lo rises.0 up) le in
      let turn = same-turn key nr.lo a r na ((t, goes'), at_a) leads' up le in
      let again = goes-then pages nr.lo t root a r also (na, at_a, turn) in
      let (j, found) = tree.comes nr.lo in
      let same : suc t ≡ suc s = met-once pages nr.lo (λ _ n. HasAt nr.lo (at_key m nr.lo) n) j (suc t) (suc s) root r found again got in
      let turns : t ≡ s = omega arith in
      one-place pages nr.lo s root a l (subst (λ i. Goes pages nr.lo i root a) turns also) goes
