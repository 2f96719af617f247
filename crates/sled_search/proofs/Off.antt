-- A page that no search from a root is at may be changed, and the tree of that root stays.
use Rattle.std.proofs.Common.{◌≡◌, ◌≢◌, ◌⊎◌, inl, inr, ℕ, zero, suc, ◌<◌, arith, ◌==◌, true, false, List, [], ◌∷◌, ◌++◌, Some, length, slice_get, slice_set, slice_index_or, refl, sym, ◌∙◌, ap, subst, cond}
use Rattle.std.proofs.lemmas.Bool.Decides.{eqb_tells}
use Rattle.std.proofs.lemmas.Option.{slice_get_within}
use Rattle.sled_base.proofs.LinkedLists.Linking.{get_set_other}
use Rattle.sled_base.specs.Order.{Bytes}
use Rattle.sled_log.specs.Contents.{Content, Free, Node, Update, Put, Link, after_link, contents_from}
use Rattle.sled_log.specs.Events.{Change}
use Rattle.sled_node.specs.Node.{WholeNode}
use Rattle.sled_search.specs.Map.{Map, at_key}
use Rattle.sled_search.specs.Maps.{Maps, Reaches, AreTrees, IsOff, ChangesOne}
use Rattle.sled_search.specs.Orderly.{IsAt, IsOrderly}
use Rattle.sled_search.specs.Search.{HasNodeAt, LeadsTo, IsLeafOf, HasAt, Goes, Finds, Comes, IsTreeOf}
use Rattle.sled_search.proofs.Orders.{same-order}
use Rattle.sled_search.proofs.Paths.{rest-of, found-node}
use Rattle.sled_search.proofs.Search.{goes-then}
use Rattle.sled_search.proofs.Trees.{covers-stay}

-- what a page has that stays
pub node-stays : (pages changed : List Content) (p : ℕ) → ChangesOne pages p changed → (from : ℕ) → from ≢ p → (Is : WholeNode → Type 0) → HasNodeAt pages from Is → HasNodeAt changed from Is
node-stays pages changed p one from other Is (n, there, is) = (n, one from other ∙ there, is)

pub node-was : (pages changed : List Content) (p : ℕ) → ChangesOne pages p changed → (from : ℕ) → from ≢ p → (Is : WholeNode → Type 0) → HasNodeAt changed from Is → HasNodeAt pages from Is
node-was pages changed p one from other Is (n, there, is) = (n, sym (one from other) ∙ there, is)

-- a search goes as before up to the page that is changed
pub goes-up_to : (pages changed : List Content) (p : ℕ) → ChangesOne pages p changed → (key : Bytes) (turns from at : ℕ) → Goes pages key turns from at → ((i : ℕ) → i < turns → Goes pages key i from p → ⊥) → Goes changed key turns from at
goes-up_to pages changed p one key zero from at is away = is
goes-up_to pages changed p one key (suc turns) from at (next, first, rest) away =
    (next, node-stays pages changed p one from (λ same. away zero (omega arith) same) (λ n. LeadsTo n key next) first, goes-up_to pages changed p one key turns next at rest (λ i lt goes. away (suc i) (omega arith) (next, first, goes)))

module _ (pages changed : List Content) (p : ℕ) (one : ChangesOne pages p changed) (root : ℕ) (off : Reaches pages root p → ⊥) where
  not-there : (key : Bytes) (s from : ℕ) → Goes pages key s root from → from ≢ p
  not-there key s from goes is = off (key, s, subst (λ page. Goes pages key s root page) is goes)

  finds-on : (key : Bytes) (Is : ℕ → WholeNode → Type 0) (s t from : ℕ) → Goes pages key s root from → Finds pages key Is t from → Finds changed key Is t from
  finds-on key Is s zero from goes found = node-stays pages changed p one from (not-there key s from goes) (λ n. IsLeafOf key n × Is from n) found
  finds-on key Is s (suc t) from goes (to, first, rest) = (to, node-stays pages changed p one from (not-there key s from goes) (λ n. LeadsTo n key to) first, finds-on key Is (suc s) t to (goes-then pages key s root from to goes first) rest)

  pub off-kept : (key : Bytes) (Is : ℕ → WholeNode → Type 0) → Comes pages key Is root → Comes changed key Is root
  off-kept key Is (t, found) = (t, finds-on key Is zero t root refl found)

  goes-back : (key : Bytes) (s t from to : ℕ) → Goes pages key s root from → Goes changed key t from to → Goes pages key t from to
  goes-back key s zero from to goes is = is
  goes-back key s (suc t) from to goes (next, first, rest) =
      let was = node-was pages changed p one from (not-there key s from goes) (λ n. LeadsTo n key next) first in
      (next, was, goes-back key (suc s) t next to (goes-then pages key s root from next goes was) rest)

  pub off-reaches : (page : ℕ) → Reaches changed root page → Reaches pages root page
  off-reaches page (key, t, goes) = (key, t, goes-back key zero t root page refl goes)

  pub off-tree : (m : Map) → IsTreeOf pages root m → IsTreeOf changed root m
  off-tree m tree = record {
    ascending = tree.ascending;
    comes = λ key. off-kept key (λ _ n. HasAt key (at_key m key) n) (tree.comes key);
    covers = covers-stay pages changed root m tree (λ key J found. off-kept key (λ pid n. J pid n.lo n.hi) found);
  }

  off-at : (key : Bytes) (page : ℕ) (n : WholeNode) → IsAt changed root key page n → IsAt pages root key page n
  off-at key page n ((t, goes), there) =
      let was = goes-back key zero t root page refl goes in
      ((t, was), sym (one page (not-there key t page was)) ∙ there)

  pub off-order : IsOrderly pages root → IsOrderly changed root
  off-order order = same-order pages changed root off-at order

-- of all trees
pub all-off : (pages changed : List Content) (maps : Maps) (p : ℕ) → AreTrees pages maps → IsOff pages maps p → ChangesOne pages p changed → AreTrees changed maps
all-off pages changed maps p trees off one = record {
  each = λ root m is. off-tree pages changed p one root (off root (m, is)) m (trees.each root m is);
  apart = λ a b has has' other page x y. trees.apart a b has has' other page (off-reaches pages changed p one a (off a has) page x) (off-reaches pages changed p one b (off b has') page y);
  orderly = λ root has. off-order pages changed p one root (off root has) (trees.orderly root has);
}

pub stays-off : (pages changed : List Content) (maps : Maps) (p : ℕ) → IsOff pages maps p → ChangesOne pages p changed → (page : ℕ) → IsOff pages maps page → IsOff changed maps page
stays-off pages changed maps p off one page page_off root has reaches = page_off root has (off-reaches pages changed p one root (off root has) page reaches)

-- a search is at pages with nodes alone
pub no-node-off : (pages : List Content) (maps : Maps) (p : ℕ) → AreTrees pages maps → ((n : WholeNode) → slice_get pages p ≡ Some (Node n) → ⊥) → IsOff pages maps p
no-node-off pages maps p trees none root (m, is) (key, turns, goes) =
    let tree = trees.each root m is in
    let (j, found) = tree.comes key in
    let (k, sum, rest) = rest-of pages key (λ _ n. HasAt key (at_key m key) n) turns j root p goes found in
    let (n, there, so) = found-node pages key (λ _ n. HasAt key (at_key m key) n) k p rest in
    none n there

-- ---- a change is of one page

pushed-other : (xs : List Content) (x : Content) (pid : ℕ) → pid ≢ length xs → slice_get (xs ++ x ∷ []) pid ≡ slice_get xs pid
pushed-other [] x zero other = absurd (other refl)
pushed-other [] x (suc pid) other = refl
pushed-other (y ∷ xs) x zero other = refl
pushed-other (y ∷ xs) x (suc pid) other = pushed-other xs x pid (λ e. other (ap suc e))

pub one-changes : (pages : List Content) (id : ℕ) (update : Update) → ChangesOne pages id (contents_from pages (Change id update))
one-changes pages id (Put content) = λ pid other. by (eqb_tells id (length pages)) pid other
  where
    by : ((id == length pages ≡ true) × (id ≡ length pages)) ⊎ ((id == length pages ≡ false) × (id ≢ length pages)) → (pid : ℕ) → pid ≢ id → slice_get (cond (id == length pages) (pages ++ content ∷ []) (slice_set pages id content)) pid ≡ slice_get pages pid
    by (inl same) pid other = rw same.0 (pushed-other pages content pid (λ e. other (e ∙ sym same.1)))
    by (inr differ) pid other = rw differ.0 (get_set_other pages id pid content (λ e. other (sym e)))
one-changes pages id (Link link) = λ pid other. get_set_other pages id pid (after_link link (slice_index_or pages id Free)) (λ e. other (sym e))

set-same : (xs : List Content) (i : ℕ) (x : Content) → slice_get xs i ≡ Some x → slice_set xs i x ≡ xs
set-same [] i x there = absurd (let e = there in cc)
set-same (y ∷ xs) zero x there = let e : y ≡ x = cc in ap (λ z. z ∷ xs) (sym e)
set-same (y ∷ xs) (suc i) x there = ap (λ zs. y ∷ zs) (set-same xs i x there)

-- a page that is written again
pub same-again : (pages : List Content) (id : ℕ) (content : Content) → slice_get pages id ≡ Some content → contents_from pages (Change id (Put content)) ≡ pages
same-again pages id content there = by (eqb_tells id (length pages))
  where
    by : ((id == length pages ≡ true) × (id ≡ length pages)) ⊎ ((id == length pages ≡ false) × (id ≢ length pages)) → cond (id == length pages) (pages ++ content ∷ []) (slice_set pages id content) ≡ pages
    by (inl same) = let lt = slice_get_within pages id content there in let e = same.1 in absurd (omega arith)
    by (inr differ) = rw differ.0 (set-same pages id content there)
