-- A search comes to one value at most, and turns one after another are a search.
use Rattle.std.proofs.Common.{◌≡◌, inl, inr, ℕ, zero, suc, List, Option, None, Some, slice_get, refl, sym, ◌∙◌, ap, subst}
use Rattle.std.specs.Option.{option_map}
use Rattle.sled_base.specs.Order.{Bytes}
use Rattle.sled_log.specs.Contents.{Content, Node}
use Rattle.sled_node.specs.Node.{Value, Child, WholeNode, IsInRange}
use Rattle.sled_search.specs.Search.{HasNodeAt, LeadsTo, IsLeafOf, HasAt, Goes, Finds, Comes}

-- ---- turns one after another

pub goes-then : (pages : List Content) (key : Bytes) (turns : ℕ) (from at to : ℕ) → Goes pages key turns from at → HasNodeAt pages at (λ n. LeadsTo n key to) → Goes pages key (suc turns) from to
goes-then pages key zero from at to is leads = (to, subst (λ page. HasNodeAt pages page (λ n. LeadsTo n key to)) (sym is) leads, refl)
goes-then pages key (suc turns) from at to (next, first, rest) leads = (next, first, goes-then pages key turns next at to rest leads)

pub goes-finds : (pages : List Content) (key : Bytes) (Is : ℕ → WholeNode → Type 0) (turns : ℕ) (from leaf : ℕ) → Goes pages key turns from leaf → HasNodeAt pages leaf (λ n. IsLeafOf key n × Is leaf n) → Comes pages key Is from
goes-finds pages key Is zero from leaf is at = (zero, subst (λ page. HasNodeAt pages page (λ n. IsLeafOf key n × Is page n)) (sym is) at)
goes-finds pages key Is (suc turns) from leaf (next, first, rest) at = let (more, found) = goes-finds pages key Is turns next leaf rest at in (suc more, (next, first, found))

-- ---- one value at most

same_value : (a b : Option Bytes) → option_map Value a ≡ option_map Value b → a ≡ b
same_value None None h = refl
same_value None (Some w) h = absurd (let e = h in cc)
same_value (Some v) None h = absurd (let e = h in cc)
same_value (Some v) (Some w) h = let e : Value v ≡ Value w = cc in let f : v ≡ w = cc in ap (λ (bytes : Bytes). Some bytes) f

pub one_turn : (n : WholeNode) (key : Bytes) (a b : ℕ) → LeadsTo n key a → LeadsTo n key b → a ≡ b
one_turn n key a b (inl x) (inl y) = let p = x.2 in let q = y.2 in let e : Child a ≡ Child b = cc in cc
one_turn n key a b (inl x) (inr y) = absurd (y.0 x.1)
one_turn n key a b (inr x) (inl y) = absurd (x.0 y.1)
one_turn n key a b (inr x) (inr y) = let p = x.1 in let q = y.1 in cc

pub no_turn : (n : WholeNode) (key : Bytes) (a : ℕ) → IsLeafOf key n → LeadsTo n key a → ⊥
no_turn n key a leaf (inl x) = let p = leaf.0 in let q = x.0 in cc
no_turn n key a leaf (inr x) = x.0 leaf.1

pub one_node : (pages : List Content) (pid : ℕ) (n m : WholeNode) → slice_get pages pid ≡ Some (Node n) → slice_get pages pid ≡ Some (Node m) → m ≡ n
one_node pages pid n m x y = cc

-- two searches for a key are one
pub found-both : (pages : List Content) (key : Bytes) (Is Is' : ℕ → WholeNode → Type 0) (i j : ℕ) (from : ℕ) → Finds pages key Is i from → Finds pages key Is' j from → Finds pages key (λ pid n. Is pid n × Is' pid n) i from
found-both pages key Is Is' zero zero from (n, at, x) (m, at', y) = (n, at, (x.0, (x.1, (subst (λ (k : WholeNode). IsLeafOf key k × Is' from k) (one_node pages from n m at at') y).1)))
found-both pages key Is Is' zero (suc j) from (n, at, x) (to, (m, at', y), rest) = absurd (no_turn n key to x.0 (subst (λ (k : WholeNode). LeadsTo k key to) (one_node pages from n m at at') y))
found-both pages key Is Is' (suc i) zero from (to, (m, at', y), rest) (n, at, x) = absurd (no_turn n key to x.0 (subst (λ (k : WholeNode). LeadsTo k key to) (one_node pages from n m at at') y))
found-both pages key Is Is' (suc i) (suc j) from (to, (n, at, x), rest) (to', (m, at', y), rest') =
    let same = one_turn n key to to' x (subst (λ (k : WholeNode). LeadsTo k key to') (one_node pages from n m at at') y) in
    (to, (n, at, x), found-both pages key Is Is' i j to rest (subst (λ page. Finds pages key Is' j page) (sym same) rest'))

-- what is so of the leaf that is found
pub found-leaf : (pages : List Content) (key : Bytes) (Is : ℕ → WholeNode → Type 0) (A : Type 0) → ((pid : ℕ) (n : WholeNode) → slice_get pages pid ≡ Some (Node n) → IsLeafOf key n → Is pid n → A) → (i from : ℕ) → Finds pages key Is i from → A
found-leaf pages key Is A then zero from (n, at, x) = then from n at x.0 x.1
found-leaf pages key Is A then (suc i) from (to, (n, at, x), rest) = found-leaf pages key Is A then i to rest

-- what is so of the leaf in another way
pub found-so : (pages : List Content) (key : Bytes) (Is Is' : ℕ → WholeNode → Type 0) → ((pid : ℕ) (n : WholeNode) → slice_get pages pid ≡ Some (Node n) → IsLeafOf key n → Is pid n → Is' pid n) → (i from : ℕ) → Finds pages key Is i from → Finds pages key Is' i from
found-so pages key Is Is' then zero from (n, at, x) = (n, at, (x.0, then from n at x.0 x.1))
found-so pages key Is Is' then (suc i) from (to, (n, at, x), rest) = (to, (n, at, x), found-so pages key Is Is' then i to rest)

-- the leaf that is found, and its node
pub record IsLeaf (pages : List Content) (key : Bytes) (Is : ℕ → WholeNode → Type 0) (turns from : ℕ) : Type 0 where
  pub pid : ℕ
  pub node : WholeNode
  pub there : slice_get pages pid ≡ Some (Node node)
  pub leaf : IsLeafOf key node
  pub is : Is pid node
  pub found : Finds pages key (λ q k. (q ≡ pid) × (k ≡ node)) turns from

pub found-here : (pages : List Content) (key : Bytes) (Is : ℕ → WholeNode → Type 0) (turns from : ℕ) → Finds pages key Is turns from → IsLeaf pages key Is turns from
found-here pages key Is zero from (n, at, x) = record { pid = from; node = n; there = at; leaf = x.0; is = x.1; found = (n, at, (x.0, (refl, refl))) }
found-here pages key Is (suc turns) from (to, first, rest) =
    let it = found-here pages key Is turns to rest in
    record { pid = it.pid; node = it.node; there = it.there; leaf = it.leaf; is = it.is; found = (to, first, it.found) }

pub one_found : (pages : List Content) (key : Bytes) (a b : Option Bytes) (i j : ℕ) (from : ℕ) → Finds pages key (λ _ n. HasAt key a n) i from → Finds pages key (λ _ n. HasAt key b n) j from → a ≡ b
one_found pages key a b i j from x y =
    found-leaf pages key (λ _ n. HasAt key a n × HasAt key b n) (a ≡ b) (λ pid n at leaf both. same_value a b (sym both.0 ∙ both.1)) i from (found-both pages key (λ _ n. HasAt key a n) (λ _ n. HasAt key b n) i j from x y)

-- the node on the page of the leaf that is found is that leaf
pub leaf-there : (pages : List Content) (key : Bytes) (p : ℕ) (n : WholeNode) → slice_get pages p ≡ Some (Node n) → (i from : ℕ) → Finds pages key (λ pid k. (pid ≡ p) × IsInRange k key) i from → IsLeafOf key n
leaf-there pages key p n was i from x =
    found-leaf pages key (λ pid k. (pid ≡ p) × IsInRange k key) (IsLeafOf key n) (λ pid k at of is. subst (λ (w : WholeNode). IsLeafOf key w) (one_node pages p n k was (subst (λ q. slice_get pages q ≡ Some (Node k)) is.0 at)) of) i from x
