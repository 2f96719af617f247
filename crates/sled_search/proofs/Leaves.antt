-- Leaves in a row, up or down, are pages of which none comes twice.
use Rattle.std.proofs.Common.{◌≡◌, ◌≢◌, ◌⊎◌, inl, inr, ℕ, zero, suc, ◌<◌, ◌≤◌, true, false, List, [], ◌∷◌, Some, length, slice_get, refl, sym, ap, subst}
use Rattle.std.proofs.Math.Dec.{eqb}
use Rattle.std.proofs.lemmas.Map.Keys.{IsDistinct-cons}
use Rattle.std.proofs.lemmas.Option.{slice_get_within}
use Rattle.std.specs.List.{AllByRecursion, IsDistinct}
use Rattle.std.specs.declared.ops.Bound.{Bound}
use Rattle.std.specs.declared.ops.Bound.TheVariants.{Included, Excluded}
use Rattle.sled_base.specs.Order.{Bytes, IsBelow, IsAtMost}
use Rattle.sled_base.specs.OrderLaws.{below_is_at_most, at_most_trans, below_trans, not_below_itself}
use Rattle.sled_log.specs.Contents.{Content, Node}
use Rattle.sled_node.specs.Node.{WholeNode, IsInRange}
use Rattle.sled_search.specs.Ordered.{start_of, HasBefore, IsLeafBefore, GoesBefore, GoesUp, GoesDown}
use Rattle.sled_search.specs.Search.{HasNodeAt, ComesToLeafOf}
use Rattle.sled_search.proofs.Pairs.{all-weaker}
use Rattle.sled_search.proofs.Paths.{apart, few-pages, none-distinct}
use Rattle.sled_search.proofs.Search.{leaf-there, one_node}

-- what is so of the nodes of all pages, in another way
nodes-weaker : (pages : List Content) (P Q : WholeNode → Type 0) → ((n : WholeNode) → P n → Q n) → (xs : List ℕ) → AllByRecursion (λ page. HasNodeAt pages page P) xs → AllByRecursion (λ page. HasNodeAt pages page Q) xs
nodes-weaker pages P Q so xs all = all-weaker (λ page. HasNodeAt pages page P) (λ page. HasNodeAt pages page Q) (λ page at. (at.0, at.1, so at.0 at.2)) xs all

all-within : (pages : List Content) (P : WholeNode → Type 0) (xs : List ℕ) → AllByRecursion (λ page. HasNodeAt pages page P) xs → AllByRecursion (λ page. page < length pages) xs
all-within pages P xs all = all-weaker (λ page. HasNodeAt pages page P) (λ page. page < length pages) (λ page at. slice_get_within pages page (Node at.0) at.1) xs all

-- a page whose node is not so is none of these
not-among : (pages : List Content) (P : WholeNode → Type 0) (leaf : ℕ) (n : WholeNode) → slice_get pages leaf ≡ Some (Node n) → (P n → ⊥) → (xs : List ℕ) → AllByRecursion (λ page. HasNodeAt pages page P) xs → AllByRecursion (λ page. eqb leaf page ≡ false) xs
not-among pages P leaf n there not xs all = all-weaker (λ page. HasNodeAt pages page P) (λ page. eqb leaf page ≡ false) (λ page at. apart leaf page (λ same. not (subst (λ (w : WholeNode). P w) (one_node pages leaf n at.0 there (subst (λ q. slice_get pages q ≡ Some (Node at.0)) (sym same) at.1)) at.2))) xs all

module _ (pages : List Content) (root : ℕ) where
  -- ---- up

  abbrev up-list : (leaves : ℕ) (from to : Bound Bytes) → GoesUp pages root from leaves to → List ℕ
  up-list zero from to is = []
  up-list (suc leaves) from to (leaf, comes, at) = leaf ∷ up-list leaves (Included at.0.hi) to at.2.1

  -- it has a key in its range that isn't below this one
  abbrev HasFrom : Bytes → WholeNode → Type 0
  HasFrom key n = (other : Bytes) × IsAtMost key other × IsInRange n other

  up-range : (from : Bound Bytes) (leaf : ℕ) (n : WholeNode) → ComesToLeafOf pages (start_of from) (start_of from) leaf root → slice_get pages leaf ≡ Some (Node n) → IsInRange n (start_of from)
  up-range from leaf n comes there = let (i, x) = comes in (leaf-there pages (start_of from) leaf n there i root x).1

  up-from : (leaves : ℕ) (from to : Bound Bytes) (goes : GoesUp pages root from leaves to) → AllByRecursion (λ page. HasNodeAt pages page (HasFrom (start_of from))) (up-list leaves from to goes)
  up-from zero from to is = tt
  up-from (suc leaves) from to (leaf, comes, (n, there, (some, rest))) =
      let range = up-range from leaf n comes there in
      ((n, there, (start_of from, not_below_itself (start_of from), range)), nodes-weaker pages (HasFrom n.hi) (HasFrom (start_of from)) (λ k has. (has.0, at_most_trans (start_of from) n.hi has.0 (below_is_at_most (start_of from) n.hi (range.1 some)) has.1, has.2)) (up-list leaves (Included n.hi) to rest) (up-from leaves (Included n.hi) to rest))

  up-distinct : (leaves : ℕ) (from to : Bound Bytes) (goes : GoesUp pages root from leaves to) → IsDistinct eqb (up-list leaves from to goes)
  up-distinct zero from to is = none-distinct
  up-distinct (suc leaves) from to (leaf, comes, (n, there, (some, rest))) =
      IsDistinct-cons eqb leaf (up-list leaves (Included n.hi) to rest)
      (not-among pages (HasFrom n.hi) leaf n there (λ has. has.1 (has.2.1 some)) (up-list leaves (Included n.hi) to rest) (up-from leaves (Included n.hi) to rest))
      (up-distinct leaves (Included n.hi) to rest)

  up-length : (leaves : ℕ) (from to : Bound Bytes) (goes : GoesUp pages root from leaves to) → length (up-list leaves from to goes) ≡ leaves
  up-length zero from to is = refl
  up-length (suc leaves) from to (leaf, comes, (n, there, (some, rest))) = ap suc (up-length leaves (Included n.hi) to rest)

  pub few-up : (leaves : ℕ) (from to : Bound Bytes) → GoesUp pages root from leaves to → leaves ≤ length pages
  few-up leaves from to goes = subst (λ k. k ≤ length pages) (up-length leaves from to goes) (few-pages pages (up-list leaves from to goes) (up-distinct leaves from to goes) (all-within pages (HasFrom (start_of from)) (up-list leaves from to goes) (up-from leaves from to goes)))

  pub up-then : (leaves leaf : ℕ) (from to : Bound Bytes) → GoesUp pages root from leaves to → ComesToLeafOf pages (start_of to) (start_of to) leaf root → (n : WholeNode) → slice_get pages leaf ≡ Some (Node n) → n.hi ≢ [] → GoesUp pages root from (suc leaves) (Included n.hi)
  up-then zero leaf from to is comes n there some = (leaf, subst (λ (b : Bound Bytes). ComesToLeafOf pages (start_of b) (start_of b) leaf root) (sym is) comes, (n, there, (some, refl)))
  up-then (suc leaves) leaf from to (first, here, (k, at, (more, rest))) comes n there some = (first, here, (k, at, (more, up-then leaves leaf (Included k.hi) to rest comes n there some)))

  -- ---- down

  abbrev down-list : (leaves : ℕ) (from to : Bound Bytes) → GoesDown pages root from leaves to → List ℕ
  down-list zero from to is = []
  down-list (suc leaves) from to (leaf, goes, at) = leaf ∷ down-list leaves (Excluded at.0.lo) to at.2.2

  -- it begins below the key
  abbrev BeginsBelow : Bytes → WholeNode → Type 0
  BeginsBelow key n = IsBelow n.lo key

  low-below : (key : Bytes) (n : WholeNode) → HasBefore (Excluded key) n → n.lo ≢ [] → IsBelow n.lo key
  low-below key n has some = by has.1
    where
      by : IsBelow n.lo key ⊎ ((false ≡ true) × (n.lo ≡ key)) ⊎ (n.lo ≡ []) → IsBelow n.lo key
      by (inl lt) = lt
      by (inr (inl never)) = absurd (let e = never.0 in cc)
      by (inr (inr none)) = absurd (some none)

  down-from : (leaves : ℕ) (key : Bytes) (to : Bound Bytes) (goes : GoesDown pages root (Excluded key) leaves to) → AllByRecursion (λ page. HasNodeAt pages page (BeginsBelow key)) (down-list leaves (Excluded key) to goes)
  down-from zero key to is = tt
  down-from (suc leaves) key to (leaf, goes, (n, there, (has, some, rest))) =
      let lt = low-below key n has.1 some in
      ((n, there, lt), nodes-weaker pages (BeginsBelow n.lo) (BeginsBelow key) (λ k low. below_trans k.lo n.lo key low lt) (down-list leaves (Excluded n.lo) to rest) (down-from leaves n.lo to rest))

  down-nodes : (leaves : ℕ) (from to : Bound Bytes) (goes : GoesDown pages root from leaves to) → AllByRecursion (λ page. HasNodeAt pages page (λ n. n.lo ≢ [])) (down-list leaves from to goes)
  down-nodes zero from to is = tt
  down-nodes (suc leaves) from to (leaf, goes, (n, there, (has, some, rest))) = ((n, there, some), down-nodes leaves (Excluded n.lo) to rest)

  down-distinct : (leaves : ℕ) (from to : Bound Bytes) (goes : GoesDown pages root from leaves to) → IsDistinct eqb (down-list leaves from to goes)
  down-distinct zero from to is = none-distinct
  down-distinct (suc leaves) from to (leaf, goes, (n, there, (has, some, rest))) =
      IsDistinct-cons eqb leaf (down-list leaves (Excluded n.lo) to rest)
      (not-among pages (BeginsBelow n.lo) leaf n there (λ low. not_below_itself n.lo low) (down-list leaves (Excluded n.lo) to rest) (down-from leaves n.lo to rest))
      (down-distinct leaves (Excluded n.lo) to rest)

  down-length : (leaves : ℕ) (from to : Bound Bytes) (goes : GoesDown pages root from leaves to) → length (down-list leaves from to goes) ≡ leaves
  down-length zero from to is = refl
  down-length (suc leaves) from to (leaf, goes, (n, there, (has, some, rest))) = ap suc (down-length leaves (Excluded n.lo) to rest)

  pub few-down : (leaves : ℕ) (from to : Bound Bytes) → GoesDown pages root from leaves to → leaves ≤ length pages
  few-down leaves from to goes = subst (λ k. k ≤ length pages) (down-length leaves from to goes) (few-pages pages (down-list leaves from to goes) (down-distinct leaves from to goes) (all-within pages (λ n. n.lo ≢ []) (down-list leaves from to goes) (down-nodes leaves from to goes)))

  pub down-then : (leaves turns leaf : ℕ) (from to : Bound Bytes) → GoesDown pages root from leaves to → GoesBefore pages to turns root leaf → (n : WholeNode) → slice_get pages leaf ≡ Some (Node n) → IsLeafBefore to n → n.lo ≢ [] → GoesDown pages root from (suc leaves) (Excluded n.lo)
  down-then zero turns leaf from to is goes n there has some = (leaf, (turns, subst (λ (b : Bound Bytes). GoesBefore pages b turns root leaf) (sym is) goes), (n, there, (subst (λ (b : Bound Bytes). IsLeafBefore b n) (sym is) has, some, refl)))
  down-then (suc leaves) turns leaf from to (first, before, (k, at, (here, more, rest))) goes n there has some = (first, before, (k, at, (here, more, down-then leaves turns leaf (Excluded k.lo) to rest goes n there has some)))
