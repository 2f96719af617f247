-- A search that comes to a leaf meets no page twice, so it takes fewer turns than there are pages.
use Rattle.std.proofs.Common.{◌≡◌, ◌≢◌, ◌⊎◌, inl, inr, ℕ, zero, suc, ◌<◌, ◌≤◌, ◌+◌, true, false, List, [], ◌∷◌, length, refl, sym, ap, subst, arith}
use Rattle.std.proofs.Math.Dec.{eqb}
use Rattle.std.proofs.lemmas.Bool.Decides.{eqb_tells}
use Rattle.std.proofs.lemmas.Map.Keys.{IsDistinct-cons}
use Rattle.std.proofs.lemmas.Map.Steps.{length-le_from_distinct_below}
use Rattle.std.proofs.lemmas.Option.{slice_get_within}
use Rattle.std.specs.List.{AllByRecursion, IsDistinct, list_any}
use Rattle.std.specs.Prelude.{⊤}
use Rattle.sled_base.specs.Order.{Bytes}
use Rattle.sled_log.specs.Contents.{Content, Node}
use Rattle.sled_node.specs.Node.{WholeNode}
use Rattle.sled_search.specs.Routes.{IsAstray}
use Rattle.sled_search.specs.Search.{HasNodeAt, LeadsTo, IsLeafOf, Goes, Finds}
use Rattle.sled_search.proofs.Pairs.{all-weaker}
use Rattle.sled_search.proofs.Search.{no_turn, one_node, one_turn}

pub apart : (from page : ℕ) → (from ≢ page) → eqb from page ≡ false
apart from page other = by (eqb_tells from page)
  where
    by : ((eqb from page ≡ true) × (from ≡ page)) ⊎ ((eqb from page ≡ false) × (from ≢ page)) → eqb from page ≡ false
    by (inl same) = absurd (other same.1)
    by (inr differ) = differ.0

pub none-distinct : IsDistinct eqb []
unfolding IsDistinct
none-distinct = tt

module _ (pages : List Content) (key : Bytes) (Is : ℕ → WholeNode → Type 0) where
  -- what is left of a search behind some of its turns
  pub rest-of : (i j from at : ℕ) → Goes pages key i from at → Finds pages key Is j from → (k : ℕ) × (i + k ≡ j) × Finds pages key Is k at
  rest-of zero j from at is found = (j, omega arith, subst (λ page. Finds pages key Is j page) is found)
  rest-of (suc i) zero from at (to, (n, there, leads), rest) (m, there', x) = absurd (no_turn m key to x.0 (subst (λ (w : WholeNode). LeadsTo w key to) (one_node pages from m n there' there) leads))
  rest-of (suc i) (suc j) from at (to, (n, there, leads), rest) (to', (m, there', leads'), rest') =
      let same : to' ≡ to = one_turn n key to' to (subst (λ (w : WholeNode). LeadsTo w key to') (one_node pages from n m there there') leads') leads in
      let (k, sum, found) = rest-of i j to at rest (subst (λ page. Finds pages key Is j page) same rest') in
      (k, omega arith, found)

  -- where a search is, there is a node, which is a leaf of the key or leads it on
  pub found-node : (turns from : ℕ) → Finds pages key Is turns from → HasNodeAt pages from (λ _. ⊤)
  found-node zero from (n, there, x) = (n, there, tt)
  found-node (suc turns) from (to, (n, there, x), rest) = (n, there, tt)

  pub found-not-astray : (turns from : ℕ) → Finds pages key Is turns from → HasNodeAt pages from (IsAstray key) → ⊥
  found-not-astray zero from (n, there, x) (k, there', astray) = astray.0 (subst (λ (w : WholeNode). IsLeafOf key w) (one_node pages from k n there' there) x.0)
  found-not-astray (suc turns) from (to, (n, there, x), rest) (k, there', astray) = astray.1 to (subst (λ (w : WholeNode). LeadsTo w key to) (one_node pages from k n there' there) x)

  -- a search from a page takes so many turns and no others
  as-many : (i j from : ℕ) → Finds pages key Is i from → Finds pages key Is j from → i ≡ j
  as-many zero zero from x y = refl
  as-many zero (suc j) from (m, there', x) (to, (n, there, leads), rest) = absurd (no_turn m key to x.0 (subst (λ (w : WholeNode). LeadsTo w key to) (one_node pages from m n there' there) leads))
  as-many (suc i) zero from (to, (n, there, leads), rest) (m, there', x) = absurd (no_turn m key to x.0 (subst (λ (w : WholeNode). LeadsTo w key to) (one_node pages from m n there' there) leads))
  as-many (suc i) (suc j) from (to, (n, there, leads), rest) (to', (m, there', leads'), rest') =
      let same : to' ≡ to = one_turn n key to' to (subst (λ (w : WholeNode). LeadsTo w key to') (one_node pages from n m there there') leads') leads in
      ap suc (as-many i j to rest (subst (λ page. Finds pages key Is j page) same rest'))

  -- the pages that it meets
  abbrev path : (turns from : ℕ) → Finds pages key Is turns from → List ℕ
  path zero from found = from ∷ []
  path (suc turns) from (to, first, rest) = from ∷ path turns to rest

  path-length : (turns from : ℕ) (found : Finds pages key Is turns from) → length (path turns from found) ≡ suc turns
  path-length zero from found = refl
  path-length (suc turns) from (to, first, rest) = ap suc (path-length turns to rest)

  path-within : (turns from : ℕ) (found : Finds pages key Is turns from) → AllByRecursion (λ page. page < length pages) (path turns from found)
  path-within zero from (n, there, x) = (slice_get_within pages from (Node n) there, tt)
  path-within (suc turns) from (to, (n, there, x), rest) = (slice_get_within pages from (Node n) there, path-within turns to rest)

  path-goes : (turns from : ℕ) (found : Finds pages key Is turns from) → AllByRecursion (λ page. (i : ℕ) × Goes pages key i from page) (path turns from found)
  path-goes zero from found = ((zero, refl), tt)
  path-goes (suc turns) from (to, first, rest) = ((zero, refl), all-weaker (λ page. (i : ℕ) × Goes pages key i to page) (λ page. (i : ℕ) × Goes pages key i from page) (λ page goes. (suc goes.0, (to, first, goes.1))) (path turns to rest) (path-goes turns to rest))

  no-return : (turns from : ℕ) → Finds pages key Is turns from → (i : ℕ) → Goes pages key (suc i) from from → ⊥
  no-return turns from found i goes =
      let (k, sum, again) = rest-of (suc i) turns from from goes found in
      let same : k ≡ turns = as-many k turns from again found in
      absurd (omega arith)

  path-distinct : (turns from : ℕ) (found : Finds pages key Is turns from) → IsDistinct eqb (path turns from found)
  path-distinct zero from found = IsDistinct-cons eqb from [] tt none-distinct
  path-distinct (suc turns) from (to, first, rest) =
      IsDistinct-cons eqb from (path turns to rest)
      (all-weaker (λ page. (i : ℕ) × Goes pages key i to page) (λ page. eqb from page ≡ false) (λ page goes. apart from page (λ same. no-return (suc turns) from (to, first, rest) goes.0 (to, first, subst (λ q. Goes pages key goes.0 to q) (sym same) goes.1))) (path turns to rest) (path-goes turns to rest))
      (path-distinct turns to rest)

-- in a tree a page is met behind one number of turns
pub met-once : (pages : List Content) (key : Bytes) (Is : ℕ → WholeNode → Type 0) (turns i j root at : ℕ) → Finds pages key Is turns root → Goes pages key i root at → Goes pages key j root at → i ≡ j
met-once pages key Is turns i j root at found goes goes' =
    let (k, sum, rest) = rest-of pages key Is i turns root at goes found in
    let (k', sum', rest') = rest-of pages key Is j turns root at goes' found in
    let same : k ≡ k' = as-many pages key Is k k' at rest rest' in
    omega arith

any-below : (xs : List ℕ) (n q : ℕ) → AllByRecursion (λ x. x < n) xs → list_any (eqb q) xs ≡ true → q < n
any-below [] n q all h = absurd (let e = h in cc)
any-below (x ∷ xs) n q all h = by (any-below xs n q all.1) (eqb_tells q x)
  where
    by : (list_any (eqb q) xs ≡ true → q < n) → ((eqb q x ≡ true) × (q ≡ x)) ⊎ ((eqb q x ≡ false) × (q ≢ x)) → q < n
    by rest (inl same) = let lt = all.0 in let e = same.1 in omega arith
    by rest (inr differ) = rest (rw differ.0 at h)

-- pages of which none comes twice are at most as many as there are
pub few-pages : (pages : List Content) (xs : List ℕ) → IsDistinct eqb xs → AllByRecursion (λ x. x < length pages) xs → length xs ≤ length pages
few-pages pages xs distinct within = length-le_from_distinct_below xs (length pages) distinct (λ q. any-below xs (length pages) q within)

pub few-turns : (pages : List Content) (key : Bytes) (Is : ℕ → WholeNode → Type 0) (turns from : ℕ) → Finds pages key Is turns from → turns < length pages
few-turns pages key Is turns from found =
    let few = few-pages pages (path pages key Is turns from found) (path-distinct pages key Is turns from found) (path-within pages key Is turns from found) in
    let long = path-length pages key Is turns from found in
    omega (arith, few, long)
