-- Where a search for the keys right before a bound goes, each search for such a key goes from some key on.
use Rattle.std.proofs.Common.{◌≡◌, ◌≢◌, ◌⊎◌, inl, inr, ℕ, zero, suc, true, false, List, [], ◌∷◌, refl, sym, ◌∙◌, subst}
use Rattle.std.specs.List.{AllByRecursion}
use Rattle.std.specs.declared.ops.Bound.{Bound}
use Rattle.std.specs.declared.ops.Bound.TheVariants.{Included, Excluded, Unbounded}
use Rattle.sled_base.specs.Order.{Bytes, bytes_cmp, IsBelow, IsAtMost}
use Rattle.sled_base.specs.OrderLaws.{below_is_at_most, at_most_below_trans, at_most_trans, not_below_itself}
use Rattle.sled_log.specs.Contents.{Content}
use Rattle.sled_node.specs.Neighbours.{IsBefore}
use Rattle.sled_node.specs.Node.{WholeNode, IsInRange}
use Rattle.sled_search.specs.Map.{leading}
use Rattle.sled_search.specs.Ordered.{is_before, HasBefore, last_before, LeadsBefore, GoesBefore}
use Rattle.sled_search.specs.Search.{HasNodeAt, LeadsTo, Goes}
use Rattle.sled_search.proofs.Above.{empty-or-not}
use Rattle.sled_search.proofs.Leading.{lt-true, lt-false}
use Rattle.sled_search.proofs.Pairs.{all-weaker}
use Rattle.sled_search.proofs.Splits.{side, below_at_most}

-- ---- bounds

-- a key is before a bound, or above all that are
abbrev pub IsDecided : Bound Bytes → Bytes → Type 0
IsDecided bound key = ((is_before bound key ≡ true) × IsBefore bound key) ⊎ ((is_before bound key ≡ false) × ((x : Bytes) → IsBefore bound x → IsBelow x key))

pub decide : (bound : Bound Bytes) (key : Bytes) → IsDecided bound key
decide (Included b) key = by (side b key)
  where
    by : IsBelow b key ⊎ IsAtMost key b → IsDecided (Included b) key
    by (inl lt) = inr (rw (lt-true (bytes_cmp b key) lt) refl, λ x le. at_most_below_trans x b key le lt)
    by (inr le) = inl (rw (lt-false (bytes_cmp b key) le) refl, le)
decide (Excluded b) key = by (side key b)
  where
    by : IsBelow key b ⊎ IsAtMost b key → IsDecided (Excluded b) key
    by (inl lt) = inl (lt-true (bytes_cmp key b) lt, lt)
    by (inr le) = inr (lt-false (bytes_cmp key b) le, λ x lt. below_at_most x b key lt le)
decide Unbounded key = inl (refl, tt)

pub before-down : (bound : Bound Bytes) (s x : Bytes) → IsBefore bound s → IsAtMost x s → IsBefore bound x
before-down (Included b) s x h le = at_most_trans x s b le h
before-down (Excluded b) s x h le = at_most_below_trans x s b le h
before-down Unbounded s x h le = tt

-- the higher of two
pub higher : (P : Bytes → Type 0) (a b : Bytes) → P a → P b → (c : Bytes) × IsAtMost a c × IsAtMost b c × P c
higher P a b pa pb = by (side a b)
  where
    by : IsBelow a b ⊎ IsAtMost b a → (c : Bytes) × IsAtMost a c × IsAtMost b c × P c
    by (inl lt) = (b, below_is_at_most a b lt, not_below_itself b, pb)
    by (inr le) = (a, not_below_itself a, le, pa)

-- ---- which child leads

module _ {V : Type 0} (bound : Bound Bytes) where
  -- no key before the bound is above this one
  abbrev IsTop : Bytes → List (Bytes × V) → Type 0
  IsTop y pairs = AllByRecursion (λ pair. IsBefore bound pair.0 → IsAtMost pair.0 y) pairs

  pub top-from : (y x : Bytes) → IsAtMost y x → (pairs : List (Bytes × V)) → IsTop y pairs → IsTop x pairs
  top-from y x le pairs all = all-weaker (λ pair. IsBefore bound pair.0 → IsAtMost pair.0 y) (λ pair. IsBefore bound pair.0 → IsAtMost pair.0 x) (λ pair h before. at_most_trans pair.0 y x (h before) le) pairs all

  pub tops : IsBefore bound [] → (pairs : List (Bytes × V)) → (y : Bytes) × IsBefore bound y × IsTop y pairs
  tops some [] = ([], some, tt)
  tops some (pair ∷ pairs) = let (y, before, all) = tops some pairs in by y before all (decide bound pair.0)
    where
      by : (y : Bytes) → IsBefore bound y → IsTop y pairs → IsDecided bound pair.0 → (c : Bytes) × IsBefore bound c × IsTop c (pair ∷ pairs)
      by y before all (inl here) = let (c, le, le', so) = higher (IsBefore bound) pair.0 y here.1 before in (c, so, (λ _. le, top-from y c le' pairs all))
      by y before all (inr above) = (y, before, (λ h. absurd (not_below_itself pair.0 (above.1 pair.0 h)), all))

  pub same-lead : (x : Bytes) → IsBefore bound x → (pairs : List (Bytes × V)) → IsTop x pairs → leading pairs x ≡ last_before pairs bound
  same-lead x before [] all = refl
  same-lead x before (pair ∷ pairs) all = by (same-lead x before pairs all.1) (decide bound pair.0)
    where
      by : leading pairs x ≡ last_before pairs bound → IsDecided bound pair.0 → leading (pair ∷ pairs) x ≡ last_before (pair ∷ pairs) bound
      by rest (inl here) = rw (rest, lt-false (bytes_cmp x pair.0) (all.0 here.1), here.0) refl
      by rest (inr above) = rw (rest, lt-true (bytes_cmp x pair.0) (above.1 x before), above.0) refl

-- ---- ranges

-- the keys before the bound from lo on are in the range
pub inside : (bound : Bound Bytes) (n : WholeNode) (x : Bytes) → HasBefore bound n → IsAtMost n.lo x → IsBefore bound x → IsInRange n x
inside (Included b) n x has low before = (low, λ some. by some has.0)
  where
    by : n.hi ≢ [] → IsBelow b n.hi ⊎ (n.hi ≡ []) → IsBelow x n.hi
    by some (inl lt) = at_most_below_trans x b n.hi before lt
    by some (inr none) = absurd (some none)
inside (Excluded b) n x has low before = (low, λ some. by some has.0)
  where
    by : n.hi ≢ [] → IsAtMost b n.hi ⊎ (n.hi ≡ []) → IsBelow x n.hi
    by some (inl le) = below_at_most x b n.hi before le
    by some (inr none) = absurd (some none)
inside Unbounded n x has low before = (low, λ some. absurd (some has.0))

pub low-before : (bound : Bound Bytes) (n : WholeNode) → IsBefore bound [] → HasBefore bound n → IsBefore bound n.lo
low-before (Included b) n some has = has.1
low-before (Excluded b) n some has = by has.1
  where
    by : IsBelow n.lo b ⊎ ((false ≡ true) × (n.lo ≡ b)) ⊎ (n.lo ≡ []) → IsBelow n.lo b
    by (inl lt) = lt
    by (inr (inl never)) = absurd (let e = never.0 in cc)
    by (inr (inr none)) = subst (λ (k : Bytes). IsBelow k b) (sym none) some
low-before Unbounded n some has = tt

-- from some key on, none that is before the bound is in the range
abbrev pub IsBeside : Bound Bytes → WholeNode → Type 0
IsBeside bound n = (y : Bytes) × IsBefore bound y × ((x : Bytes) → IsAtMost y x → IsBefore bound x → IsInRange n x → ⊥)

from-hi : (bound : Bound Bytes) (n : WholeNode) (y : Bytes) → n.hi ≢ [] → IsAtMost n.hi y → IsBefore bound y → IsBeside bound n
from-hi bound n y some le before = (y, before, λ x up _ in'. at_most_trans n.hi y x le up (in'.1 some))

-- where the range ends late enough, it is a question of its beginning
module _ (n : WholeNode) (b : Bytes) where
  low-included : IsAtMost [] b → IsBelow b n.hi ⊎ (n.hi ≡ []) → IsBelow b n.lo ⊎ IsAtMost n.lo b → HasBefore (Included b) n ⊎ IsBeside (Included b) n
  low-included some upper (inl lt) = inr ([], some, λ x _ before in'. in'.0 (at_most_below_trans x b n.lo before lt))
  low-included some upper (inr le) = inl (upper, le)

  low-excluded : IsBelow [] b → IsAtMost b n.hi ⊎ (n.hi ≡ []) → IsBelow n.lo b ⊎ IsAtMost b n.lo → HasBefore (Excluded b) n ⊎ IsBeside (Excluded b) n
  low-excluded some upper (inl lt) = inl (upper, inl lt)
  low-excluded some upper (inr le) = inr ([], some, λ x _ before in'. in'.0 (below_at_most x b n.lo before le))

pub has-or-beside : (bound : Bound Bytes) → IsBefore bound [] → (n : WholeNode) → HasBefore bound n ⊎ IsBeside bound n
has-or-beside (Included b) first n = by (empty-or-not n.hi) (side b n.hi)
  where
    by : (n.hi ≡ []) ⊎ (n.hi ≢ []) → IsBelow b n.hi ⊎ IsAtMost n.hi b → HasBefore (Included b) n ⊎ IsBeside (Included b) n
    by (inl none) s = low-included n b first (inr none) (side b n.lo)
    by (inr some) (inl lt) = low-included n b first (inl lt) (side b n.lo)
    by (inr some) (inr le) = inr (from-hi (Included b) n b some le (not_below_itself b))
has-or-beside (Excluded b) first n = by (empty-or-not n.hi) (side n.hi b)
  where
    by : (n.hi ≡ []) ⊎ (n.hi ≢ []) → IsBelow n.hi b ⊎ IsAtMost b n.hi → HasBefore (Excluded b) n ⊎ IsBeside (Excluded b) n
    by (inl none) s = low-excluded n b first (inr none) (side n.lo b)
    by (inr some) (inl lt) = inr (from-hi (Excluded b) n n.hi some (not_below_itself n.hi) lt)
    by (inr some) (inr le) = low-excluded n b first (inl le) (side n.lo b)
has-or-beside Unbounded first n = by (empty-or-not n.hi)
  where
    by : (n.hi ≡ []) ⊎ (n.hi ≢ []) → HasBefore Unbounded n ⊎ IsBeside Unbounded n
    by (inl none) = inl (none, none)
    by (inr some) = inr (from-hi Unbounded n n.hi some (not_below_itself n.hi) tt)

-- a range is not both
pub not-both : (bound : Bound Bytes) → IsBefore bound [] → (n : WholeNode) → IsBeside bound n → HasBefore bound n → ⊥
not-both bound first n (y, before, out) has =
    let (c, up, low, so) = higher (IsBefore bound) y n.lo before (low-before bound n first has) in
    out c up so (inside bound n c has low so)

-- ---- searches

-- from some key on, each search for a key before the bound takes the same turn
module _ (bound : Bound Bytes) (first : IsBefore bound []) where
  one-turn : (n : WholeNode) (next : ℕ) → LeadsBefore n bound next → (y : Bytes) × IsBefore bound y × ((x : Bytes) → IsAtMost y x → IsBefore bound x → LeadsTo n x next)
  one-turn n next (inl down) =
      let (t, before, top) = tops bound first n.pairs in
      let (c, above, low, so) = higher (IsBefore bound) t n.lo before (low-before bound n first down.1) in
      (c, so, λ x up here. inl (down.0, inside bound n x down.1 (at_most_trans n.lo c x low up) here, same-lead bound x here n.pairs (top-from bound t x (at_most_trans t c x above up) n.pairs top) ∙ down.2))
  one-turn n next (inr right) = by (has-or-beside bound first n)
    where
      by : HasBefore bound n ⊎ IsBeside bound n → (y : Bytes) × IsBefore bound y × ((x : Bytes) → IsAtMost y x → IsBefore bound x → LeadsTo n x next)
      by (inl has) = absurd (right.0 has)
      by (inr (y, before, out)) = (y, before, λ x up here. inr (out x up here, right.1))

  pub follows : (pages : List Content) (turns from to : ℕ) → GoesBefore pages bound turns from to → (y : Bytes) × IsBefore bound y × ((x : Bytes) → IsAtMost y x → IsBefore bound x → Goes pages x turns from to)
  follows pages zero from to is = ([], first, λ x _ _. is)
  follows pages (suc turns) from to (next, (n, there, leads), rest) =
      let (y, before, so) = one-turn n next leads in
      let (z, before', so') = follows pages turns next to rest in
      let (c, up, up', here) = higher (IsBefore bound) y z before before' in
      (c, here, λ x le at. (next, (n, there, so x (at_most_trans y c x up le) at), so' x (at_most_trans z c x up' le) at))

-- one turn more
pub before-then : (pages : List Content) (bound : Bound Bytes) (turns from at to : ℕ) → GoesBefore pages bound turns from at → HasNodeAt pages at (λ n. LeadsBefore n bound to) → GoesBefore pages bound (suc turns) from to
before-then pages bound zero from at to is leads = (to, subst (λ page. HasNodeAt pages page (λ n. LeadsBefore n bound to)) (sym is) leads, refl)
before-then pages bound (suc turns) from at to (next, first, rest) leads = (next, first, before-then pages bound turns next at to rest leads)
