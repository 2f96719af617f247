-- Pairs next to a bound, worked out.
use Rattle.std.proofs.Common.{◌≡◌, inl, inr, [], ◌∷◌, None, Some, refl}
use Rattle.std.specs.declared.ops.Bound.TheVariants.{Included, Excluded, Unbounded}
use Rattle.sled_base.specs.Order.{Bytes, IsBelow, IsAtMost}
use Rattle.sled_search.specs.Examples.{one, leaf, over_two, root, two_leaves, three_pairs}
use Rattle.sled_search.specs.Map.{at_key}
use Rattle.sled_search.specs.Ordered.{IsNextAbove, IsNextBelow, IsLeafBefore, GoesBefore}
use Rattle.sled_search.specs.Search.{HasNodeAt}
use Rattle.sled_search.proofs.Above.{at-all}

-- a key that has a value is one of the three
module _ (P : Bytes → Type 0) (p1 : P (one 1)) (p3 : P (one 3)) (p5 : P (one 5)) where
  each-key : (key value : Bytes) → at_key three_pairs key ≡ Some value → P key
  each-key key value is = at-all P three_pairs key value (p1, (p3, (p5, tt))) is

pub behind-3 : IsNextAbove three_pairs (Excluded (one 3)) (Some (one 5, one 50))
behind-3 = (refl, refl, each-key (λ key. IsBelow (one 3) key → IsAtMost (one 5) key) (λ h. absurd (let e = h in cc)) (λ h. absurd (let e = h in cc)) (λ _ lt. absurd (let e = lt in cc)))

pub from-3 : IsNextAbove three_pairs (Included (one 3)) (Some (one 3, one 30))
from-3 = (refl, (λ lt. absurd (let e = lt in cc)), each-key (λ key. IsAtMost (one 3) key → IsAtMost (one 3) key) (λ h. h) (λ h. h) (λ h. h))

pub behind-5 : IsNextAbove three_pairs (Excluded (one 5)) None
behind-5 = each-key (λ key. IsBelow (one 5) key → ⊥) (λ h. absurd (let e = h in cc)) (λ h. absurd (let e = h in cc)) (λ h. absurd (let e = h in cc))

pub before-5 : IsNextBelow three_pairs (Excluded (one 5)) (Some (one 3, one 30))
before-5 = (refl, refl, each-key (λ key. IsBelow key (one 5) → IsAtMost key (one 3)) (λ _ lt. absurd (let e = lt in cc)) (λ _ lt. absurd (let e = lt in cc)) (λ h. absurd (let e = h in cc)))

pub last-of-all : IsNextBelow three_pairs Unbounded (Some (one 5, one 50))
last-of-all = (refl, tt, each-key (λ key. Unit {0} → IsAtMost key (one 5)) (λ _ lt. absurd (let e = lt in cc)) (λ _ lt. absurd (let e = lt in cc)) (λ _ lt. absurd (let e = lt in cc)))

pub search-before-5 : GoesBefore two_leaves (Excluded (one 5)) 1 root 2
search-before-5 = (2, (over_two 2 (one 5) 4, refl, inl (refl, (inr refl, inr (inr refl)), refl)), refl)

pub leaf-before-5 : HasNodeAt two_leaves 2 (IsLeafBefore (Excluded (one 5)))
leaf-before-5 = (leaf [] (one 5) (Some 4) ((1, 10) ∷ (3, 30) ∷ []), refl, (refl, (inl (λ lt. absurd (let e = lt in cc)), inr (inr refl))))
