-- The pair of a map that is next to a bound comes first, or last, of the pairs on that side.
use Rattle.std.proofs.Common.{◌≡◌, ◌≢◌, ◌⊎◌, inl, inr, Bool, true, false, not, cond, [], ◌∷◌, Option, None, Some, refl, sym, ◌∙◌, ap, subst}
use Rattle.std.specs.declared.ops.Bound.{Bound}
use Rattle.std.specs.declared.ops.Bound.TheVariants.{Included, Excluded, Unbounded}
use Rattle.std.specs.Prelude.{◌↔◌}
use Rattle.sled_base.specs.Order.{Bytes, IsBelow, IsAtMost, is_below}
use Rattle.sled_base.specs.OrderLaws.{below_is_at_most, not_below_itself, below_or_same}
use Rattle.sled_node.specs.Neighbours.{IsBehind, IsBefore}
use Rattle.sled_node.specs.Pairs.{IsAscending}
use Rattle.sled_search.specs.Map.{Map, at_key}
use Rattle.sled_search.specs.Ordered.{IsNextAbove, IsNextBelow, is_before}
use Rattle.sled_search.proofs.Above.{at-all}
use Rattle.sled_search.proofs.Pairs.{eq-same, eq-other, same_or_not, all-above}
use Rattle.sled_search.proofs.Same.{none-above}
use Rattle.sled_tree.proofs.OrderedLists.{keep, at-keep, ascending-kept, is-below, below-is, not-below}
use Rattle.sled_tree.specs.Ordered.{is_behind, behind, before, first_of, last_of}
use Rattle.sled_tree.specs.OrderedLeaves.{IsNextTo, next_of}
use Rattle.sled_tree.specs.declared.neighbours.Side.{Side}
use Rattle.sled_tree.specs.declared.neighbours.Side.TheVariants.{Above, Below}

-- ---- a key is on a side of a bound where the test says so

below-says : (a b : Bytes) → IsBelow a b ↔ (is_below a b ≡ true)
below-says a b = (is-below a b, below-is a b)

at-most-says : (a b : Bytes) → IsAtMost a b ↔ (not (is_below b a) ≡ true)
at-most-says a b = (λ h. ap not (not-below b a h), λ h lt. absurd (let e = is-below b a lt in let f = rw e at h in cc))

pub behind-says : (bound : Bound Bytes) (key : Bytes) → IsBehind bound key ↔ (is_behind bound key ≡ true)
behind-says (Included b) key = at-most-says b key
behind-says (Excluded b) key = below-says b key
behind-says Unbounded key = (λ _. refl, λ _. tt)

pub before-says : (bound : Bound Bytes) (key : Bytes) → IsBefore bound key ↔ (is_before bound key ≡ true)
before-says (Included b) key = at-most-says key b
before-says (Excluded b) key = below-says key b
before-says Unbounded key = (λ _. refl, λ _. tt)

-- ---- the first and the last of pairs that rise

there : (pair : Bytes × Bytes) (m : Map) → at_key (pair ∷ m) pair.0 ≡ Some pair.1
there pair m = rw (eq-same pair.0) refl

-- what has a value isn't below the first
pub from-first : (pair : Bytes × Bytes) (m : Map) (key value : Bytes) → IsAscending (pair ∷ m) → at_key (pair ∷ m) key ≡ Some value → IsAtMost pair.0 key
from-first pair m key value up is lt = absurd (let none = none-above key (pair ∷ m) (lt, all-above key pair.0 m lt up.0) in let e = is in cc)

-- the pairs that rise have this one last
pub record IsEnd (m : Map) (pair : Bytes × Bytes) : Type 0 where
  pub last : last_of m ≡ Some pair
  pub has : at_key m pair.0 ≡ Some pair.1
  pub most : (key value : Bytes) → at_key m key ≡ Some value → IsAtMost key pair.0

ends : (pair : Bytes × Bytes) (m : Map) → IsAscending (pair ∷ m) → (end : Bytes × Bytes) × IsEnd (pair ∷ m) end
ends pair [] up = (pair, record { last = refl; has = there pair []; most = λ key value is. by key value (same_or_not pair.0 key) is })
  where
    by : (key value : Bytes) → (pair.0 ≡ key) ⊎ (pair.0 ≢ key) → at_key (pair ∷ []) key ≡ Some value → IsAtMost key pair.0
    by key value (inl same) is = subst (λ (k : Bytes). IsAtMost k pair.0) same (not_below_itself pair.0)
    by key value (inr other) is = absurd (let e = rw (eq-other pair.0 key other) at is in cc)
ends pair (next ∷ m) up = by (ends next m up.1)
  where
    by : (end : Bytes × Bytes) × IsEnd (next ∷ m) end → (end : Bytes × Bytes) × IsEnd (pair ∷ next ∷ m) end
    by (end, it) =
        let below : IsBelow pair.0 end.0 = at-all (λ (key : Bytes). IsBelow pair.0 key) (next ∷ m) end.0 end.1 up.0 it.has in (
          end,
          record {
            last = rw it.last refl;
            has = rw (eq-other pair.0 end.0 (λ same. not_below_itself end.0 (subst (λ (k : Bytes). IsBelow k end.0) same below))) it.has;
            most = λ key value is. more below key value (same_or_not pair.0 key) is;
          },
        )
      where
        more : IsBelow pair.0 end.0 → (key value : Bytes) → (pair.0 ≡ key) ⊎ (pair.0 ≢ key) → at_key (pair ∷ next ∷ m) key ≡ Some value → IsAtMost key end.0
        more below key value (inl same) is = below_is_at_most key end.0 (subst (λ (k : Bytes). IsBelow k end.0) same below)
        more below key value (inr other) is = it.most key value (rw (eq-other pair.0 key other) at is)

-- ---- pairs whose keys pass a test

module _ (test : Bytes → Bool) (m : Map) (key value : Bytes) where
  kept-is : at_key (keep test m) key ≡ Some value → (test key ≡ true) × (at_key m key ≡ Some value)
  kept-is is = by (test key) (sym (at-keep test m key) ∙ is)
    where
      by : (b : Bool) → cond b (at_key m key) None ≡ Some value → (b ≡ true) × (at_key m key ≡ Some value)
      by true h = (refl, h)
      by false h = absurd (let e = h in cc)

  is-kept : test key ≡ true → at_key m key ≡ Some value → at_key (keep test m) key ≡ Some value
  is-kept passes is = at-keep test m key ∙ (rw passes is)

same-key : (m : Map) (a b : Bytes × Bytes) → a.0 ≡ b.0 → at_key m a.0 ≡ Some a.1 → at_key m b.0 ≡ Some b.1 → Some a ≡ Some b
same-key m (a, v) (b, w) same has has' =
    let h : at_key m b ≡ Some v = subst (λ (k : Bytes). at_key m k ≡ Some v) same has in
    cc

-- two keys of which neither is above the other
as-one : (a b : Bytes) → IsAtMost a b → IsAtMost b a → a ≡ b
as-one a b le le' = by (same_or_not a b)
  where
    by : (a ≡ b) ⊎ (a ≢ b) → a ≡ b
    by (inl same) = same
    by (inr other) = absurd (le' (below_or_same a b le other))

module _ (bound : Bound Bytes) (m : Map) (up : IsAscending m) where
  first-is : (answer : Option (Bytes × Bytes)) → IsNextAbove m bound answer → answer ≡ first_of (behind bound m)
  first-is answer is = by (behind bound m) (ascending-kept (is_behind bound) m up) (kept-is (is_behind bound) m) (is-kept (is_behind bound) m) answer is
    where
      by : (ys : Map) → IsAscending ys → ((key value : Bytes) → at_key ys key ≡ Some value → (is_behind bound key ≡ true) × (at_key m key ≡ Some value))
          → ((key value : Bytes) → is_behind bound key ≡ true → at_key m key ≡ Some value → at_key ys key ≡ Some value) → (answer : Option (Bytes × Bytes)) → IsNextAbove m bound answer → answer ≡ first_of ys
      by [] rise from into None is = refl
      by [] rise from into (Some pair) is = absurd (let e = into pair.0 pair.1 ((behind-says bound pair.0).0 is.1) is.0 in cc)
      by (y ∷ ys) rise from into None is = let has = from y.0 y.1 (there y ys) in absurd (is y.0 y.1 has.1 ((behind-says bound y.0).1 has.0))
      by (y ∷ ys) rise from into (Some pair) is =
          let has = from y.0 y.1 (there y ys) in
          let le = is.2 y.0 y.1 has.1 ((behind-says bound y.0).1 has.0) in
          let le' = from-first y ys pair.0 pair.1 rise (into pair.0 pair.1 ((behind-says bound pair.0).0 is.1) is.0) in
          same-key m pair y (as-one pair.0 y.0 le le') is.0 has.1

  last-is : (answer : Option (Bytes × Bytes)) → IsNextBelow m bound answer → answer ≡ last_of (before bound m)
  last-is answer is = by (before bound m) (ascending-kept (is_before bound) m up) (kept-is (is_before bound) m) (is-kept (is_before bound) m) answer is
    where
      by : (ys : Map) → IsAscending ys → ((key value : Bytes) → at_key ys key ≡ Some value → (is_before bound key ≡ true) × (at_key m key ≡ Some value))
          → ((key value : Bytes) → is_before bound key ≡ true → at_key m key ≡ Some value → at_key ys key ≡ Some value) → (answer : Option (Bytes × Bytes)) → IsNextBelow m bound answer → answer ≡ last_of ys
      by [] rise from into None is = refl
      by [] rise from into (Some pair) is = absurd (let e = into pair.0 pair.1 ((before-says bound pair.0).0 is.1) is.0 in cc)
      by (y ∷ ys) rise from into None is = let has = from y.0 y.1 (there y ys) in absurd (is y.0 y.1 has.1 ((before-says bound y.0).1 has.0))
      by (y ∷ ys) rise from into (Some pair) is =
          let (z, it) = ends y ys rise in
          let has = from z.0 z.1 it.has in
          let le = is.2 z.0 z.1 has.1 ((before-says bound z.0).1 has.0) in
          let le' = it.most pair.0 pair.1 (into pair.0 pair.1 ((before-says bound pair.0).0 is.1) is.0) in
          same-key m pair z (as-one pair.0 z.0 le' le) is.0 has.1 ∙ sym it.last

  pub next-is : (side : Side) (answer : Option (Bytes × Bytes)) → IsNextTo side m bound answer → answer ≡ next_of side bound m
  next-is Above = first-is
  next-is Below = last-is
