-- How many keys of an index are before a bound, and which child that is.
use Rattle.std.proofs.Common.{◌≡◌, ◌≢◌, ◌⊎◌, inl, inr, ℕ, zero, suc, ◌<◌, ◌+◌, true, false, List, [], ◌∷◌, ◌++◌, Option, None, Some, length, take, drop, slice_get, refl, sym, ◌∙◌, ap, subst, arith}
use Rattle.std.proofs.Math.Numerals.{add-one}
use Rattle.std.proofs.Math.Seq.{take-length, drop-length}
use Rattle.std.proofs.lemmas.List.{append_cancel_left}
use Rattle.std.proofs.lemmas.Option.{slice_get_within}
use Rattle.std.specs.List.{AllByRecursion}
use Rattle.std.specs.Option.{option_map}
use Rattle.std.specs.declared.ops.Bound.{Bound}
use Rattle.std.specs.declared.ops.Bound.TheVariants.{Included, Excluded, Unbounded}
use Rattle.sled_base.specs.Order.{Bytes, IsBelow, IsAtMost}
use Rattle.sled_base.specs.OrderLaws.{below_or_same, not_below_itself, below_is_at_most}
use Rattle.sled_node.specs.Children.{BeginsAtMost, IsLeadingPair}
use Rattle.sled_node.specs.Neighbours.{IsBefore, IsCount}
use Rattle.sled_node.specs.Node.{Item, Value, Child, WholeNode, IsInRange, ItemFits, IsWellFormed}
use Rattle.sled_node.specs.Pairs.{IsAscending}
use Rattle.sled_search.specs.Ordered.{HasBefore, last_before, LeadsBefore, IsAstrayBefore, IsChildOf}
use Rattle.sled_search.proofs.Above.{empty-or-not}
use Rattle.sled_search.proofs.Before.{IsDecided, decide}
use Rattle.sled_search.proofs.Pairs.{all-above, all-weaker}
use Rattle.sled_search.proofs.Separated.{never-below}
use Rattle.sled_search.proofs.Splits.{side, below_at_most}

-- ---- which child leads

module _ {V : Type 0} (bound : Bound Bytes) where
  pub none-before : (pairs : List (Bytes × V)) → AllByRecursion (λ pair. IsBefore bound pair.0 → ⊥) pairs → last_before pairs bound ≡ None
  none-before [] all = refl
  none-before (pair ∷ pairs) all = by (none-before pairs all.1) (decide bound pair.0)
    where
      by : last_before pairs bound ≡ None → IsDecided bound pair.0 → last_before (pair ∷ pairs) bound ≡ None
      by rest (inl here) = absurd (all.0 here.1)
      by rest (inr above) = rw (rest, above.0) refl

  last-at : (pairs : List (Bytes × V)) (i : ℕ) (key : Bytes) (item : V) → slice_get pairs i ≡ Some (key, item) → AllByRecursion (λ pair. IsBefore bound pair.0) (take (suc i) pairs) → AllByRecursion (λ pair. IsBefore bound pair.0 → ⊥) (drop (suc i) pairs) → last_before pairs bound ≡ Some item
  last-at [] i key item there front back = absurd (let e = there in cc)
  last-at (pair ∷ pairs) zero key item there front back = by (none-before pairs back) (decide bound pair.0)
    where
      by : last_before pairs bound ≡ None → IsDecided bound pair.0 → last_before (pair ∷ pairs) bound ≡ Some item
      by rest (inl here) = let e : pair ≡ (key, item) = cc in rw (rest, here.0) (ap (λ (p : Bytes × V). Some p.1) e)
      by rest (inr above) = absurd (not_below_itself pair.0 (above.1 pair.0 front.0))
  last-at (pair ∷ pairs) (suc i) key item there front back = rw (last-at pairs i key item there front.1 back) refl

pub child-leads : (bound : Bound Bytes) (pairs : List (Bytes × Item)) (count : ℕ) (child : Option ℕ) → IsCount (IsBefore bound) (λ key. IsBefore bound key → ⊥) pairs count → IsChildOf pairs count child → last_before pairs bound ≡ option_map Child child
child-leads bound pairs zero child counts is = none-before bound pairs counts.back ∙ sym (ap (λ (o : Option ℕ). option_map Child o) is)
child-leads bound pairs (suc i) child counts (key, page, there, is) = last-at bound pairs i key (Child page) there counts.front counts.back ∙ sym (ap (λ (o : Option ℕ). option_map Child o) is)

pub is-child : (pairs : List (Bytes × Item)) (count last : ℕ) (key : Bytes) (page : ℕ) → count ≡ suc last → slice_get pairs last ≡ Some (key, Child page) → IsChildOf pairs count (Some page)
is-child pairs count last key page next there = subst (λ n. IsChildOf pairs n (Some page)) (sym next) (key, page, there, refl)

-- an index has children alone
pub no-value : (pairs : List (Bytes × Item)) (i : ℕ) (key value : Bytes) → AllByRecursion (λ pair. ItemFits true pair.1) pairs → slice_get pairs i ≡ Some (key, Value value) → ⊥
no-value [] i key value all there = absurd (let e = there in cc)
no-value (pair ∷ pairs) zero key value all there =
    let e : pair ≡ (key, Value value) = cc in
    let f : pair.1 ≡ Value value = ap (λ (p : Bytes × Item). p.1) e in
    subst (λ (item : Item). ItemFits true item) f all.0
no-value (pair ∷ pairs) (suc i) key value all there = no-value pairs i key value all.1 there

-- ---- counts

all-take : {X : Type 0} (P : X → Type 0) (i : ℕ) (xs : List X) → AllByRecursion P xs → AllByRecursion P (take i xs)
all-take P zero xs all = tt
all-take P (suc i) [] all = tt
all-take P (suc i) (x ∷ xs) all = (all.0, all-take P i xs all.1)

-- up to the pair that leads a key all are at most the key
up-to : (pairs : List (Bytes × Item)) (key : Bytes) (i : ℕ) (found : Bytes) (item : Item) → IsAscending pairs → slice_get pairs i ≡ Some (found, item) → IsAtMost found key → AllByRecursion (λ pair. IsAtMost pair.0 key) (take (suc i) pairs)
up-to [] key i found item up there le = absurd (let e = there in cc)
up-to (pair ∷ pairs) key zero found item up there le =
    let e : pair ≡ (found, item) = cc in
    (subst (λ (p : Bytes × Item). IsAtMost p.0 key) (sym e) le, tt)
up-to (pair ∷ pairs) key (suc i) found item up there le = (first pairs i there up.0, up-to pairs key i found item up.1 there le)
  where
    first : (pairs : List (Bytes × Item)) (i : ℕ) → slice_get pairs i ≡ Some (found, item) → AllByRecursion (λ later. IsBelow pair.0 later.0) pairs → IsAtMost pair.0 key
    first [] i there all = absurd (let e = there in cc)
    first (other ∷ pairs) zero there all =
        let e : other ≡ (found, item) = cc in
        below_is_at_most pair.0 key (below_at_most pair.0 found key (subst (λ (p : Bytes × Item). IsBelow pair.0 p.0) e all.0) le)
    first (other ∷ pairs) (suc i) there all = first pairs i there all.1

pub leading-count : (pairs : List (Bytes × Item)) (key : Bytes) (i : ℕ) (item : Item) → IsAscending pairs → i < length pairs → IsLeadingPair pairs key i item → IsCount (λ other. IsAtMost other key) (λ other. IsBelow key other) pairs (i + 1)
leading-count pairs key i item up lt is = record {
  within = omega arith;
  front = rw add-one (up-to pairs key i is.found item up is.here is.at_most);
  back = is.behind;
}

pub none-counted : (pairs : List (Bytes × Item)) (key : Bytes) → IsAscending pairs → (BeginsAtMost pairs key → ⊥) → IsCount (λ other. IsAtMost other key) (λ other. IsBelow key other) pairs 0
none-counted pairs key up none = record { within = omega arith; front = tt; back = all pairs up none }
  where
    all : (pairs : List (Bytes × Item)) → IsAscending pairs → (BeginsAtMost pairs key → ⊥) → AllByRecursion (λ pair. IsBelow key pair.0) pairs
    all [] up none = tt
    all (pair ∷ pairs) up none = by (side key pair.0)
      where
        by : IsBelow key pair.0 ⊎ IsAtMost pair.0 key → AllByRecursion (λ p. IsBelow key p.0) (pair ∷ pairs)
        by (inl lt) = (lt, all-above key pair.0 pairs lt up.0)
        by (inr le) = absurd (none le)

-- ---- the end of a range, and keys that are there

-- where the key isn't in the range, and not below it, all keys are below it
pub all-below-end : (n : WholeNode) (key : Bytes) → IsWellFormed n → IsAtMost n.lo key → (IsInRange n key → ⊥) → IsCount (λ other. IsBelow other key) (λ other. IsAtMost key other) n.pairs (length n.pairs)
all-below-end n key well low out = record {
  within = omega arith;
  front = subst (λ (pairs : List (Bytes × Item)). AllByRecursion (λ pair. IsBelow pair.0 key) pairs) (sym (take-length n.pairs)) (all-weaker (λ pair. IsInRange n pair.0) (λ pair. IsBelow pair.0 key) below n.pairs well.in_range);
  back = subst (λ (pairs : List (Bytes × Item)). AllByRecursion (λ pair. IsAtMost key pair.0) pairs) (sym (drop-length n.pairs)) tt;
}
  where
    below : (pair : Bytes × Item) → IsInRange n pair.0 → IsBelow pair.0 key
    below pair range = by (empty-or-not n.hi) (side key n.hi)
      where
        by : (n.hi ≡ []) ⊎ (n.hi ≢ []) → IsBelow key n.hi ⊎ IsAtMost n.hi key → IsBelow pair.0 key
        by (inl none) s = absurd (out (low, λ some. absurd (some none)))
        by (inr some) (inl lt) = absurd (out (low, λ _. lt))
        by (inr some) (inr le) = below_at_most pair.0 n.hi key (range.1 some) le

-- a count of keys that are at most the key, of which the last isn't the key
drop-weaker : (key : Bytes) (pairs : List (Bytes × Item)) → AllByRecursion (λ pair. IsBelow key pair.0) pairs → AllByRecursion (λ pair. IsAtMost key pair.0) pairs
drop-weaker key pairs all = all-weaker (λ pair. IsBelow key pair.0) (λ pair. IsAtMost key pair.0) (λ pair lt. below_is_at_most key pair.0 lt) pairs all

pub less-none : (key : Bytes) (pairs : List (Bytes × Item)) (count : ℕ) → count ≡ 0 → IsCount (λ other. IsAtMost other key) (λ other. IsBelow key other) pairs count → IsCount (λ other. IsBelow other key) (λ other. IsAtMost key other) pairs count
less-none key pairs zero is counts = record { within = omega arith; front = tt; back = drop-weaker key pairs counts.back }
less-none key pairs (suc i) is counts = absurd (omega arith)

-- the keys before the last of so many are below it
below-last : (key : Bytes) (pairs : List (Bytes × Item)) (i : ℕ) → IsAscending pairs → i < length pairs → AllByRecursion (λ pair. IsAtMost pair.0 key) (take (suc i) pairs) → AllByRecursion (λ pair. IsBelow pair.0 key) (take i pairs)
below-last key [] i up lt all = absurd (omega arith)
below-last key (pair ∷ pairs) zero up lt all = tt
below-last key (pair ∷ []) (suc i) up lt all = absurd (omega arith)
below-last key (pair ∷ next ∷ pairs) (suc i) up lt all = (below_at_most pair.0 next.0 key up.0.0 all.1.0, below-last key (next ∷ pairs) i up.1 (omega arith) all.1)

-- the last of them, and the others
last-of : (P : Bytes → Type 0) (pairs : List (Bytes × Item)) (i : ℕ) (found : Bytes) (item : Item) → slice_get pairs i ≡ Some (found, item) → AllByRecursion (λ pair. P pair.0) (take (suc i) pairs) → P found
last-of P [] i found item there all = absurd (let e = there in cc)
last-of P (pair ∷ pairs) zero found item there all = let e : pair ≡ (found, item) = cc in subst (λ (p : Bytes × Item). P p.0) e all.0
last-of P (pair ∷ pairs) (suc i) found item there all = last-of P pairs i found item there all.1

all-to : (key : Bytes) (pairs : List (Bytes × Item)) (i : ℕ) (found : Bytes) (item : Item) → slice_get pairs i ≡ Some (found, item) → IsBelow found key → AllByRecursion (λ pair. IsBelow pair.0 key) (take i pairs) → AllByRecursion (λ pair. IsBelow pair.0 key) (take (suc i) pairs)
all-to key [] i found item there lt all = tt
all-to key (pair ∷ pairs) zero found item there lt all = let e : pair ≡ (found, item) = cc in (subst (λ (p : Bytes × Item). IsBelow p.0 key) (sym e) lt, tt)
all-to key (pair ∷ pairs) (suc i) found item there lt all = (all.0, all-to key pairs i found item there lt all.1)

from-last : (key : Bytes) (pairs : List (Bytes × Item)) (i : ℕ) (found : Bytes) (item : Item) → slice_get pairs i ≡ Some (found, item) → found ≡ key → AllByRecursion (λ pair. IsBelow key pair.0) (drop (suc i) pairs) → AllByRecursion (λ pair. IsAtMost key pair.0) (drop i pairs)
from-last key [] zero found item there same all = tt
from-last key [] (suc i) found item there same all = tt
from-last key (pair ∷ pairs) zero found item there same all =
    let e : pair ≡ (found, item) = cc in
    (subst (λ (p : Bytes × Item). IsAtMost key p.0) (sym e) (subst (λ (k : Bytes). IsAtMost key k) (sym same) (not_below_itself key)), drop-weaker key pairs all)
from-last key (pair ∷ pairs) (suc i) found item there same all = from-last key pairs i found item there same all

pub less-one : (key : Bytes) (pairs : List (Bytes × Item)) (count last : ℕ) (found : Bytes) (item : Item) → count ≡ suc last → IsAscending pairs → slice_get pairs last ≡ Some (found, item) → found ≡ key → IsCount (λ other. IsAtMost other key) (λ other. IsBelow key other) pairs count → IsCount (λ other. IsBelow other key) (λ other. IsAtMost key other) pairs last
less-one key pairs count last found item next up there same counts =
    let of = subst (λ n. IsCount (λ other. IsAtMost other key) (λ other. IsBelow key other) pairs n) next counts in
    record {
      within = let w = of.within in omega arith;
      front = below-last key pairs last up (slice_get_within pairs last (found, item) there) of.front;
      back = from-last key pairs last found item there same of.back;
    }

pub less-other : (key : Bytes) (pairs : List (Bytes × Item)) (count last : ℕ) (found : Bytes) (item : Item) → count ≡ suc last → IsAscending pairs → slice_get pairs last ≡ Some (found, item) → found ≢ key → IsCount (λ other. IsAtMost other key) (λ other. IsBelow key other) pairs count → IsCount (λ other. IsBelow other key) (λ other. IsAtMost key other) pairs count
less-other key pairs count last found item next up there other counts =
    let of = subst (λ n. IsCount (λ k. IsAtMost k key) (λ k. IsBelow key k) pairs n) next counts in
    let lt : IsBelow found key = below_or_same found key (last-of (λ k. IsAtMost k key) pairs last found item there of.front) other in
    subst (λ n. IsCount (λ k. IsBelow k key) (λ k. IsAtMost key k) pairs n) (sym next) (record {
      within = of.within;
      front = all-to key pairs last found item there lt (below-last key pairs last up (slice_get_within pairs last (found, item) there) of.front);
      back = drop-weaker key (drop (suc last) pairs) of.back;
    })

pub item-at : (pairs : List (Bytes × Item)) (i : ℕ) → i < length pairs → (found : Bytes) × (item : Item) × (slice_get pairs i ≡ Some (found, item))
item-at [] i lt = absurd (omega arith)
item-at ((key, item) ∷ pairs) zero lt = (key, item, refl)
item-at (pair ∷ pairs) (suc i) lt = item-at pairs i (omega arith)

-- a stored key that is what a key has behind the prefix
pub found-is : (pairs : List (Bytes × Item)) (i : ℕ) (prefix stored rest key found : Bytes) (at item : Item) → slice_get pairs i ≡ Some (prefix ++ stored, at) → key ≡ prefix ++ rest → slice_get pairs i ≡ Some (found, item) → (rest ≡ stored → found ≡ key) × (found ≡ key → rest ≡ stored)
found-is pairs i prefix stored rest key found at item there is there' =
    let same : found ≡ prefix ++ stored = first-of (sym there' ∙ there) in
    ((λ e. same ∙ sym (is ∙ ap (λ (b : Bytes). prefix ++ b) e)), (λ e. append_cancel_left prefix rest stored (sym is ∙ sym e ∙ same)))
  where
    first-of : ◌≡◌ {A = Option (Bytes × Item)} (Some (found, item)) (Some (prefix ++ stored, at)) → found ≡ prefix ++ stored
    first-of h = let e : ◌≡◌ {A = Bytes × Item} (found, item) (prefix ++ stored, at) = cc in ap (λ (p : Bytes × Item). p.0) e

-- and one that doesn't begin with the prefix is no stored key made whole
pub found-other : (pairs : List (Bytes × Item)) (i : ℕ) (prefix stored key found : Bytes) (at item : Item) → slice_get pairs i ≡ Some (prefix ++ stored, at) → ((rest : Bytes) → key ≢ prefix ++ rest) → slice_get pairs i ≡ Some (found, item) → found ≡ key → ⊥
found-other pairs i prefix stored key found at item there none there' e = none stored (sym e ∙ first-of (sym there' ∙ there))
  where
    first-of : ◌≡◌ {A = Option (Bytes × Item)} (Some (found, item)) (Some (prefix ++ stored, at)) → found ≡ prefix ++ stored
    first-of h = let e : ◌≡◌ {A = Bytes × Item} (found, item) (prefix ++ stored, at) = cc in ap (λ (p : Bytes × Item). p.0) e

-- ---- counts by bounds

pub excluded-low : (n : WholeNode) (b : Bytes) → HasBefore (Excluded b) n → IsAtMost n.lo b
excluded-low n b has = by has.1
  where
    by : IsBelow n.lo b ⊎ ((false ≡ true) × (n.lo ≡ b)) ⊎ (n.lo ≡ []) → IsAtMost n.lo b
    by (inl lt) = below_is_at_most n.lo b lt
    by (inr (inl never)) = absurd (let e = never.0 in cc)
    by (inr (inr none)) = subst (λ (k : Bytes). IsAtMost k b) (sym none) (never-below b)

-- the keys before a bound, and the others
abbrev pub CountsBefore : Bound Bytes → List (Bytes × Item) → ℕ → Type 0
CountsBefore bound pairs n = IsCount (IsBefore bound) (λ key. IsBefore bound key → ⊥) pairs n

pub count-included : (k : Bytes) (pairs : List (Bytes × Item)) (n : ℕ) → IsCount (λ other. IsAtMost other k) (λ other. IsBelow k other) pairs n → CountsBefore (Included k) pairs n
count-included k pairs n counts = record {
  within = counts.within;
  front = counts.front;
  back = all-weaker (λ pair. IsBelow k pair.0) (λ pair. IsAtMost pair.0 k → ⊥) (λ pair lt le. le lt) (drop n pairs) counts.back;
}

pub count-excluded : (k : Bytes) (pairs : List (Bytes × Item)) (n : ℕ) → IsCount (λ other. IsBelow other k) (λ other. IsAtMost k other) pairs n → CountsBefore (Excluded k) pairs n
count-excluded k pairs n counts = record { within = counts.within; front = counts.front; back = counts.back }

pub count-all : (pairs : List (Bytes × Item)) → CountsBefore Unbounded pairs (length pairs)
count-all pairs = record {
  within = omega arith;
  front = each (take (length pairs) pairs);
  back = subst (λ (others : List (Bytes × Item)). AllByRecursion (λ pair. IsBefore Unbounded pair.0 → ⊥) others) (sym (drop-length pairs)) tt;
}
  where
    each : (some : List (Bytes × Item)) → AllByRecursion (λ pair. IsBefore Unbounded pair.0) some
    each [] = tt
    each (pair ∷ some) = (tt, each some)

pub astray-before : (bound : Bound Bytes) (n : WholeNode) → n.is_index ≡ true → HasBefore bound n → last_before n.pairs bound ≡ None → IsAstrayBefore bound n
astray-before bound n index has none = (λ leaf. absurd (let e = leaf.0 in let f = index in cc), λ page leads. by page leads)
  where
    not-some : (item : Item) → ◌≡◌ {A = Option Item} None (Some item) → ⊥
    not-some item h = absurd (let e = h in cc)

    by : (page : ℕ) → LeadsBefore n bound page → ⊥
    by page (inl down) = not-some (Child page) (sym none ∙ down.2)
    by page (inr right) = right.0 has
