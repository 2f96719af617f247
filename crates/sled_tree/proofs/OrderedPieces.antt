-- The pairs of a leaf are those of the map in its range, and what is within two bounds are those and the ones from its end on.
use Rattle.std.proofs.Common.{◌≡◌, ◌≢◌, ◌≤◌, ℕ, zero, suc, ◌+◌, ◌-◌, Bool, true, false, cond, List, [], ◌∷◌, ◌++◌, length, take, drop, Option, None, Some, slice_get, refl, sym, ◌∙◌, ap, subst, add-one, arith}
use Rattle.std.specs.List.{AllByRecursion}
use Rattle.std.specs.Option.{option_map}
use Rattle.std.specs.Prelude.{◌↔◌}
use Rattle.std.specs.Str.{bytes_eq}
use Rattle.std.specs.declared.ops.Bound.{Bound}
use Rattle.std.specs.declared.ops.Bound.TheVariants.{Included, Excluded, Unbounded}
use Rattle.sled_base.specs.Order.{Bytes, IsBelow, IsAtMost}
use Rattle.sled_base.specs.OrderLaws.{at_most_trans, below_is_at_most}
use Rattle.sled_node.specs.Neighbours.{IsBehind, IsBefore, IsCount}
use Rattle.sled_node.specs.Node.{Item, Value, WholeNode, IsInRange, IsWellFormed}
use Rattle.sled_node.specs.Pairs.{IsAscending}
use Rattle.sled_search.specs.Map.{Map, at_key}
use Rattle.sled_search.specs.Ordered.{is_before, start_of}
use Rattle.sled_search.proofs.Above.{behind-from, above-behind}
use Rattle.sled_search.proofs.Before.{before-down}
use Rattle.sled_search.proofs.Pairs.{all-weaker, at-lacks}
use Rattle.sled_search.proofs.Same.{same-pairs}
use Rattle.sled_search.proofs.Separated.{never-below}
use Rattle.sled_search.proofs.Splits.{below_at_most}
use Rattle.sled_tree.proofs.OrderedLists.{keep, at-keep, ascending-kept, all-kept, keep-all, keep-none, keep-same, keep-twice, keep-always, keep-never, cut}
use Rattle.sled_tree.proofs.OrderedNext.{behind-says, before-says}
use Rattle.sled_tree.specs.Ordered.{is_behind, behind, before, within}
use Rattle.sled_tree.specs.OrderedLeaves.{as_items}

-- ---- pairs as a leaf has them

at-items : (m : Map) (key : Bytes) → at_key (as_items m) key ≡ option_map Value (at_key m key)
at-items [] key = refl
at-items (pair ∷ m) key = by (bytes_eq pair.0 key) (at-items m key)
  where
    by : (b : Bool) → at_key (as_items m) key ≡ option_map Value (at_key m key) → cond b (Some (Value pair.1)) (at_key (as_items m) key) ≡ option_map Value (cond b (Some pair.1) (at_key m key))
    by true rest = refl
    by false rest = rest

all-items : (P : Bytes → Type 0) (m : Map) → AllByRecursion (λ pair. P pair.0) m → AllByRecursion (λ pair. P pair.0) (as_items m)
all-items P [] all = tt
all-items P (pair ∷ m) all = (all.0, all-items P m all.1)

ascending-items : (m : Map) → IsAscending m → IsAscending (as_items m)
ascending-items [] up = tt
ascending-items (pair ∷ m) up = (all-items (λ (key : Bytes). IsBelow pair.0 key) m up.0, ascending-items m up.1)

pub long-items : (m : Map) → length (as_items m) ≡ length m
long-items [] = refl
long-items (pair ∷ m) = rw (long-items m) refl

keep-items : (test : Bytes → Bool) (m : Map) → keep test (as_items m) ≡ as_items (keep test m)
keep-items test [] = refl
keep-items test (pair ∷ m) = by (test pair.0) (keep-items test m)
  where
    by : (b : Bool) → keep test (as_items m) ≡ as_items (keep test m) → cond b ((pair.0, Value pair.1) ∷ keep test (as_items m)) (keep test (as_items m)) ≡ as_items (cond b (pair ∷ keep test m) (keep test m))
    by true rest = rw rest refl
    by false rest = rest

pub within-items : (from to : Bound Bytes) (m : Map) → within from to (as_items m) ≡ as_items (within from to m)
within-items from to m = ap (λ (ps : List (Bytes × Item)). keep (is_before to) ps) (keep-items (is_behind from) m) ∙ keep-items (is_before to) (behind from m)

pub same-items : (xs ys : Map) → as_items xs ≡ as_items ys → xs ≡ ys
same-items [] [] same = refl
same-items [] (y ∷ ys) same = absurd (let e = same in cc)
same-items (x ∷ xs) [] same = absurd (let e = same in cc)
same-items ((a, v) ∷ xs) ((b, w) ∷ ys) same =
    let rest : as_items xs ≡ as_items ys = cc in
    let first : ◌≡◌ {A = Bytes × Item} (a, Value v) (b, Value w) = cc in
    let key : a ≡ b = ap (λ (pair : Bytes × Item). pair.0) first in
    let item : Value v ≡ Value w = ap (λ (pair : Bytes × Item). pair.1) first in
    let value : v ≡ w = cc in
    let more : xs ≡ ys = same-items xs ys rest in
    cc

items-append : (xs ys : Map) → as_items (xs ++ ys) ≡ as_items xs ++ as_items ys
items-append [] ys = refl
items-append (x ∷ xs) ys = rw (items-append xs ys) refl

-- one place more of a run of pairs
take-at : {X : Type 0} (at : ℕ) (xs : List X) (x : X) → slice_get xs at ≡ Some x → take (suc at) xs ≡ take at xs ++ x ∷ []
take-at at [] x e = absurd (let h = e in cc)
take-at zero (y ∷ xs) x e = let same : y ≡ x = cc in rw same refl
take-at (suc at) (y ∷ xs) x e = ap (λ ys. y ∷ ys) (take-at at xs x e)

run-on : {X : Type 0} (first at : ℕ) (xs : List X) (x : X) → first ≤ at → slice_get xs at ≡ Some x → take (suc at - first) (drop first xs) ≡ take (at - first) (drop first xs) ++ x ∷ []
run-on zero at xs x le e = let more : suc at - 0 ≡ suc at = omega arith in let here : at - 0 ≡ at = omega arith in rw (more, here) (take-at at xs x e)
run-on (suc first) zero xs x le e = absurd (omega (arith, le))
run-on (suc first) (suc at) [] x le e = absurd (let h = e in cc)
run-on (suc first) (suc at) (y ∷ xs) x le e = let more : suc (suc at) - suc first ≡ suc at - first = omega arith in let here : suc at - suc first ≡ at - first = omega arith in rw (more, here) (run-on first at xs x (omega (arith, le)) e)

pub place-more : (first at : ℕ) (pairs : List (Bytes × Item)) (so_far : Map) (key value : Bytes) → first ≤ at → slice_get pairs at ≡ Some (key, Value value)
    → as_items so_far ≡ take (at - first) (drop first pairs) → as_items (so_far ++ (key, value) ∷ []) ≡ take (at + 1 - first) (drop first pairs)
place-more first at pairs so_far key value le e front =
    items-append so_far ((key, value) ∷ []) ∙ ap (λ (ps : List (Bytes × Item)). ps ++ (key, Value value) ∷ []) front ∙ sym (rw add-one (run-on first at pairs (key, Value value) le e))

-- ---- the places of a leaf that are within two bounds

-- a test fails where what it says isn't so
fails : {Is : Type 0} {test : Bool} → Is ↔ (test ≡ true) → (Is → ⊥) → test ≡ false
fails {test = true} says never = absurd (never (says.1 refl))
fails {test = false} says never = refl

module _ {V : Type 0} (from to : Bound Bytes) where
  all-behind-are : (pairs : List (Bytes × V)) → AllByRecursion (λ pair. IsBehind from pair.0) pairs → behind from pairs ≡ pairs
  all-behind-are pairs all = keep-all (is_behind from) pairs (all-weaker (λ pair. IsBehind from pair.0) (λ pair. is_behind from pair.0 ≡ true) (λ pair h. (behind-says from pair.0).0 h) pairs all)

  none-before : (pairs : List (Bytes × V)) → AllByRecursion (λ pair. IsBefore to pair.0 → ⊥) pairs → within from to pairs ≡ []
  none-before pairs all = keep-none (is_before to) (behind from pairs) (all-kept (λ pair. is_before to pair.0 ≡ false) (is_behind from) pairs
      (all-weaker (λ pair. IsBefore to pair.0 → ⊥) (λ pair. is_before to pair.0 ≡ false) (λ pair never. fails (before-says to pair.0) never) pairs all))

  before-places : (end : ℕ) (pairs : List (Bytes × V)) → AllByRecursion (λ pair. IsBefore to pair.0) (take end pairs) → AllByRecursion (λ pair. IsBefore to pair.0 → ⊥) (drop end pairs) → before to pairs ≡ take end pairs
  before-places zero pairs front back = keep-none (is_before to) pairs (all-weaker (λ pair. IsBefore to pair.0 → ⊥) (λ pair. is_before to pair.0 ≡ false) (λ pair never. fails (before-says to pair.0) never) pairs back)
  before-places (suc end) [] front back = refl
  before-places (suc end) (pair ∷ pairs) front back = rw ((before-says to pair.0).0 front.0) (ap (λ (ps : List (Bytes × V)). pair ∷ ps) (before-places end pairs front.1 back))

  places : (first end : ℕ) (pairs : List (Bytes × V)) → first ≤ end
      → AllByRecursion (λ pair. IsBehind from pair.0 → ⊥) (take first pairs) → AllByRecursion (λ pair. IsBehind from pair.0) (drop first pairs)
      → AllByRecursion (λ pair. IsBefore to pair.0) (take end pairs) → AllByRecursion (λ pair. IsBefore to pair.0 → ⊥) (drop end pairs)
      → within from to pairs ≡ take (end - first) (drop first pairs)
  places zero end pairs le low high front back = let all : end - 0 ≡ end = omega arith in rw all (ap (λ (ps : List (Bytes × V)). before to ps) (all-behind-are pairs high) ∙ before-places end pairs front back)
  places (suc first) zero pairs le low high front back = absurd (omega (arith, le))
  places (suc first) (suc end) [] le low high front back = by (suc end - suc first)
    where
      by : (n : ℕ) → ◌≡◌ {A = List (Bytes × V)} [] (take n [])
      by zero = refl
      by (suc n) = refl
  places (suc first) (suc end) (pair ∷ pairs) le low high front back = let less : suc end - suc first ≡ end - first = omega arith in rw (fails (behind-says from pair.0) low.0, less) (places first end pairs (omega (arith, le)) low.1 high front.1 back)

  no-places : (first end : ℕ) (pairs : List (Bytes × V)) → end ≤ first
      → AllByRecursion (λ pair. IsBehind from pair.0 → ⊥) (take first pairs) → AllByRecursion (λ pair. IsBefore to pair.0 → ⊥) (drop end pairs) → within from to pairs ≡ []
  no-places first zero pairs le low back = none-before pairs back
  no-places zero (suc end) pairs le low back = absurd (omega (arith, le))
  no-places (suc first) (suc end) [] le low back = refl
  no-places (suc first) (suc end) (pair ∷ pairs) le low back = rw (fails (behind-says from pair.0) low.0) (no-places first end pairs (omega (arith, le)) low.1 back)

  pub within-places : (pairs : List (Bytes × V)) (first end : ℕ) → IsCount (λ key. IsBehind from key → ⊥) (IsBehind from) pairs first → IsCount (IsBefore to) (λ key. IsBefore to key → ⊥) pairs end
      → first ≤ end → within from to pairs ≡ take (end - first) (drop first pairs)
  within-places pairs first end a b le = places first end pairs le a.front a.back b.front b.back

  pub within-none : (pairs : List (Bytes × V)) (first end : ℕ) → IsCount (λ key. IsBehind from key → ⊥) (IsBehind from) pairs first → IsCount (IsBefore to) (λ key. IsBefore to key → ⊥) pairs end
      → end ≤ first → within from to pairs ≡ []
  within-none pairs first end a b le = no-places first end pairs le a.front b.back

-- ---- the range of a leaf

-- the bound that an end is, which is none where that is empty
abbrev pub end_of : Bytes → Bound Bytes
end_of [] = Unbounded
end_of (x ∷ key) = Excluded (x ∷ key)

end-none : (hi : Bytes) → hi ≡ [] → end_of hi ≡ Unbounded
end-none [] e = refl
end-none (x ∷ hi) e = absurd (let h = e in cc)

end-some : (hi : Bytes) → hi ≢ [] → end_of hi ≡ Excluded hi
end-some [] some = absurd (some refl)
end-some (x ∷ hi) some = refl

module _ (n : WholeNode) (key : Bytes) where
  before-end : IsInRange n key → is_before (end_of n.hi) key ≡ true
  before-end range = by n.hi range.1
    where
      by : (hi : Bytes) → (hi ≢ [] → IsBelow key hi) → is_before (end_of hi) key ≡ true
      by [] below = refl
      by (x ∷ hi) below = (before-says (Excluded (x ∷ hi)) key).0 (below (λ e. absurd (let h = e in cc)))

  end-before : (hi : Bytes) → is_before (end_of hi) key ≡ true → hi ≢ [] → IsBelow key hi
  end-before [] h some = absurd (some refl)
  end-before (x ∷ hi) h some = (before-says (Excluded (x ∷ hi)) key).1 h

  in-range : is_before (end_of n.hi) key ≡ true → is_behind (Included n.lo) key ≡ true → IsInRange n key
  in-range high low = ((behind-says (Included n.lo) key).1 low, end-before n.hi high)

-- the pairs of a leaf, which has what the map has at each key of its range
module _ (n : WholeNode) (m : Map) (up : IsAscending m) (well : IsWellFormed n) (shows : (key : Bytes) → IsInRange n key → at_key n.pairs key ≡ option_map Value (at_key m key)) where
  abbrev own : Map
  own = within (Included n.lo) (end_of n.hi) m

  lacks : (key : Bytes) → (IsInRange n key → ⊥) → at_key n.pairs key ≡ None
  lacks key out = at-lacks n.pairs key (all-weaker (λ pair. IsInRange n pair.0) (λ pair. pair.0 ≢ key) (λ pair range same. out (subst (λ (k : Bytes). IsInRange n k) same range)) n.pairs well.in_range)

  at-own : (key : Bytes) → at_key own key ≡ cond (is_before (end_of n.hi) key) (cond (is_behind (Included n.lo) key) (at_key m key) None) None
  at-own key = at-keep (is_before (end_of n.hi)) (behind (Included n.lo) m) key ∙ ap (λ (o : Option Bytes). cond (is_before (end_of n.hi) key) o None) (at-keep (is_behind (Included n.lo)) m key)

  same-at : (key : Bytes) → at_key n.pairs key ≡ option_map Value (at_key own key)
  same-at key = by (is_before (end_of n.hi) key) (is_behind (Included n.lo) key) refl refl (at-own key)
    where
      by : (high low : Bool) → is_before (end_of n.hi) key ≡ high → is_behind (Included n.lo) key ≡ low → at_key own key ≡ cond high (cond low (at_key m key) None) None → at_key n.pairs key ≡ option_map Value (at_key own key)
      by true true high low is = rw is (shows key (in-range n key high low))
      by true false high low is = rw is (lacks key (λ range. absurd (let h = (behind-says (Included n.lo) key).0 range.0 in cc)))
      by false low high low' is = rw is (lacks key (λ range. absurd (let h = before-end n key range in cc)))

  pub leaf-pairs : n.pairs ≡ as_items own
  leaf-pairs = same-pairs n.pairs (as_items own) well.ascending (ascending-items own (ascending-kept (is_before (end_of n.hi)) (behind (Included n.lo) m) (ascending-kept (is_behind (Included n.lo)) m up))) (λ key. same-at key ∙ sym (at-items own key))

-- ---- what two tests say of a key

-- the pairs within two bounds are those that pass both tests
both : (from to : Bound Bytes) (m : Map) → within from to m ≡ keep (λ key. cond (is_behind from key) (is_before to key) false) m
both from to m = keep-twice (is_before to) (is_behind from) m

-- a and b: within the bounds; c and d: in the range, of which d follows from a
in-both : (a b c d : Bool) → (a ≡ true → d ≡ true) → cond (cond a b false) c false ≡ cond (cond d c false) (cond a b false) false
in-both true true true true h = refl
in-both true true false true h = refl
in-both true false true true h = refl
in-both true false false true h = refl
in-both true b c false h = absurd (let e = h refl in cc)
in-both false b true true h = refl
in-both false b false true h = refl
in-both false b c false h = refl

-- e: from the end on, from which a follows
from-both : (a b e : Bool) → (e ≡ true → a ≡ true) → cond (cond a b false) e false ≡ cond e b false
from-both true true true h = refl
from-both true true false h = refl
from-both true false true h = refl
from-both true false false h = refl
from-both false b true h = absurd (let e = h refl in cc)
from-both false b false h = refl

one-of-both : (d e : Bool) → (e ≡ true → d ≡ true) → cond d e false ≡ e
one-of-both true e h = refl
one-of-both false true h = absurd (let e = h refl in cc)
one-of-both false false h = refl

-- ---- what is within two bounds, and in the range of a leaf

module _ (m : Map) (up : IsAscending m) (lo hi : Bytes) where
  abbrev ranged : Map
  ranged = within (Included lo) (end_of hi) m

  module _ (from to : Bound Bytes) (low : IsAtMost lo (start_of from)) where
    from-low : (key : Bytes) → is_behind from key ≡ true → is_behind (Included lo) key ≡ true
    from-low key h = (behind-says (Included lo) key).0 (at_most_trans lo (start_of from) key low (behind-from from key ((behind-says from key).1 h)))

    up-to : keep (is_before (end_of hi)) (within from to m) ≡ within from to ranged
    up-to =
        ap (λ (ps : Map). keep (is_before (end_of hi)) ps) (both from to m)
        ∙ keep-twice (is_before (end_of hi)) (λ key. cond (is_behind from key) (is_before to key) false) m
        ∙ keep-same (λ key. cond (cond (is_behind from key) (is_before to key) false) (is_before (end_of hi) key) false)
        (λ key. cond (cond (is_behind (Included lo) key) (is_before (end_of hi) key) false) (cond (is_behind from key) (is_before to key) false) false) m
        (λ key. in-both (is_behind from key) (is_before to key) (is_before (end_of hi) key) (is_behind (Included lo) key) (from-low key))
        ∙ sym (keep-twice (λ key. cond (is_behind from key) (is_before to key) false) (λ key. cond (is_behind (Included lo) key) (is_before (end_of hi) key) false) m)
        ∙ ap (λ (ps : Map). keep (λ key. cond (is_behind from key) (is_before to key) false) ps) (sym (both (Included lo) (end_of hi) m))
        ∙ sym (both from to ranged)

    pub piece-ends : hi ≡ [] → within from to m ≡ within from to ranged
    piece-ends none = sym (ap (λ (bound : Bound Bytes). keep (is_before bound) (within from to m)) (end-none hi none) ∙ keep-always (within from to m)) ∙ up-to

    pub piece-goes-on : hi ≢ [] → IsBelow (start_of from) hi → within from to m ≡ within from to ranged ++ within (Included hi) to m
    piece-goes-on some high =
        cut hi (within from to m) (ascending-kept (is_before to) (behind from m) (ascending-kept (is_behind from) m up))
        ∙ ap (λ (ps : Map). ps ++ behind (Included hi) (within from to m)) (ap (λ (bound : Bound Bytes). keep (is_before bound) (within from to m)) (sym (end-some hi some)) ∙ up-to)
        ∙ ap (λ (ps : Map). within from to ranged ++ ps) behind-end
      where
        from-high : (key : Bytes) → is_behind (Included hi) key ≡ true → is_behind from key ≡ true
        from-high key h = (behind-says from key).0 (above-behind from key (below_at_most (start_of from) hi key high ((behind-says (Included hi) key).1 h)))

        behind-end : behind (Included hi) (within from to m) ≡ within (Included hi) to m
        behind-end =
            ap (λ (ps : Map). behind (Included hi) ps) (both from to m)
            ∙ keep-twice (is_behind (Included hi)) (λ key. cond (is_behind from key) (is_before to key) false) m
            ∙ keep-same (λ key. cond (cond (is_behind from key) (is_before to key) false) (is_behind (Included hi) key) false) (λ key. cond (is_behind (Included hi) key) (is_before to key) false) m
            (λ key. from-both (is_behind from key) (is_before to key) (is_behind (Included hi) key) (from-high key))
            ∙ sym (both (Included hi) to m)

  -- ---- how many there are

  pub part-ends : hi ≡ [] → ranged ≡ behind (Included lo) m
  part-ends none = ap (λ (bound : Bound Bytes). keep (is_before bound) (behind (Included lo) m)) (end-none hi none) ∙ keep-always (behind (Included lo) m)

  pub part-goes-on : hi ≢ [] → IsBelow lo hi → behind (Included lo) m ≡ ranged ++ behind (Included hi) m
  part-goes-on some high =
      cut hi (behind (Included lo) m) (ascending-kept (is_behind (Included lo)) m up)
      ∙ ap (λ (ps : Map). ps ++ behind (Included hi) (behind (Included lo) m)) (ap (λ (bound : Bound Bytes). keep (is_before bound) (behind (Included lo) m)) (sym (end-some hi some)))
      ∙ ap (λ (ps : Map). ranged ++ ps) (
      keep-twice (is_behind (Included hi)) (is_behind (Included lo)) m
      ∙ keep-same (λ key. cond (is_behind (Included lo) key) (is_behind (Included hi) key) false) (is_behind (Included hi)) m
      (λ key. one-of-both (is_behind (Included lo) key) (is_behind (Included hi) key)
      (λ h. (behind-says (Included lo) key).0 (below_is_at_most lo key (below_at_most lo hi key high ((behind-says (Included hi) key).1 h)))))
      )

-- ---- nothing is within

-- where an end isn't before the one bound, nothing from it on is
pub none-past : (end : Bytes) (to : Bound Bytes) (m : Map) → is_before to end ≡ false → within (Included end) to m ≡ []
none-past end to m past = both (Included end) to m ∙ keep-same (λ key. cond (is_behind (Included end) key) (is_before to key) false) (λ _. false) m (λ key. by key (is_behind (Included end) key) (is_before to key) refl refl) ∙ keep-never m
  where
    by : (key : Bytes) (a b : Bool) → is_behind (Included end) key ≡ a → is_before to key ≡ b → cond a b false ≡ false
    by key true true high low = absurd (let h = (before-says to end).0 (before-down to key end ((before-says to key).1 low) ((behind-says (Included end) key).1 high)) in cc)
    by key true false high low = refl
    by key false b high low = refl

-- from the empty key on, and behind no bound, are all
pub all-behind : (m : Map) → behind (Included []) m ≡ m
all-behind m = keep-same (is_behind (Included [])) (λ _. true) m (λ key. (behind-says (Included []) key).0 (never-below key)) ∙ keep-always m
