-- The first pair of a map behind a bound, by the leaf of the bound's key.
use Rattle.std.proofs.Common.{◌≡◌, ◌≢◌, ◌⊎◌, inl, inr, ℕ, zero, suc, ◌<◌, Bool, true, false, List, [], ◌∷◌, Option, None, Some, length, slice_get, slice_index_or, refl, sym, ◌∙◌, ap, subst, arith, cond}
use Rattle.std.specs.List.{AllByRecursion}
use Rattle.std.specs.Option.{option_map}
use Rattle.std.specs.Str.{bytes_eq}
use Rattle.std.specs.declared.ops.Bound.{Bound}
use Rattle.std.specs.declared.ops.Bound.TheVariants.{Included, Excluded, Unbounded}
use Rattle.std.proofs.lemmas.Slice.Eq.{bytes_eq-Decides}
use Rattle.sled_base.specs.Order.{Bytes, IsBelow, IsAtMost}
use Rattle.sled_base.specs.OrderLaws.{below_is_at_most, at_most_trans}
use Rattle.sled_log.specs.Contents.{Content, Node}
use Rattle.sled_node.specs.Neighbours.{IsBehind, IsLeast, HasNone}
use Rattle.sled_node.specs.Node.{Item, Value, WholeNode, IsInRange, IsWellFormed}
use Rattle.sled_search.specs.Map.{Map, at_key}
use Rattle.sled_search.specs.Ordered.{IsNextAbove, start_of}
use Rattle.sled_search.specs.Search.{ComesToLeafOf, IsLeafOf, IsTreeOf}
use Rattle.sled_search.proofs.Changes.{leaf-has}
use Rattle.sled_search.proofs.Pairs.{at-has}
use Rattle.sled_search.proofs.Search.{leaf-there}
use Rattle.sled_search.proofs.Separated.{never-below}
use Rattle.sled_search.proofs.Splits.{side, below_at_most}

-- what is so of all pairs is so of that which is at a key
pub at-all : {V : Type 0} (P : Bytes → Type 0) (pairs : List (Bytes × V)) (key : Bytes) (item : V) → AllByRecursion (λ pair. P pair.0) pairs → at_key pairs key ≡ Some item → P key
at-all P [] key item all is = absurd (let e = is in cc)
at-all P (pair ∷ pairs) key item all is = by (at-all P pairs key item all.1) (bytes_eq pair.0 key) (bytes_eq-Decides pair.0 key) is
  where
    by : (at_key pairs key ≡ Some item → P key) → (e : Bool) → (e ≡ true → pair.0 ≡ key) × (pair.0 ≡ key → e ≡ true) → cond e (Some pair.1) (at_key pairs key) ≡ Some item → P key
    by rest true d is = subst (λ (k : Bytes). P k) (d.0 refl) all.0
    by rest false d is = rest is

-- what is so of all pairs is so of one that is among them
pub contained : {V : Type 0} (P : Bytes → Type 0) (pairs : List (Bytes × V)) (key : Bytes) (item : V) (k : ℕ) → AllByRecursion (λ pair. P pair.0) pairs → k < length pairs → slice_index_or pairs k (key, item) ≡ (key, item) → P key
contained P [] key item k all lt is = absurd (omega arith)
contained P (pair ∷ pairs) key item zero all lt is = subst (λ (p : Bytes × _). P p.0) is all.0
contained P (pair ∷ pairs) key item (suc k) all lt is = contained P pairs key item k all.1 (omega arith) is

pub empty-or-not : (s : Bytes) → (s ≡ []) ⊎ (s ≢ [])
empty-or-not [] = inl refl
empty-or-not (x ∷ s) = inr (λ e. absurd (let h = e in cc))

pub value-is : (o : Option Bytes) (v : Bytes) → ◌≡◌ {A = Option Item} (option_map Value o) (Some (Value v)) → o ≡ Some v
value-is None v h = absurd (let e = h in cc)
value-is (Some w) v h = let e : Value w ≡ Value v = cc in let f : w ≡ v = cc in ap (λ (b : Bytes). Some b) f

-- what is behind a bound isn't below its key, and what is above its key is behind it
pub behind-from : (bound : Bound Bytes) (key : Bytes) → IsBehind bound key → IsAtMost (start_of bound) key
behind-from (Included b) key h = h
behind-from (Excluded b) key h = below_is_at_most b key h
behind-from Unbounded key h = never-below key

pub above-behind : (bound : Bound Bytes) (key : Bytes) → IsBelow (start_of bound) key → IsBehind bound key
above-behind (Included b) key h = below_is_at_most b key h
above-behind (Excluded b) key h = h
above-behind Unbounded key h = tt

-- what a leaf has of a map
module _ (m : Map) (n : WholeNode) (shows : (other : Bytes) → IsInRange n other → at_key n.pairs other ≡ option_map Value (at_key m other)) where
  pub from-leaf : (key value : Bytes) → IsInRange n key → at_key n.pairs key ≡ Some (Value value) → at_key m key ≡ Some value
  from-leaf key value range is = value-is (at_key m key) value (sym (shows key range) ∙ is)

  pub in-leaf : (key value : Bytes) → IsInRange n key → at_key m key ≡ Some value → at_key n.pairs key ≡ Some (Value value)
  in-leaf key value range is = shows key range ∙ ap (λ (o : Option Bytes). option_map Value o) is

module _ (pages : List Content) (root : ℕ) (m : Map) (tree : IsTreeOf pages root m) (bound : Bound Bytes) (leaf : ℕ) (comes : ComesToLeafOf pages (start_of bound) (start_of bound) leaf root) (n : WholeNode) (there : slice_get pages leaf ≡ Some (Node n)) where
  of : IsLeafOf (start_of bound) n
  of = let (i, x) = comes in leaf-there pages (start_of bound) leaf n there i root x

  shows : (other : Bytes) → IsInRange n other → at_key n.pairs other ≡ option_map Value (at_key m other)
  shows other range = leaf-has pages root m tree (start_of bound) leaf n there comes other range

  -- a key behind the bound is in the range, or not below its end
  within : (key : Bytes) → IsBehind bound key → IsInRange n key ⊎ ((n.hi ≢ []) × IsAtMost n.hi key)
  within key behind = by (empty-or-not n.hi) (side key n.hi)
    where
      low : IsAtMost n.lo key
      low = at_most_trans n.lo (start_of bound) key of.1.0 (behind-from bound key behind)

      by : (n.hi ≡ []) ⊎ (n.hi ≢ []) → IsBelow key n.hi ⊎ IsAtMost n.hi key → IsInRange n key ⊎ ((n.hi ≢ []) × IsAtMost n.hi key)
      by (inl none) s = inl (low, λ some. absurd (some none))
      by (inr some) (inl lt) = inl (low, λ _. lt)
      by (inr some) (inr le) = inr (some, le)

  pub first-here : IsWellFormed n → (pair : Bytes × Bytes) → IsLeast (IsBehind bound) n pair → IsNextAbove m bound (Some pair)
  first-here well pair least =
      let (k, lt, is) = least.there in
      let range : IsInRange n pair.0 = contained (λ key. IsInRange n key) n.pairs pair.0 (Value pair.1) k well.in_range lt is in
      (from-leaf m n shows pair.0 pair.1 range (at-has n.pairs pair.0 (Value pair.1) well.ascending (k, lt, is)), least.such, λ key value has behind. by range key value has behind (within key behind))
    where
      by : IsInRange n pair.0 → (key value : Bytes) → at_key m key ≡ Some value → IsBehind bound key → IsInRange n key ⊎ ((n.hi ≢ []) × IsAtMost n.hi key) → IsAtMost pair.0 key
      by range key value has behind (inl in') = at-all (λ other. IsBehind bound other → IsAtMost pair.0 other) n.pairs key (Value value) least.least (in-leaf m n shows key value in' has) behind
      by range key value has behind (inr beyond) = below_is_at_most pair.0 key (below_at_most pair.0 n.hi key (range.1 beyond.0) beyond.1)

  none-within : HasNone (IsBehind bound) n → (key value : Bytes) → at_key m key ≡ Some value → IsBehind bound key → IsInRange n key → ⊥
  none-within none key value has behind in' = at-all (λ other. IsBehind bound other → ⊥) n.pairs key (Value value) none (in-leaf m n shows key value in' has) behind

  pub none-at-end : HasNone (IsBehind bound) n → n.hi ≡ [] → IsNextAbove m bound None
  none-at-end none end key value has behind = by (within key behind)
    where
      by : IsInRange n key ⊎ ((n.hi ≢ []) × IsAtMost n.hi key) → ⊥
      by (inl in') = none-within none key value has behind in'
      by (inr beyond) = beyond.0 end

  beyond-end : HasNone (IsBehind bound) n → (key value : Bytes) → at_key m key ≡ Some value → IsBehind bound key → IsAtMost n.hi key
  beyond-end none key value has behind = by (within key behind)
    where
      by : IsInRange n key ⊎ ((n.hi ≢ []) × IsAtMost n.hi key) → IsAtMost n.hi key
      by (inl in') = absurd (none-within none key value has behind in')
      by (inr beyond) = beyond.1

  pub first-further : HasNone (IsBehind bound) n → n.hi ≢ [] → (answer : Option (Bytes × Bytes)) → IsNextAbove m (Included n.hi) answer → IsNextAbove m bound answer
  first-further none some (Some pair) next = (next.0, above-behind bound pair.0 (below_at_most (start_of bound) n.hi pair.0 (of.1.1 some) next.1), λ key value has behind. next.2 key value has (beyond-end none key value has behind))
  first-further none some None next = λ key value has behind. next key value has (beyond-end none key value has behind)
