-- The last pair of a map before a bound, by the leaf to which the search for the keys right before it comes.
use Rattle.std.proofs.Common.{◌≡◌, ◌⊎◌, inl, inr, ℕ, ◌<◌, Bool, true, false, List, [], Option, None, Some, length, slice_get, refl, sym, ◌∙◌, ap, arith}
use Rattle.std.specs.Option.{option_map}
use Rattle.std.specs.declared.ops.Bound.{Bound}
use Rattle.std.specs.declared.ops.Bound.TheVariants.{Excluded}
use Rattle.sled_base.specs.Order.{Bytes, IsBelow, IsAtMost}
use Rattle.sled_base.specs.OrderLaws.{below_is_at_most, at_most_trans, not_below_itself}
use Rattle.sled_log.specs.Contents.{Content, Node}
use Rattle.sled_node.specs.Neighbours.{IsBefore, IsGreatest, HasNone}
use Rattle.sled_node.specs.Node.{Value, WholeNode, IsInRange, IsWellFormed}
use Rattle.sled_search.specs.Map.{Map, at_key, leading}
use Rattle.sled_search.specs.Ordered.{IsNextBelow, HasBefore, last_before, IsAstrayBefore, GoesBefore}
use Rattle.sled_search.specs.Routes.{IsAstray}
use Rattle.sled_search.specs.Search.{HasNodeAt, LeadsTo, HasAt, IsTreeOf}
use Rattle.sled_search.proofs.Above.{at-all, contained, value-is}
use Rattle.sled_search.proofs.Before.{before-down, higher, tops, top-from, same-lead, inside, low-before, has-or-beside, IsBeside, not-both, follows}
use Rattle.sled_search.proofs.Changes.{leaf-has}
use Rattle.sled_search.proofs.Pairs.{at-has}
use Rattle.sled_search.proofs.Paths.{rest-of, few-turns, found-not-astray}
use Rattle.sled_search.proofs.Search.{goes-finds}
use Rattle.sled_search.proofs.Separated.{never-below}
use Rattle.sled_search.proofs.Splits.{side}

module _ (pages : List Content) (root : ℕ) (m : Map) (tree : IsTreeOf pages root m) (bound : Bound Bytes) (first : IsBefore bound []) where
  pub few-before : (turns at : ℕ) → GoesBefore pages bound turns root at → turns < length pages
  few-before turns at goes =
      let (y, before, so) = follows bound first pages turns root at goes in
      let (j, found) = tree.comes y in
      let (k, sum, rest) = rest-of pages y (λ _ n. HasAt y (at_key m y) n) turns j root at (so y (not_below_itself y) before) found in
      let few : j < length pages = few-turns pages y (λ _ n. HasAt y (at_key m y) n) j root found in
      omega arith

  -- a node that has no answer to such a search has none for a key of it
  stray-key : (n : WholeNode) → IsAstrayBefore bound n → (y : Bytes) → IsBefore bound y → (x : Bytes) × IsAtMost y x × IsBefore bound x × IsAstray x n
  stray-key n stray y before = by (has-or-beside bound first n)
    where
      index-is : (b : Bool) → n.is_index ≡ b → HasBefore bound n → n.is_index ≡ true
      index-is true is has = is
      index-is false is has = absurd (stray.0 (is, has))

      leads : HasBefore bound n → (x : Bytes) → IsBefore bound x → IsInRange n x → leading n.pairs x ≡ last_before n.pairs bound → (page : ℕ) → LeadsTo n x page → ⊥
      leads has x here in' same page (inl down) = stray.1 page (inl (down.0, has, sym same ∙ down.2))
      leads has x here in' same page (inr right) = right.0 in'

      beside : IsBeside bound n → (x : Bytes) → (IsInRange n x → ⊥) → (page : ℕ) → LeadsTo n x page → ⊥
      beside b x out page (inl down) = out down.1
      beside b x out page (inr right) = stray.1 page (inr (not-both bound first n b, right.1))

      by : HasBefore bound n ⊎ IsBeside bound n → (x : Bytes) × IsAtMost y x × IsBefore bound x × IsAstray x n
      by (inl has) =
          let (t, before', top) = tops bound first n.pairs in
          let (c, up, low, so) = higher (IsBefore bound) t n.lo before' (low-before bound n first has) in
          let (x, le, le', here) = higher (IsBefore bound) y c before so in
          let in' : IsInRange n x = inside bound n x has (at_most_trans n.lo c x low le') here in
          let same : leading n.pairs x ≡ last_before n.pairs bound = same-lead bound x here n.pairs (top-from bound t x (at_most_trans t c x up le') n.pairs top) in
          (x, le, here, (λ leaf. stray.0 (leaf.0, has), leads has x here in' same))
      by (inr (z, before', out)) =
          let (x, le, le', here) = higher (IsBefore bound) y z before before' in
          (x, le, here, (λ leaf. out x le' here leaf.1, beside (z, before', out) x (out x le' here)))

  pub never-astray : (turns at : ℕ) → GoesBefore pages bound turns root at → HasNodeAt pages at (IsAstrayBefore bound) → ⊥
  never-astray turns at goes (n, there, stray) =
      let (y, before, so) = follows bound first pages turns root at goes in
      let (x, le, here, astray) = stray-key n stray y before in
      let (j, found) = tree.comes x in
      let (k, sum, rest) = rest-of pages x (λ _ w. HasAt x (at_key m x) w) turns j root at (so x le here) found in
      found-not-astray pages x (λ _ w. HasAt x (at_key m x) w) k at rest (n, there, astray)

  module _ (turns leaf : ℕ) (goes : GoesBefore pages bound turns root leaf) (n : WholeNode) (there : slice_get pages leaf ≡ Some (Node n)) (kind : n.is_index ≡ false) (has : HasBefore bound n) where
    -- the leaf has what the map has, from its beginning up to the bound
    shows : (other : Bytes) → IsAtMost n.lo other → IsBefore bound other → at_key n.pairs other ≡ option_map Value (at_key m other)
    shows other low here =
        let (y, before, so) = follows bound first pages turns root leaf goes in
        let (z, le, le', at) = higher (IsBefore bound) y other before here in
        let in' : IsInRange n z = inside bound n z has (at_most_trans n.lo other z low le') at in
        leaf-has pages root m tree z leaf n there (goes-finds pages z (λ pid k. (pid ≡ leaf) × IsInRange k z) turns root leaf (so z le at) (n, there, ((kind, in'), (refl, in')))) other (inside bound n other has low here)

    in-leaf : (key value : Bytes) → IsAtMost n.lo key → IsBefore bound key → at_key m key ≡ Some value → at_key n.pairs key ≡ Some (Value value)
    in-leaf key value low here is = shows key low here ∙ ap (λ (o : Option Bytes). option_map Value o) is

    pub last-here : IsWellFormed n → (pair : Bytes × Bytes) → IsGreatest (IsBefore bound) n pair → IsNextBelow m bound (Some pair)
    last-here well pair greatest =
        let (k, lt, is) = greatest.there in
        let range : IsInRange n pair.0 = contained (λ key. IsInRange n key) n.pairs pair.0 (Value pair.1) k well.in_range lt is in
        (value-is (at_key m pair.0) pair.1 (sym (shows pair.0 range.0 greatest.such) ∙ at-has n.pairs pair.0 (Value pair.1) well.ascending (k, lt, is)), greatest.such, λ key value is' here. by range key value is' here (side key n.lo))
      where
        by : IsInRange n pair.0 → (key value : Bytes) → at_key m key ≡ Some value → IsBefore bound key → IsBelow key n.lo ⊎ IsAtMost n.lo key → IsAtMost key pair.0
        by range key value is' here (inl lt) = at_most_trans key n.lo pair.0 (below_is_at_most key n.lo lt) range.0
        by range key value is' here (inr low) = at-all (λ other. IsBefore bound other → IsAtMost other pair.0) n.pairs key (Value value) greatest.greatest (in-leaf key value low here is') here

    -- where it has none, the map has none from its beginning on
    below-low : HasNone (IsBefore bound) n → (key value : Bytes) → at_key m key ≡ Some value → IsBefore bound key → IsBelow key n.lo
    below-low none key value is here = by (side key n.lo)
      where
        by : IsBelow key n.lo ⊎ IsAtMost n.lo key → IsBelow key n.lo
        by (inl lt) = lt
        by (inr low) = absurd (at-all (λ other. IsBefore bound other → ⊥) n.pairs key (Value value) none (in-leaf key value low here is) here)

    pub last-further : HasNone (IsBefore bound) n → (answer : Option (Bytes × Bytes)) → IsNextBelow m (Excluded n.lo) answer → IsNextBelow m bound answer
    last-further none (Some pair) next = (next.0, before-down bound n.lo pair.0 (low-before bound n first has) (below_is_at_most pair.0 n.lo next.1), λ key value is here. next.2 key value is (below-low none key value is here))
    last-further none None next = λ key value is here. next key value is (below-low none key value is here)

pub none-before-empty : (m : Map) → IsNextBelow m (Excluded []) None
none-before-empty m key value is here = never-below key here
