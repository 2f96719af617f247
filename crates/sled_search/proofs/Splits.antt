-- A node that was split: its left part stands in its place or on a new page, and leads on to its right part.
use Rattle.std.proofs.Common.{◌≡◌, ◌≢◌, ◌⊎◌, inl, inr, ℕ, Bool, true, false, List, [], ◌∷◌, Option, None, Some, refl, sym, ◌∙◌, subst}
use Rattle.std.specs.List.{AllByRecursion}
use Rattle.std.specs.declared.cmp.Ordering.{Ordering}
use Rattle.std.specs.declared.cmp.Ordering.TheVariants.{Less, Equal, Greater}
use Rattle.sled_base.specs.Order.{Bytes, bytes_cmp, IsBelow, IsAtMost}
use Rattle.sled_base.specs.OrderLaws.{below_or_same, below_trans, at_most_trans, below_is_at_most}
use Rattle.sled_node.specs.Node.{Item, WholeNode, IsInRange, IsWellFormed}
use Rattle.sled_node.specs.Splitting.{SplitsBehind, SeparatesAt, least, greatest}
use Rattle.sled_search.specs.Map.{at_key, leading}
use Rattle.sled_search.proofs.Edits.{at-append}
use Rattle.sled_search.proofs.Leading.{leading-append, leading-none, none-later, lt-false}
use Rattle.sled_search.proofs.Pairs.{all-weaker, at-lacks, same_or_not}

-- the node, leading on to the page
abbrev pub with_next : WholeNode → ℕ → WholeNode
with_next n page = record n { next = Some page }

-- below a string or not
pub side : (key s : Bytes) → IsBelow key s ⊎ IsAtMost s key
side key s = by (bytes_cmp key s)
  where
    by : (o : Ordering) → (o ≡ Less) ⊎ (o ≢ Less)
    by Less = inl refl
    by Equal = inr (λ e. absurd cc)
    by Greater = inr (λ e. absurd cc)

-- where the least key isn't above, some pair leads
some-leads : {V : Type 0} (pairs : List (Bytes × V)) (key : Bytes) (pair : Bytes × V) (rest : List (Bytes × V)) → pairs ≡ pair ∷ rest → IsAtMost pair.0 key → (item : V) × (leading pairs key ≡ Some item)
some-leads pairs key pair rest is le = rw is (by (leading rest key) refl)
  where
    by : (o : Option _) → leading rest key ≡ o → (item : _) × (leading (pair ∷ rest) key ≡ Some item)
    by (Some item) h = (item, rw h refl)
    by None h = (pair.1, rw (h, lt-false (bytes_cmp key pair.0) le) refl)

pub least-is : (index : Bool) (left : Option Bytes) (pairs : List (Bytes × Item)) (s : Bytes) → index ≡ true → SeparatesAt index left (least pairs) s → (pair : Bytes × Item) × (rest : List (Bytes × Item)) × (pairs ≡ pair ∷ rest) × (s ≡ pair.0)
least-is true (Some left) (pair ∷ rest) s is h = (pair, rest, refl, h)
least-is true (Some left) [] s is h = absurd h
least-is true None pairs s is h = absurd h
least-is false left pairs s is h = absurd cc

pub below_at_most : (a b c : Bytes) → IsBelow a b → IsAtMost b c → IsBelow a c
below_at_most a b c lt le = by (same_or_not b c)
  where
    by : (b ≡ c) ⊎ (b ≢ c) → IsBelow a c
    by (inl e) = subst (λ (x : Bytes). IsBelow a x) e lt
    by (inr other) = below_trans a b c lt (below_or_same b c le other)

module _ (n l r : WholeNode) {many : ℕ} (splits : SplitsBehind n many l r) (left_well : IsWellFormed l) (right_well : IsWellFormed r) (some : r.lo ≢ []) where
  left-some : l.hi ≢ []
  left-some e = some (sym splits.left_hi ∙ e)

  left-below : AllByRecursion (λ pair. IsBelow pair.0 r.lo) l.pairs
  left-below = all-weaker (λ pair. IsInRange l pair.0) (λ pair. IsBelow pair.0 r.lo) (λ pair in'. subst (λ (x : Bytes). IsBelow pair.0 x) splits.left_hi (in'.1 left-some)) l.pairs left_well.in_range

  right-above : AllByRecursion (λ pair. IsAtMost r.lo pair.0) r.pairs
  right-above = all-weaker (λ pair. IsInRange r pair.0) (λ pair. IsAtMost r.lo pair.0) (λ pair in'. in'.0) r.pairs right_well.in_range

  module _ (key : Bytes) where
    module _ (below : IsBelow key r.lo) where
      pub at-left : at_key n.pairs key ≡ at_key l.pairs key
      at-left = rw (← splits.pairs) (at-append l.pairs r.pairs key ∙ rw (at-lacks r.pairs key (all-weaker (λ pair. IsAtMost r.lo pair.0) (λ pair. pair.0 ≢ key) (λ pair le e. le (subst (λ (x : Bytes). IsBelow x r.lo) (sym e) below)) r.pairs right-above)) (none-later (at_key l.pairs key)))

      pub leading-left : leading n.pairs key ≡ leading l.pairs key
      leading-left = rw (← splits.pairs) (leading-append l.pairs r.pairs key ∙ rw (leading-none r.pairs key (all-weaker (λ pair. IsAtMost r.lo pair.0) (λ pair. IsBelow key pair.0) (λ pair le. below_at_most key r.lo pair.0 below le) r.pairs right-above)) refl)

      pub in-left : (page : ℕ) → IsInRange n key → IsInRange (with_next l page) key
      in-left page in' = (subst (λ (x : Bytes). IsAtMost x key) (sym splits.left_lo) in'.0, λ _. subst (λ (x : Bytes). IsBelow key x) (sym splits.left_hi) below)

    module _ (above : IsAtMost r.lo key) where
      pub at-right : at_key n.pairs key ≡ at_key r.pairs key
      at-right = rw (← splits.pairs) (at-append l.pairs r.pairs key ∙ rw (at-lacks l.pairs key (all-weaker (λ pair. IsBelow pair.0 r.lo) (λ pair. pair.0 ≢ key) (λ pair lt e. above (subst (λ (x : Bytes). IsBelow x r.lo) e lt)) l.pairs left-below)) refl)

      pub leading-right : n.is_index ≡ true → leading n.pairs key ≡ leading r.pairs key
      leading-right index =
          let (pair, rest, is, same) = least-is n.is_index (greatest l.pairs) r.pairs r.lo index splits.separator in
          let (item, leads) = some-leads r.pairs key pair rest is (subst (λ (x : Bytes). IsAtMost x key) same above) in
          rw (← splits.pairs) (leading-append l.pairs r.pairs key ∙ rw leads refl)

      pub out-left : (page : ℕ) → ¬ IsInRange (with_next l page) key
      out-left page in' = above (subst (λ (x : Bytes). IsBelow key x) splits.left_hi (in'.1 left-some))

      pub in-right : IsInRange n key → IsInRange r key
      in-right in' = (above, λ end. subst (λ (x : Bytes). IsBelow key x) (sym splits.right_hi) (in'.1 (λ e. end (splits.right_hi ∙ e))))

    -- what is in the range of a part is in that of the whole
    pub left-in : (page : ℕ) → IsInRange (with_next l page) key → IsInRange n key × IsBelow key r.lo
    left-in page in' =
        let below : IsBelow key r.lo = subst (λ (x : Bytes). IsBelow key x) splits.left_hi (in'.1 left-some) in
        ((subst (λ (x : Bytes). IsAtMost x key) splits.left_lo in'.0, λ end. below_trans key r.lo n.hi below (subst (λ (x : Bytes). IsBelow r.lo x) splits.right_hi (right_well.range (λ e. end (sym splits.right_hi ∙ e))))), below)

    pub right-in : IsInRange r key → IsInRange n key × IsAtMost r.lo key
    right-in in' =
        ((at_most_trans n.lo r.lo key (subst (λ (x : Bytes). IsAtMost x r.lo) splits.left_lo (subst (λ (x : Bytes). IsAtMost l.lo x) splits.left_hi (below_is_at_most l.lo l.hi (left_well.range left-some)))) in'.0, λ end. subst (λ (x : Bytes). IsBelow key x) splits.right_hi (in'.1 (λ e. end (sym splits.right_hi ∙ e)))), in'.0)
