-- Pairs that rise, and have the same at each key, are the same.
use Rattle.std.proofs.Common.{◌≡◌, ◌≢◌, ◌⊎◌, inl, inr, List, [], ◌∷◌, None, Some, refl, sym, ◌∙◌, ap, subst}
use Rattle.std.specs.List.{AllByRecursion}
use Rattle.sled_base.specs.Order.{Bytes, IsBelow, IsAtMost}
use Rattle.sled_base.specs.OrderLaws.{below_or_same, not_below_itself}
use Rattle.sled_node.specs.Pairs.{IsAscending}
use Rattle.sled_search.specs.Map.{at_key}
use Rattle.sled_search.proofs.Pairs.{all-above, at-lacks, eq-same, eq-other, same_or_not}
use Rattle.sled_search.proofs.Splits.{side}

module _ {V : Type 0} where
  -- what rises above a key lacks it
  lacks-above : (key : Bytes) (pairs : List (Bytes × V)) → AllByRecursion (λ later. IsBelow key later.0) pairs → AllByRecursion (λ pair. pair.0 ≢ key) pairs
  lacks-above key [] all = tt
  lacks-above key (pair ∷ pairs) all = (λ e. not_below_itself key (subst (λ (k : Bytes). IsBelow key k) e all.0), lacks-above key pairs all.1)

  pub none-above : (key : Bytes) (pairs : List (Bytes × V)) → AllByRecursion (λ later. IsBelow key later.0) pairs → at_key pairs key ≡ None
  none-above key pairs all = at-lacks pairs key (lacks-above key pairs all)

  here : (pair : Bytes × V) (pairs : List (Bytes × V)) → at_key (pair ∷ pairs) pair.0 ≡ Some pair.1
  here pair pairs = rw (eq-same pair.0) refl

  -- below all keys there is nothing
  none-before : (key : Bytes) (pair : Bytes × V) (pairs : List (Bytes × V)) → IsAscending (pair ∷ pairs) → IsBelow key pair.0 → at_key (pair ∷ pairs) key ≡ None
  none-before key pair pairs up lt = none-above key (pair ∷ pairs) (lt, all-above key pair.0 pairs lt up.0)

  not-none : (v : V) → Some v ≡ None → ⊥
  not-none v h = absurd (let e = h in cc)

  -- the first keys are the same
  first-same : (x y : Bytes × V) (xs ys : List (Bytes × V)) → IsAscending (x ∷ xs) → IsAscending (y ∷ ys) → ((k : Bytes) → at_key (x ∷ xs) k ≡ at_key (y ∷ ys) k) → x.0 ≡ y.0
  first-same x y xs ys up up' same = by (same_or_not x.0 y.0)
    where
      lower : IsBelow x.0 y.0 ⊎ IsAtMost y.0 x.0 → x.0 ≢ y.0 → x.0 ≡ y.0
      lower (inl lt) other = absurd (not-none x.1 (sym (here x xs) ∙ same x.0 ∙ none-before x.0 y ys up' lt))
      lower (inr le) other = absurd (not-none y.1 (sym (here y ys) ∙ sym (same y.0) ∙ none-before y.0 x xs up (below_or_same y.0 x.0 le (λ e. other (sym e)))))

      by : (x.0 ≡ y.0) ⊎ (x.0 ≢ y.0) → x.0 ≡ y.0
      by (inl e) = e
      by (inr other) = lower (side x.0 y.0) other

  some-same : (v w : V) → Some v ≡ Some w → v ≡ w
  some-same v w h = cc

  pair-same : (x y : Bytes × V) → x.0 ≡ y.0 → x.1 ≡ y.1 → x ≡ y
  pair-same (a, v) (b, w) e f = cc

  pub same-pairs : (xs ys : List (Bytes × V)) → IsAscending xs → IsAscending ys → ((k : Bytes) → at_key xs k ≡ at_key ys k) → xs ≡ ys
  same-pairs [] [] up up' same = refl
  same-pairs [] (y ∷ ys) up up' same = absurd (not-none y.1 (sym (here y ys) ∙ sym (same y.0)))
  same-pairs (x ∷ xs) [] up up' same = absurd (not-none x.1 (sym (here x xs) ∙ same x.0))
  same-pairs (x ∷ xs) (y ∷ ys) up up' same =
      let key : x.0 ≡ y.0 = first-same x y xs ys up up' same in
      let value : x.1 ≡ y.1 = some-same x.1 y.1 (sym (here x xs) ∙ same x.0 ∙ ap (λ (k : Bytes). at_key (y ∷ ys) k) key ∙ here y ys) in
      let first : x ≡ y = pair-same x y key value in
      let rest : xs ≡ ys = same-pairs xs ys up.1 up'.1 (λ k. tails k key (same_or_not x.0 k)) in
      cc
    where
      tails : (k : Bytes) → x.0 ≡ y.0 → (x.0 ≡ k) ⊎ (x.0 ≢ k) → at_key xs k ≡ at_key ys k
      tails k key (inl e) = none-above k xs (subst (λ (b : Bytes). AllByRecursion (λ later. IsBelow b later.0) xs) e up.0) ∙ sym (none-above k ys (subst (λ (b : Bytes). AllByRecursion (λ later. IsBelow b later.0) ys) (sym key ∙ e) up'.0))
      tails k key (inr other) = sym (rw (eq-other x.0 k other) refl) ∙ same k ∙ rw (eq-other y.0 k (λ e. other (key ∙ e))) refl
