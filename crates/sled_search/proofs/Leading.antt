-- What the last pair has whose key isn't above a key.
use Rattle.std.proofs.Common.{◌≡◌, ℕ, zero, suc, true, false, List, [], ◌∷◌, ◌++◌, Option, None, Some, slice_get, refl, sym, ◌∙◌, ap, drop, cond}
use Rattle.std.proofs.Math.Numerals.{add-one}
use Rattle.std.specs.List.{AllByRecursion}
use Rattle.std.specs.declared.cmp.Ordering.{Ordering}
use Rattle.std.specs.declared.cmp.Ordering.TheVariants.{Less, Equal, Greater}
use Rattle.std.specs.Ordering.{is_lt}
use Rattle.sled_base.specs.Order.{Bytes, bytes_cmp, is_below, IsBelow, IsAtMost}
use Rattle.sled_node.specs.Children.{IsLeadingPair}
use Rattle.sled_search.specs.Map.{or_else, leading}

pub lt-true : (o : Ordering) → o ≡ Less → is_lt o ≡ true
lt-true Less h = refl
lt-true Equal h = absurd cc
lt-true Greater h = absurd cc

pub lt-false : (o : Ordering) → (o ≡ Less → ⊥) → is_lt o ≡ false
lt-false Less h = absurd (h refl)
lt-false Equal h = refl
lt-false Greater h = refl

module _ {V : Type 0} where
  -- none, where all are above
  pub leading-none : (pairs : List (Bytes × V)) (key : Bytes) → AllByRecursion (λ pair. IsBelow key pair.0) pairs → leading pairs key ≡ None
  leading-none [] key h = refl
  leading-none (pair ∷ pairs) key h = rw (leading-none pairs key h.1, lt-true (bytes_cmp key pair.0) h.0) refl

  at : (pairs : List (Bytes × V)) (key : Bytes) (i : ℕ) (found : Bytes) (item : V) → slice_get pairs i ≡ Some (found, item) → IsAtMost found key → AllByRecursion (λ later. IsBelow key later.0) (drop (suc i) pairs) → leading pairs key ≡ Some item
  at [] key i found item here le behind = absurd (let e = here in cc)
  at (pair ∷ pairs) key zero found item here le behind =
      let e : pair ≡ (found, item) = cc in
      rw (e, leading-none pairs key behind, lt-false (bytes_cmp key found) le) refl
  at (pair ∷ pairs) key (suc i) found item here le behind = rw (at pairs key i found item here le behind) refl

  pub leading-at : (pairs : List (Bytes × V)) (key : Bytes) (i : ℕ) (item : V) → IsLeadingPair pairs key i item → leading pairs key ≡ Some item
  leading-at pairs key i item is = at pairs key i is.found item is.here is.at_most (rw add-one at is.behind)

  pub none-later : (o : Option V) → or_else o None ≡ o
  none-later (Some v) = refl
  none-later None = refl

  in-three : (a b c : Option V) → or_else (or_else a b) c ≡ or_else a (or_else b c)
  in-three (Some v) b c = refl
  in-three None b c = refl

  pub leading-append : (xs ys : List (Bytes × V)) (key : Bytes) → leading (xs ++ ys) key ≡ or_else (leading ys key) (leading xs key)
  leading-append [] ys key = sym (none-later (leading ys key))
  leading-append (x ∷ xs) ys key = ap (λ (o : Option V). or_else o (cond (is_below key x.0) None (Some x.1))) (leading-append xs ys key) ∙ in-three (leading ys key) (leading xs key) (cond (is_below key x.0) None (Some x.1))
