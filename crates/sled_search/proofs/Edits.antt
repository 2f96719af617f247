-- What pairs have at a key once one of them was set, or taken out.
use Rattle.std.proofs.Common.{◌≡◌, ◌≢◌, Bool, true, false, List, [], ◌∷◌, ◌++◌, Option, None, Some, refl, ◌∙◌, ap, subst, cond}
use Rattle.std.specs.Prelude.{filter}
use Rattle.std.specs.Str.{bytes_eq}
use Rattle.sled_base.specs.Order.{Bytes, bytes_cmp, is_below}
use Rattle.sled_base.specs.OrderLaws.{not_below_itself, below_trans, below_or_same}
use Rattle.sled_node.specs.Pairs.{set_pair, del_pair, pairs_below, pairs_above}
use Rattle.std.specs.declared.cmp.Ordering.{Ordering}
use Rattle.std.specs.declared.cmp.Ordering.TheVariants.{Less, Equal, Greater}
use Rattle.std.specs.Ordering.{is_lt}
use Rattle.sled_search.specs.Map.{at_key, or_else}
use Rattle.sled_search.proofs.Pairs.{eq-same, eq-other}

lt-is : (o : Ordering) → is_lt o ≡ true → o ≡ Less
lt-is Less h = refl
lt-is Equal h = absurd cc
lt-is Greater h = absurd cc

lt-not : (o : Ordering) → is_lt o ≡ false → o ≢ Less
lt-not Less h = absurd cc
lt-not Equal h = λ e. cc
lt-not Greater h = λ e. cc

not-lt : (o : Ordering) → (o ≡ Less → ⊥) → is_lt o ≡ false
not-lt Less h = absurd (h refl)
not-lt Equal h = refl
not-lt Greater h = refl

choose : {V : Type 0} (e : Bool) (v : V) (first later : Option V) → cond e (Some v) (or_else first later) ≡ or_else (cond e (Some v) first) later
choose true v first later = refl
choose false v first later = refl

module _ {V : Type 0} where
  pub at-append : (xs ys : List (Bytes × V)) (k : Bytes) → at_key (xs ++ ys) k ≡ or_else (at_key xs k) (at_key ys k)
  at-append [] ys k = refl
  at-append (x ∷ xs) ys k = ap (λ (o : Option V). cond (bytes_eq x.0 k) (Some x.1) o) (at-append xs ys k) ∙ choose (bytes_eq x.0 k) x.1 (at_key xs k) (at_key ys k)

  module _ (test : Bytes → Bool) (k : Bytes) where
    -- a pair that isn't kept has another key
    skip : (passes : test k ≡ true) (x : Bytes × V) (b : Bool) → test x.0 ≡ b → (rest kept : Option V) → (at : List (Bytes × V)) → kept ≡ rest → at_key at k ≡ kept → at_key (cond b (x ∷ at) at) k ≡ cond (bytes_eq x.0 k) (Some x.1) rest
    skip passes x true is rest kept at same found = ap (λ (o : Option V). cond (bytes_eq x.0 k) (Some x.1) o) (found ∙ same)
    skip passes x false is rest kept at same found = rw (eq-other x.0 k (λ e. let p = subst (λ (y : Bytes). test y ≡ false) e is in let q = passes in absurd cc)) (found ∙ same)

    at-kept : test k ≡ true → (xs : List (Bytes × V)) → at_key (filter (λ pair. test pair.0) xs) k ≡ at_key xs k
    at-kept passes [] = refl
    at-kept passes (x ∷ xs) = skip passes x (test x.0) refl (at_key xs k) (at_key (filter (λ pair. test pair.0) xs) k) (filter (λ pair. test pair.0) xs) (at-kept passes xs) refl

    drop_one : (fails : test k ≡ false) (x : Bytes × V) (b : Bool) → test x.0 ≡ b → (at : List (Bytes × V)) → at_key at k ≡ None → at_key (cond b (x ∷ at) at) k ≡ None
    drop_one fails x true is at none = rw (eq-other x.0 k (λ e. let p = subst (λ (y : Bytes). test y ≡ true) e is in let q = fails in absurd cc)) none
    drop_one fails x false is at none = none

    at-dropped : test k ≡ false → (xs : List (Bytes × V)) → at_key (filter (λ pair. test pair.0) xs) k ≡ None
    at-dropped fails [] = refl
    at-dropped fails (x ∷ xs) = drop_one fails x (test x.0) refl (filter (λ pair. test pair.0) xs) (at-dropped fails xs)

  -- ---- a key that is set, and others

  module _ (key : Bytes) (pairs : List (Bytes × V)) where
    below-none : at_key (pairs_below key pairs) key ≡ None
    below-none = at-dropped (λ k. is_below k key) key (not-lt (bytes_cmp key key) (not_below_itself key)) pairs

    above-none : at_key (pairs_above key pairs) key ≡ None
    above-none = at-dropped (λ k. is_below key k) key (not-lt (bytes_cmp key key) (not_below_itself key)) pairs

    pub at-set : (item : V) → at_key (set_pair key item pairs) key ≡ Some item
    at-set item = at-append (pairs_below key pairs) ((key, item) ∷ pairs_above key pairs) key ∙ rw (below-none, eq-same key) refl

    pub at-del : at_key (del_pair key pairs) key ≡ None
    at-del = at-append (pairs_below key pairs) (pairs_above key pairs) key ∙ rw (below-none, above-none) refl

    module _ (k : Bytes) (other : key ≢ k) where
      none-later : (o : Option V) → or_else o None ≡ o
      none-later (Some v) = refl
      none-later None = refl

      both-sides : (b : Bool) → is_below k key ≡ b → or_else (at_key (pairs_below key pairs) k) (at_key (pairs_above key pairs) k) ≡ at_key pairs k
      both-sides true is = rw (at-kept (λ q. is_below q key) k is pairs, at-dropped (λ q. is_below key q) k (not-lt (bytes_cmp key k) (λ lt. not_below_itself k (below_trans k key k (lt-is (bytes_cmp k key) is) lt))) pairs) (none-later (at_key pairs k))
      both-sides false is = rw (at-dropped (λ q. is_below q key) k is pairs) (at-kept (λ q. is_below key q) k (lt-true (bytes_cmp key k) (below_or_same key k (lt-not (bytes_cmp k key) is) other)) pairs)
        where
          lt-true : (o : Ordering) → o ≡ Less → is_lt o ≡ true
          lt-true Less h = refl
          lt-true Equal h = absurd cc
          lt-true Greater h = absurd cc

      pub at-set-other : (item : V) → at_key (set_pair key item pairs) k ≡ at_key pairs k
      at-set-other item = at-append (pairs_below key pairs) ((key, item) ∷ pairs_above key pairs) k ∙ rw (eq-other key k other) (both-sides (is_below k key) refl)

      pub at-del-other : at_key (del_pair key pairs) k ≡ at_key pairs k
      at-del-other = at-append (pairs_below key pairs) (pairs_above key pairs) k ∙ both-sides (is_below k key) refl
