-- Lists in a relation, item by item, stay so when both are changed alike.
use Rattle.std.proofs.Common.{ℕ, zero, suc, ◌<◌, List, [], ◌∷◌, ◌++◌, length, set, get_or, arith}
use Rattle.std.specs.List.{AllZip}

module _ {A B : Type 0} (R : A → B → Type 0) where
  pub zip-append : (xs : List A) (ys : List B) (vs : List A) (ws : List B) → AllZip R xs ys → AllZip R vs ws → AllZip R (xs ++ vs) (ys ++ ws)
  zip-append [] [] vs ws h i = i
  zip-append (x ∷ xs) (y ∷ ys) vs ws h i = (h.0, zip-append xs ys vs ws h.1 i)
  zip-append [] (y ∷ ys) vs ws h i = absurd h
  zip-append (x ∷ xs) [] vs ws h i = absurd h

  pub zip-set : (i : ℕ) (xs : List A) (ys : List B) (x : A) (y : B) → AllZip R xs ys → R x y → AllZip R (set xs i x) (set ys i y)
  zip-set i [] [] x y h r = tt
  zip-set zero (w ∷ xs) (z ∷ ys) x y h r = (r, h.1)
  zip-set (suc i) (w ∷ xs) (z ∷ ys) x y h r = (h.0, zip-set i xs ys x y h.1 r)
  zip-set i [] (z ∷ ys) x y h r = absurd h
  zip-set i (w ∷ xs) [] x y h r = absurd h

  pub zip-at : (i : ℕ) (xs : List A) (ys : List B) (d : A) (e : B) → AllZip R xs ys → i < length ys → R (get_or xs i d) (get_or ys i e)
  zip-at i [] [] d e h lt = absurd (omega (arith, lt))
  zip-at zero (w ∷ xs) (z ∷ ys) d e h lt = h.0
  zip-at (suc i) (w ∷ xs) (z ∷ ys) d e h lt = zip-at i xs ys d e h.1 (omega (arith, lt))
  zip-at i [] (z ∷ ys) d e h lt = absurd h
  zip-at i (w ∷ xs) [] d e h lt = absurd h
