-- What a list contains.
use Rattle.std.specs.Prelude.{◌≡◌, ◌⊎◌, ◌<◌, ◌-◌, zero, suc, Bool, true, false, List, [], ◌∷◌, ◌++◌, length, map, reverse, filter, Contains, refl}
use Rattle.std.proofs.Common.{inl, inr, sym, ap, subst, ◌∙◌, cond, get_or, arith}
use Rattle.std.proofs.lemmas.List.{get_or-reverse, length-reverse}
use Rattle.std.proofs.lemmas.List.Elements.{Contains-append_right}

pub contains_first : {X : Type 0} (x : X) (xs : List X) → Contains (x ∷ xs) x
contains_first x xs = (0, omega arith, refl)

pub contains_later : {X : Type 0} (y : X) (xs : List X) (x : X) → Contains xs x → Contains (y ∷ xs) x
contains_later y xs x (k, lt, is) = (suc k, omega arith, is)

pub contains_cases : {X : Type 0} (y : X) (xs : List X) (x : X) → Contains (y ∷ xs) x → (y ≡ x) ⊎ Contains xs x
contains_cases y xs x (zero, lt, is) = inl is
contains_cases y xs x (suc k, lt, is) = inr (k, omega arith, is)

pub contains_none : {X : Type 0} (x : X) → Contains [] x → ⊥
contains_none x (k, lt, is) = omega arith

pub contains_mid : {X : Type 0} (front : List X) (x : X) (back : List X) → Contains (front ++ x ∷ back) x
contains_mid front x back = Contains-append_right front (x ∷ back) x (contains_first x back)

pub contains-map : {X Y : Type 0} (f : X → Y) (xs : List X) (x : X) → Contains xs x → Contains (map f xs) (f x)
contains-map f [] x h = absurd (contains_none x h)
contains-map f (y ∷ xs) x h =
    elim (contains_cases y xs x h) [ inl same ↦ subst (λ z. Contains (f y ∷ map f xs) (f z)) same (contains_first (f y) (map f xs)) | inr later ↦ contains_later (f y) (map f xs) (f x) (contains-map f xs x later) ]

-- each element of a mapped list is the image of an element of the list
pub record IsMapped {X Y : Type 0} (f : X → Y) (xs : List X) (y : Y) : Type 0 where
  pub from : X
  pub there : Contains xs from
  pub is : f from ≡ y

pub mapped_from : {X Y : Type 0} (f : X → Y) (xs : List X) (y : Y) → Contains (map f xs) y → IsMapped f xs y
mapped_from f [] y h = absurd (contains_none y h)
mapped_from f (x ∷ xs) y h =
    elim (contains_cases (f x) (map f xs) y h) [ inl same ↦ record { from = x; there = contains_first x xs; is = same } | inr later ↦ (let m = mapped_from f xs y later in record { from = m.from; there = contains_later x xs m.from m.there; is = m.is }) ]

-- a list that contains an element is a front, the element, and a back
pub record IsSplit {X : Type 0} (xs : List X) (x : X) : Type 0 where
  pub front : List X
  pub back : List X
  pub is : xs ≡ front ++ x ∷ back

pub split_at : {X : Type 0} (xs : List X) (x : X) → Contains xs x → IsSplit xs x
split_at [] x h = absurd (contains_none x h)
split_at (y ∷ xs) x h =
    elim (contains_cases y xs x h) [ inl same ↦ record { front = []; back = xs; is = ap (λ z. z ∷ xs) same } | inr later ↦ (let s = split_at xs x later in record { front = y ∷ s.front; back = s.back; is = ap (λ zs. y ∷ zs) s.is }) ]

pub contains-reverse : {X : Type 0} (xs : List X) (x : X) → Contains (reverse xs) x → Contains xs x
contains-reverse xs x (k, lt, is) =
    let within : k < length xs = omega (arith, length-reverse xs) in
    (length xs - 1 - k, omega arith, sym (get_or-reverse xs k x within) ∙ is)

-- and the other way round
pub contains-of_reverse : {X : Type 0} (xs : List X) (x : X) → Contains xs x → Contains (reverse xs) x
contains-of_reverse xs x (k, lt, is) =
    let at : length xs - 1 - (length xs - 1 - k) ≡ k = omega arith in
    (length xs - 1 - k, omega (arith, length-reverse xs), get_or-reverse xs (length xs - 1 - k) x (omega arith) ∙ ap (λ j. get_or xs j x) at ∙ is)

-- ---- a filter

module _ {X : Type 0} (p : X → Bool) where
  pub filter-cons_kept : (x : X) (xs : List X) → p x ≡ true → filter p (x ∷ xs) ≡ x ∷ filter p xs
  filter-cons_kept x xs passes = ap (λ b. cond b (x ∷ filter p xs) (filter p xs)) passes

  pub filter-cons_left_out : (x : X) (xs : List X) → p x ≡ false → filter p (x ∷ xs) ≡ filter p xs
  filter-cons_left_out x xs fails = ap (λ b. cond b (x ∷ filter p xs) (filter p xs)) fails

  pub contains-filter : (xs : List X) (x : X) → p x ≡ true → Contains xs x → Contains (filter p xs) x
  contains-filter [] x passes h = absurd (contains_none x h)
  contains-filter (y ∷ xs) x passes h = of_cases (p y) refl (contains_cases y xs x h) (λ later. contains-filter xs x passes later)
    where
      of_cases : (b : Bool) → p y ≡ b → (y ≡ x) ⊎ Contains xs x → (Contains xs x → Contains (filter p xs) x) → Contains (cond b (y ∷ filter p xs) (filter p xs)) x
      of_cases true e (inl same) rest = subst (λ z. Contains (y ∷ filter p xs) z) same (contains_first y (filter p xs))
      of_cases true e (inr later) rest = contains_later y (filter p xs) x (rest later)
      of_cases false e (inl same) rest = absurd (let q : p x ≡ false = ap p (sym same) ∙ e in cc)
      of_cases false e (inr later) rest = rest later

  pub filter_contains : (xs : List X) (x : X) → Contains (filter p xs) x → Contains xs x × (p x ≡ true)
  filter_contains [] x h = absurd (contains_none x h)
  filter_contains (y ∷ xs) x h = of_cases (p y) refl h (λ later. filter_contains xs x later)
    where
      of_cases : (b : Bool) → p y ≡ b → Contains (cond b (y ∷ filter p xs) (filter p xs)) x → (Contains (filter p xs) x → Contains xs x × (p x ≡ true)) → Contains (y ∷ xs) x × (p x ≡ true)
      of_cases true e h rest =
          elim (contains_cases y (filter p xs) x h) [ inl same ↦ (subst (λ z. Contains (y ∷ xs) z) same (contains_first y xs), ap p (sym same) ∙ e) | inr later ↦ (let r = rest later in (contains_later y xs x r.0, r.1)) ]
      of_cases false e h rest = let r = rest h in (contains_later y xs x r.0, r.1)
