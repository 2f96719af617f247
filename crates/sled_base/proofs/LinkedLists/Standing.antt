-- How often a place stands among slots, and what follows of where it stands.
use Rattle.std.proofs.Common.{inl, inr, ◌≡◌, ℕ, zero, suc, ◌+◌, ◌<◌, ◌≤◌, true, cond, eqb, Option, Some, None, List, [], ◌∷◌, ◌++◌, refl, sym, ap, ◌∙◌, subst, eq-eqb, arith}
use Rattle.std.specs.Prelude.{Contains, IfSome, IfNone}
use Rattle.std.proofs.lemmas.Bool.{cases_Bool, eqb-true}
use Rattle.std.proofs.lemmas.Option.{none-some, same_Some}
use Rattle.std.proofs.lemmas.List.{map-append}
use Rattle.sled_base.specs.Dll.{Listed, listed, slots, last_slot_or, last_slot, AreDistinct, IsPromoted, IsRenewed}
use Rattle.sled_base.specs.Links.{first_slot_or, times, TakesOut}
use Rattle.sled_base.specs.declared.dll.Slot.{Slot}

pub times-append : (place : ℕ) (xs ys : List Slot) → times place (xs ++ ys) ≡ times place xs + times place ys
times-append place [] ys = omega arith
times-append place (x ∷ xs) ys = omega (arith, times-append place xs ys)

pub slots-append : (xs ys : List Listed) → slots (xs ++ ys) ≡ slots xs ++ slots ys
slots-append xs ys = map-append (λ (x : Listed). x.slot) xs ys

pub times-slots_append : (place : ℕ) (xs ys : List Listed) → times place (slots (xs ++ ys)) ≡ times place (slots xs) + times place (slots ys)
times-slots_append place xs ys = ap (times place) (slots-append xs ys) ∙ times-append place (slots xs) (slots ys)

pub one_there : (place : ℕ) → (cond {A = ℕ} (eqb place place) 1 0) ≡ 1
one_there place = let there : eqb place place ≡ true = eq-eqb place place refl in rw there

pub times_from_contains : (xs : List Slot) (slot : Slot) → Contains xs slot → 0 < times slot.0 xs
times_from_contains [] slot (k, within, here) = absurd (omega arith)
times_from_contains (x ∷ xs) slot (zero, within, here) =
    let there : eqb x.0 slot.0 ≡ true = eq-eqb x.0 slot.0 (ap (λ (s : Slot). s.0) here) in
    rw there (omega arith)
times_from_contains (x ∷ xs) slot (suc k, within, here) =
    omega (arith, times_from_contains xs slot (k, omega arith, here))

pub contains_from_times : (xs : List Slot) (slot : Slot) → 0 < times slot.0 xs → Contains xs slot
contains_from_times [] slot some = absurd (omega arith)
contains_from_times (x ∷ xs) slot some =
    elim (cases_Bool (eqb x.0 slot.0)) [
      | inl there ↦ (let P : ℕ → Type 0 = λ n. x ≡ record { 0 = n } in (zero, omega arith, subst P (eqb-true x.0 slot.0 there) refl))
      | inr other ↦ (let rest : 0 < 0 + times slot.0 xs = rw other at some in let found = contains_from_times xs slot (omega arith) in (suc found.0, omega (arith, found.1), found.2))
    ]

pub distinct_from_times : (xs : List Slot) → ((place : ℕ) → times place xs ≤ 1) → AreDistinct xs
distinct_from_times [] once = tt
distinct_from_times (x ∷ xs) once =
    (λ again. omega (arith, times_from_contains xs x again, one_there x.0, once x.0), distinct_from_times xs (λ place. omega (arith, once place)))

-- where an item with the slot stands
pub record StandsIn (slot : Slot) (list : List Listed) : Type 0 where
  pub front : List Listed
  pub item : ℕ
  pub back : List Listed
  pub is : list ≡ front ++ listed slot item ∷ back

pub stands_from_times : (list : List Listed) (slot : Slot) → 0 < times slot.0 (slots list) → StandsIn slot list
stands_from_times [] slot some = absurd (omega arith)
stands_from_times (x ∷ list) slot some =
    elim (cases_Bool (eqb x.slot.0 slot.0)) [
      | inl there ↦ (let P : ℕ → Type 0 = λ n. x ∷ list ≡ listed (record { 0 = n }) x.item ∷ list in record { front = []; item = x.item; back = list; is = subst P (eqb-true x.slot.0 slot.0 there) refl })
      | inr other ↦ (let rest : 0 < 0 + times slot.0 (slots list) = rw other at some in let found = stands_from_times list slot (omega arith) in record { front = x ∷ found.front; item = found.item; back = found.back; is = ap (λ others. x ∷ others) found.is })
    ]

pub times_of_split : (place : ℕ) (front back : List Listed) (x : Listed) → times place (slots (front ++ x ∷ back)) ≡ times place (slots front) + ((cond {A = ℕ} (eqb x.slot.0 place) 1 0) + times place (slots back))
times_of_split place front back x = times-slots_append place front (x ∷ back)

pub live_from_split : (list front back : List Listed) (slot : Slot) (item : ℕ) → list ≡ front ++ listed slot item ∷ back → Contains (slots list) slot
live_from_split list front back slot item is =
    subst (λ (l : List Listed). Contains (slots l) slot) (sym is) (contains_from_times (slots (front ++ listed slot item ∷ back)) slot (omega (arith, times_of_split slot.0 front back (listed slot item), one_there slot.0)))

-- the items at the ends
pub record IsFirst (slot : Slot) (list : List Listed) : Type 0 where
  pub item : ℕ
  pub back : List Listed
  pub is : list ≡ listed slot item ∷ back

pub first_from : (list : List Listed) (slot : Slot) → first_slot_or None list ≡ Some slot → IsFirst slot list
first_from [] slot is = absurd cc
first_from (x ∷ list) slot is =
    record { item = x.item; back = list; is = ap (λ (s : Slot). listed s x.item ∷ list) (same_Some x.slot slot is) }

pub none_first : (list : List Listed) → first_slot_or None list ≡ None → list ≡ []
none_first [] is = refl
none_first (x ∷ list) is = absurd cc

pub record IsLast (slot : Slot) (list : List Listed) : Type 0 where
  pub front : List Listed
  pub item : ℕ
  pub is : list ≡ front ++ listed slot item ∷ []

last_of_some : (x : Listed) (list : List Listed) (slot : Slot) → last_slot_or (Some x.slot) list ≡ Some slot → IsLast slot (x ∷ list)
last_of_some x [] slot is =
    record { front = []; item = x.item; is = ap (λ (s : Slot). listed s x.item ∷ []) (same_Some x.slot slot is) }
last_of_some x (y ∷ list) slot is =
    let found = last_of_some y list slot is in
    record { front = x ∷ found.front; item = found.item; is = ap (λ others. x ∷ others) found.is }

some_last : (slot : Slot) (list : List Listed) → last_slot_or (Some slot) list ≡ None → ⊥
some_last slot [] is = cc
some_last slot (x ∷ list) is = some_last x.slot list is

pub last_from : (list : List Listed) (slot : Slot) → last_slot list ≡ Some slot → IsLast slot list
last_from [] slot is = absurd cc
last_from (x ∷ list) slot is = last_of_some x list slot is

pub none_last : (list : List Listed) → last_slot list ≡ None → list ≡ []
none_last [] is = refl
none_last (x ∷ list) is = absurd (some_last x.slot list is)

-- what the ends say of the list
pub first_live : (list : List Listed) (at : Option Slot) → at ≡ first_slot_or None list → IfSome at (Contains (slots list))
first_live list None is = tt
first_live list (Some slot) is =
    let first = first_from list slot (sym is) in
    live_from_split list [] first.back slot first.item first.is

pub first_empty : (list : List Listed) (at : Option Slot) → at ≡ first_slot_or None list → IfNone at (list ≡ [])
first_empty list None is = none_first list (sym is)
first_empty list (Some slot) is = tt

pub last_live : (list : List Listed) (at : Option Slot) → at ≡ last_slot list → IfSome at (Contains (slots list))
last_live list None is = tt
last_live list (Some slot) is =
    let last = last_from list slot (sym is) in
    live_from_split list last.front [] slot last.item last.is

pub last_empty : (list : List Listed) (at : Option Slot) → at ≡ last_slot list → IfNone at (list ≡ [])
last_empty list None is = none_last list (sym is)
last_empty list (Some slot) is = tt

-- the first item stands where it is put
pub promotes-first : (slot first : Slot) (list : List Listed) → first_slot_or None list ≡ Some first → first.0 ≡ slot.0 → IsPromoted slot list list
promotes-first slot first [] is same = absurd (none-some first is)
promotes-first slot first (l ∷ list) is same =
    let named : l ≡ listed slot l.item = ap (λ (s : Slot). listed s l.item) (same_Some l.slot first is ∙ ap (λ n. record { 0 = n }) same) in
    record {
      before = [];
      item = l.item;
      after = list;
      is = ap (λ (x : Listed). x ∷ list) named;
      then = ap (λ (x : Listed). x ∷ list) named;
    }

-- an item that was taken out stands first
pub promotes : (slot : Slot) (item : ℕ) (found old middle new : List Listed) → found ≡ old → Contains (slots old) slot → TakesOut slot item found middle → new ≡ listed slot item ∷ middle → IsPromoted slot old new
promotes slot item found old middle new same live taken is =
    let stands = stands_from_times old slot (times_from_contains (slots old) slot live) in
    let out = taken stands.front stands.back stands.item (same ∙ stands.is) in
    record {
      before = stands.front;
      item = stands.item;
      after = stands.back;
      is = stands.is;
      then = is ∙ rw (out.0, out.1) refl;
    }

-- the same under another item
pub renews-first : (slot first : Slot) (item other : ℕ) (list : List Listed) → first_slot_or None list ≡ Some first → first.0 ≡ slot.0 → item ≡ other → ((front back : List Listed) (x : ℕ) → list ≡ front ++ listed slot x ∷ back → item ≡ x) → IsRenewed slot other list list
renews-first slot first item other list is same equal item_is =
    let promoted = promotes-first slot first list is same in
    let kept : promoted.item ≡ other = sym (item_is promoted.before promoted.after promoted.item promoted.is) ∙ equal in
    record {
      before = promoted.before;
      was = promoted.item;
      after = promoted.after;
      is = promoted.is;
      then = promoted.then ∙ ap (λ x. listed slot x ∷ (promoted.before ++ promoted.after)) kept;
    }

pub renews : (slot : Slot) (item other : ℕ) (found old middle new : List Listed) → found ≡ old → Contains (slots old) slot → TakesOut slot item found middle → new ≡ listed slot other ∷ middle → IsRenewed slot other old new
renews slot item other found old middle new same live taken is =
    let promoted = promotes slot item found old middle (listed slot item ∷ middle) same live taken refl in
    let out = taken promoted.before promoted.after promoted.item (same ∙ promoted.is) in
    record {
      before = promoted.before;
      was = promoted.item;
      after = promoted.after;
      is = promoted.is;
      then = is ∙ ap (λ list. listed slot other ∷ list) out.1;
    }
