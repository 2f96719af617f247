-- Cells that are linked, after some of them are changed.
use Rattle.std.proofs.Common.{◌≡◌, ◌≢◌, ℕ, zero, suc, ◌<◌, ◌≤◌, cond, eqb, Option, Some, None, List, [], ◌∷◌, ◌++◌, length, set, refl, ap, ◌∙◌, arith}
use Rattle.std.specs.List.{slice_get}
use Rattle.std.proofs.lemmas.Option.{same_Some}
use Rattle.sled_base.specs.Dll.{Listed, slots, last_slot_or, last_slot}
use Rattle.sled_base.specs.Links.{first_slot_or, AreLinked, AreFree, times, ChangesLink, with_before, with_after, listed_from}
use Rattle.sled_base.specs.declared.dll.Slot.{Slot}
use Rattle.sled_base.specs.declared.dll.cell.Link.{Link}
use Rattle.sled_base.specs.declared.dll.cell.Cell.{Cell}
use Rattle.sled_base.proofs.LinkedLists.Standing.{one_there}

-- a cell that was set, and the others
pub get_set_there : {X : Type 0} (xs : List X) (place : ℕ) (x : X) → place < length xs → slice_get (set xs place x) place ≡ Some x
get_set_there [] place x within = absurd (omega arith)
get_set_there (y ∷ xs) zero x within = refl
get_set_there (y ∷ xs) (suc place) x within = get_set_there xs place x (omega arith)

pub get_set_other : {X : Type 0} (xs : List X) (place other : ℕ) (x : X) → place ≢ other → slice_get (set xs place x) other ≡ slice_get xs other
get_set_other [] place other x differ = refl
get_set_other (y ∷ xs) zero zero x differ = absurd (differ refl)
get_set_other (y ∷ xs) zero (suc other) x differ = refl
get_set_other (y ∷ xs) (suc place) zero x differ = refl
get_set_other (y ∷ xs) (suc place) (suc other) x differ = get_set_other xs place other x (λ same. differ (ap suc same))

pub get_pushed : {X : Type 0} (xs : List X) (x : X) (place : ℕ) → place < length xs → slice_get (xs ++ x ∷ []) place ≡ slice_get xs place
get_pushed [] x place within = absurd (omega arith)
get_pushed (y ∷ xs) x zero within = refl
get_pushed (y ∷ xs) x (suc place) within = get_pushed xs x place (omega arith)

-- the cells of the slots are as they were
abbrev pub Keeps : List Slot → List Cell → List Cell → Type 0
Keeps slots old new = (place : ℕ) → 0 < times place slots → slice_get new place ≡ slice_get old place

pub keeps_rest : (slot : Slot) (others : List Slot) (old new : List Cell) → Keeps (slot ∷ others) old new → Keeps others old new
keeps_rest slot others old new keeps place some = keeps place (omega arith)

pub linked_kept : (old new : List Cell) (list : List Listed) (before after : Option Slot) → Keeps (slots list) old new → AreLinked old before list after → AreLinked new before list after
linked_kept old new [] before after keeps linked = tt
linked_kept old new (x ∷ list) before after keeps linked =
    (keeps x.slot.0 (omega (arith, one_there x.slot.0)) ∙ linked.0, linked_kept old new list (Some x.slot) after (keeps_rest x.slot (slots list) old new keeps) linked.1)

pub free_kept : (old new : List Cell) (spare : List Slot) → Keeps spare old new → AreFree old spare → AreFree new spare
free_kept old new [] keeps unused = tt
free_kept old new (slot ∷ spare) keeps unused =
    (keeps slot.0 (omega (arith, one_there slot.0)) ∙ unused.0, free_kept old new spare (keeps_rest slot spare old new keeps) unused.1)

-- a change of one cell keeps the cells of the slots among which it isn't
pub keeps_from_set : (slots : List Slot) (cells : List Cell) (slot : Slot) (cell : Cell) → times slot.0 slots ≡ 0 → Keeps slots cells (set cells slot.0 cell)
keeps_from_set slots cells slot cell none place some =
    get_set_other cells slot.0 place cell (λ same. omega (arith, ap (λ n. times n slots) same))

pub keeps_from_change : (slots : List Slot) (old new : List Cell) (slot : Option Slot) (change : Link → Link) → ((s : Slot) → slot ≡ Some s → times s.0 slots ≡ 0) → ChangesLink change slot old new → Keeps slots old new
keeps_from_change slots old new slot change none changes place some =
    changes.others place (λ s is same. omega (arith, none s is, ap (λ n. times n slots) same))

pub keeps_both : (slots : List Slot) (one two three : List Cell) → Keeps slots one two → Keeps slots two three → Keeps slots one three
keeps_both slots one two three first second place some = second place some ∙ first place some

-- the ends of two lists, one behind the other
pub first-append : (after : Option Slot) (xs ys : List Listed) → first_slot_or after (xs ++ ys) ≡ first_slot_or (first_slot_or after ys) xs
first-append after [] ys = refl
first-append after (x ∷ xs) ys = refl

pub last-append : (before : Option Slot) (xs ys : List Listed) → last_slot_or before (xs ++ ys) ≡ last_slot_or (last_slot_or before xs) ys
last-append before [] ys = refl
last-append before (x ∷ xs) ys = last-append (Some x.slot) xs ys

pub linked_split : (cells : List Cell) (before after : Option Slot) (xs ys : List Listed) → AreLinked cells before (xs ++ ys) after → AreLinked cells before xs (first_slot_or after ys) × AreLinked cells (last_slot_or before xs) ys after
linked_split cells before after [] ys linked = (tt, linked)
linked_split cells before after (x ∷ xs) ys linked =
    let rest = linked_split cells (Some x.slot) after xs ys linked.1 in
    ((rw (← first-append) linked.0, rest.0), rest.1)

pub linked_join : (cells : List Cell) (before after : Option Slot) (xs ys : List Listed) → AreLinked cells before xs (first_slot_or after ys) → AreLinked cells (last_slot_or before xs) ys after → AreLinked cells before (xs ++ ys) after
linked_join cells before after [] ys front back = back
linked_join cells before after (x ∷ xs) ys front back =
    (rw (first-append after xs ys) front.0, linked_join cells (Some x.slot) after xs ys front.1 back)

-- the ends stand in the list
pub last_stands : (slot : Slot) (list : List Listed) (s : Slot) → last_slot_or (Some slot) list ≡ Some s → 0 < times s.0 (slot ∷ slots list)
last_stands slot [] s is = rw (same_Some slot s is) (omega (arith, one_there s.0))
last_stands slot (x ∷ list) s is = omega (arith, last_stands x.slot list s is)

pub first_stands : (list : List Listed) (s : Slot) → first_slot_or None list ≡ Some s → 0 < times s.0 (slots list)
first_stands [] s is = absurd cc
first_stands (x ∷ list) s is = rw (same_Some x.slot s is) (omega (arith, one_there s.0))

pub end_stands : (list : List Listed) (s : Slot) → last_slot list ≡ Some s → 0 < times s.0 (slots list)
end_stands [] s is = absurd cc
end_stands (x ∷ list) s is = last_stands x.slot list s is

-- the last cell names another neighbour
pub linked_to : (old new : List Cell) (list : List Listed) (before after other : Option Slot) → ((place : ℕ) → times place (slots list) ≤ 1) → ChangesLink (with_after other) (last_slot list) old new → AreLinked old before list after → AreLinked new before list other
linked_to old new [] before after other once changes linked = tt
linked_to old new (x ∷ []) before after other once changes linked =
    (changes.there x.slot (record { item = x.item; before = before; after = after }) refl linked.0, tt)
linked_to old new (x ∷ y ∷ list) before after other once changes linked = (
  changes.others x.slot.0 (λ s is same. omega (arith, last_stands y.slot list s is, once s.0, ap (λ n. cond {A = ℕ} (eqb x.slot.0 n) 1 0) same, one_there x.slot.0))
      ∙ linked.0,
  linked_to old new (y ∷ list) (Some x.slot) after other (λ place. omega (arith, once place)) changes linked.1,
)

-- the first cell names another neighbour
pub linked_from : (old new : List Cell) (list : List Listed) (before after other : Option Slot) → ((place : ℕ) → times place (slots list) ≤ 1) → ChangesLink (with_before other) (first_slot_or None list) old new → AreLinked old before list after → AreLinked new other list after
linked_from old new [] before after other once changes linked = tt
linked_from old new (x ∷ list) before after other once changes linked = (
  changes.there x.slot (record { item = x.item; before = before; after = first_slot_or after list }) refl linked.0,
  linked_kept old new list (Some x.slot) after (keeps_from_change (slots list) old new (Some x.slot) (with_before other) (λ s is. rw (← same_Some x.slot s is) (omega (arith, once x.slot.0, one_there x.slot.0))) changes) linked.1,
)

-- the walk finds the list
pub listed_from-linked : (cells : List Cell) (before : Option Slot) (list : List Listed) → AreLinked cells before list None → listed_from cells (length list) (first_slot_or None list) ≡ list
listed_from-linked cells before [] linked = refl
listed_from-linked cells before (x ∷ list) linked =
    rw linked.0 (ap (λ others. x ∷ others) (listed_from-linked cells (Some x.slot) list linked.1))
