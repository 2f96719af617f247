-- What is known of cells that keep a list.
use Rattle.std.proofs.Common.{inl, inr, ◌≡◌, ℕ, ◌+◌, ◌<◌, ◌≤◌, Bool, true, false, cond, ltb, Option, Some, None, List, [], ◌∷◌, ◌++◌, length, refl, sym, ap, ◌∙◌, subst, arith}
use Rattle.std.specs.Prelude.{Contains}
use Rattle.std.specs.List.{slice_get}
use Rattle.std.proofs.lemmas.Bool.{cases_lt, cases_eq, le-ltb, lt-ltb, ne_eqb}
use Rattle.std.proofs.lemmas.Option.{same_Some, slice_get_within}
use Rattle.sled_base.specs.Dll.{Listed, listed, slots, last_slot, AreDistinct}
use Rattle.sled_base.specs.Links.{first_slot_or, first_of, AreFree, times, IsLinkedListOf, IsLinkedList, listed_in, IsSlotIn}
use Rattle.sled_base.specs.OptionalSlots.{cell_limit, is_mark}
use Rattle.sled_base.specs.declared.dll.Slot.{Slot}
use Rattle.sled_base.specs.declared.dll.cell.Link.{Link}
use Rattle.sled_base.specs.declared.dll.links.Links.{Links}
use Rattle.sled_base.specs.declared.dll.cell.Cell.{Cell}
use Rattle.sled_base.specs.declared.dll.cell.Cell.TheVariants.{Linked, Free}
use Rattle.sled_base.proofs.LinkedLists.Standing.{times-append, times_of_split, one_there, stands_from_times, times_from_contains, contains_from_times, distinct_from_times}
use Rattle.sled_base.proofs.LinkedLists.Linking.{listed_from-linked, linked_split, first_stands, end_stands}

-- the list that is kept is the one that is found
pub record Lists (out : List Slot) (links : Links) (list : List Listed) : Type 0 where
  pub kept : IsLinkedList out links
  pub is : listed_in links ≡ list

pub lists : (out : List Slot) (links : Links) (list : List Listed) (spare : List Slot) → IsLinkedListOf out links list spare → Lists out links list
lists out links list spare kept =
    let is : listed_in links ≡ list = rw (kept.len, kept.head) (listed_from-linked links.cells.items None list kept.linked) in
    record { kept = (spare, subst (λ l. IsLinkedListOf out links l spare) (sym is) kept); is = is }

at_most_one : (b : Bool) → cond b 1 0 ≤ 1
at_most_one true = omega arith
at_most_one false = omega arith

-- what stands once
module _ (out : List Slot) (links : Links) (list : List Listed) (spare : List Slot) (kept : IsLinkedListOf out links list spare) where
  pub times_in_all : (place : ℕ) → times place out + (times place (slots list) + times place spare) ≡ cond (ltb place (length links.cells.items)) 1 0
  times_in_all place =
      sym (times-append place out (slots list ++ spare) ∙ ap (λ n. times place out + n) (times-append place (slots list) spare)) ∙ kept.once place

  pub stands_once : (place : ℕ) → times place out + (times place (slots list) + times place spare) ≤ 1
  stands_once place = omega (arith, times_in_all place, at_most_one (ltb place (length links.cells.items)))

  pub stands_within : (place : ℕ) → 0 < times place out + (times place (slots list) + times place spare) → place < length links.cells.items
  stands_within place some =
      elim (cases_lt place (length links.cells.items)) [
        | inl within ↦ within
        | inr past ↦ (let none : cond {A = ℕ} (ltb place (length links.cells.items)) 1 0 ≡ 0 = rw (le-ltb place (length links.cells.items) past) in omega (arith, times_in_all place))
      ]

-- the cell of an item
pub cell_at : (out : List Slot) (links : Links) (front back : List Listed) (x : Listed) (spare : List Slot) → IsLinkedListOf out links (front ++ x ∷ back) spare → slice_get links.cells.items x.slot.0 ≡ Some (Linked (record { item = x.item; before = last_slot front; after = first_slot_or None back }))
cell_at out links front back x spare kept = (linked_split links.cells.items None None front (x ∷ back) kept.linked).1.0

pub live_cell : (out : List Slot) (links : Links) (slot : Slot) → IsLinkedList out links → Contains (slots (listed_in links)) slot → (link : Link) × (slice_get links.cells.items slot.0 ≡ Some (Linked link))
live_cell out links slot kept live =
    let found = stands_from_times (listed_in links) slot (times_from_contains (slots (listed_in links)) slot live) in (
      record { item = found.item; before = last_slot found.front; after = first_slot_or None found.back },
      cell_at out links found.front found.back (listed slot found.item) kept.0 (subst (λ list. IsLinkedListOf out links list kept.0) found.is kept.1),
    )

pub live_within : (out : List Slot) (links : Links) (slot : Slot) → IsLinkedList out links → Contains (slots (listed_in links)) slot → slot.0 < length links.cells.items
live_within out links slot kept live =
    slice_get_within links.cells.items slot.0 (Linked (live_cell out links slot kept live).0) (live_cell out links slot kept live).1

-- a cell that is free isn't linked, so one that is linked has an item
free_at : (cells : List Cell) (spare : List Slot) (place : ℕ) → AreFree cells spare → 0 < times place spare → (next : Option Slot) × (slice_get cells place ≡ Some (Free next))
free_at cells [] place unused some = absurd (omega arith)
free_at cells (slot ∷ spare) place unused some =
    elim (cases_eq slot.0 place) [
      | inl here ↦ (first_of spare, subst (λ n. slice_get cells n ≡ Some (Free (first_of spare))) here unused.0)
      | inr other ↦ free_at cells spare place unused.1 (let rest : 0 < 0 + times place spare = rw (ne_eqb slot.0 place other) at some in omega arith)
    ]

pub linked_is_live : (links : Links) (slot : Slot) (link : Link) → IsLinkedList [] links → slice_get links.cells.items slot.0 ≡ Some (Linked link) → Contains (slots (listed_in links)) slot
linked_is_live links slot link kept here =
    let within = slice_get_within links.cells.items slot.0 (Linked link) here in
    let one : cond {A = ℕ} (ltb slot.0 (length links.cells.items)) 1 0 ≡ 1 = rw (lt-ltb slot.0 (length links.cells.items) within) in
    elim (cases_lt 0 (times slot.0 (slots (listed_in links)))) [
      | inl some ↦ contains_from_times (slots (listed_in links)) slot some
      | inr none ↦ (let free = free_at links.cells.items kept.0 slot.0 kept.1.unused (omega (arith, one, times_in_all [] links (listed_in links) kept.0 kept.1 slot.0)) in let other = free.1 in absurd cc)
    ]

-- a slot that is out has no item
pub out_is_fresh : (links : Links) (slot : Slot) → IsLinkedList (slot ∷ []) links → ¬ Contains (slots (listed_in links)) slot
out_is_fresh links slot kept live =
    omega (arith, times_from_contains (slots (listed_in links)) slot live, stands_once (slot ∷ []) links (listed_in links) kept.0 kept.1 slot.0, one_there slot.0)

pub out_within : (links : Links) (slot : Slot) → IsLinkedList (slot ∷ []) links → slot.0 < length links.cells.items
out_within links slot kept =
    stands_within (slot ∷ []) links (listed_in links) kept.0 kept.1 slot.0 (omega (arith, one_there slot.0))

pub are_distinct : (links : Links) → IsLinkedList [] links → AreDistinct (slots (listed_in links))
are_distinct links kept =
    distinct_from_times (slots (listed_in links)) (λ place. omega (arith, stands_once [] links (listed_in links) kept.0 kept.1 place))

-- the first of the free cells
pub first_free : (cells : List Cell) (spare : List Slot) (slot : Slot) → Some slot ≡ first_of spare → AreFree cells spare → (next : Option Slot) × (slice_get cells slot.0 ≡ Some (Free next))
first_free cells [] slot is unused = absurd cc
first_free cells (s ∷ spare) slot is unused =
    (first_of spare, subst (λ (t : Slot). slice_get cells t.0 ≡ Some (Free (first_of spare))) (sym (same_Some slot s is)) unused.0)

-- as many cells, and each place as often
pub once_again : (out other_out : List Slot) (list other : List Listed) (spare other_spare : List Slot) (size other_size : ℕ) → other_size ≡ size → ((place : ℕ) → times place other_out + (times place (slots other) + times place other_spare) ≡ times place out + (times place (slots list) + times place spare)) → ((place : ℕ) → times place out + (times place (slots list) + times place spare) ≡ cond (ltb place size) 1 0) → (place : ℕ) → times place (other_out ++ (slots other ++ other_spare)) ≡ cond (ltb place other_size) 1 0
once_again out other_out list other spare other_spare size other_size same moved all place =
    times-append place other_out (slots other ++ other_spare)
    ∙ ap (λ n. times place other_out + n) (times-append place (slots other) other_spare)
    ∙ moved place
    ∙ all place
    ∙ ap (λ n. cond (ltb place n) 1 0) (sym same)

-- what the cell of an item links
pub link_is : (links : Links) (front back : List Listed) (x : Listed) (spare : List Slot) (link : Link) → IsLinkedListOf [] links (front ++ x ∷ back) spare → slice_get links.cells.items x.slot.0 ≡ Some (Linked link) → link ≡ record { item = x.item; before = last_slot front; after = first_slot_or None back }
link_is links front back x spare link kept here = let cell = cell_at [] links front back x spare kept in cc

-- the neighbours of an item are places in the cells
within_from : (slot : Option Slot) (cells : List Cell) → ((s : Slot) → slot ≡ Some s → s.0 < length cells) → IsSlotIn slot cells
within_from None cells h = tt
within_from (Some s) cells h = h s refl

pub first_within : (out : List Slot) (links : Links) (cells : List Cell) → IsLinkedList out links → length cells ≡ length links.cells.items → IsSlotIn links.head cells
first_within out links cells kept size =
    within_from links.head cells (λ s is. omega (arith, size, stands_within out links (listed_in links) kept.0 kept.1 s.0 (omega (arith, first_stands (listed_in links) s (sym kept.1.head ∙ is)))))

pub last_within : (out : List Slot) (links : Links) (cells : List Cell) → IsLinkedList out links → length cells ≡ length links.cells.items → IsSlotIn links.tail cells
last_within out links cells kept size =
    within_from links.tail cells (λ s is. omega (arith, size, stands_within out links (listed_in links) kept.0 kept.1 s.0 (omega (arith, end_stands (listed_in links) s (sym kept.1.tail ∙ is)))))

pub record NeighboursAreWithin (link : Link) (cells : List Cell) : Type 0 where
  pub before : IsSlotIn link.before cells
  pub after : IsSlotIn link.after cells

pub neighbours_within : (links : Links) (cells : List Cell) (slot : Slot) (link : Link) → IsLinkedList [] links → Contains (slots (listed_in links)) slot → slice_get links.cells.items slot.0 ≡ Some (Linked link) → length cells ≡ length links.cells.items → NeighboursAreWithin link cells
neighbours_within links cells slot link kept live here size =
    let stands = stands_from_times (listed_in links) slot (times_from_contains (slots (listed_in links)) slot live) in
    let x = listed slot stands.item in
    let kept_as : IsLinkedListOf [] links (stands.front ++ x ∷ stands.back) kept.0 = subst (λ list. IsLinkedListOf [] links list kept.0) stands.is kept.1 in
    let is = link_is links stands.front stands.back x kept.0 link kept_as here in
    let within = stands_within [] links (stands.front ++ x ∷ stands.back) kept.0 kept_as in
    record {
      before = within_from link.before cells (λ s named. omega (arith, size, within s.0 (omega (arith, times_of_split s.0 stands.front stands.back x, end_stands stands.front s (sym (ap (λ (l : Link). l.before) is) ∙ named)))));
      after = within_from link.after cells (λ s named. omega (arith, size, within s.0 (omega (arith, times_of_split s.0 stands.front stands.back x, first_stands stands.back s (sym (ap (λ (l : Link). l.after) is) ∙ named)))));
    }

-- the number of a cell isn't the mark
pub unmarked : (slot : Option Slot) (cells : List Cell) → IsSlotIn slot cells → length cells ≤ cell_limit → is_mark slot ≡ false
unmarked None cells within few = refl
unmarked (Some s) cells within few = ne_eqb s.0 cell_limit (λ same. omega (arith, within, few))
