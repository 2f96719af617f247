-- How the cells of a doubly linked list are linked.
use Rattle.std.specs.Prelude.{◌≡◌, ◌≢◌, ℕ, zero, suc, ◌+◌, ◌<◌, ◌≤◌, Option, Some, None, List, [], ◌∷◌, ◌++◌, length, if◌then◌else◌, ◌==◌, nat_lt}
use Rattle.std.specs.List.{slice_get}
use Rattle.sled_base.specs.Dll.{Listed, listed, slots, last_slot}
use Rattle.sled_base.specs.OptionalSlots.{cell_limit}
use Rattle.sled_base.specs.declared.dll.Slot.{Slot}
use Rattle.sled_base.specs.declared.dll.cell.Link.{Link}
use Rattle.sled_base.specs.declared.dll.links.Links.{Links}
use Rattle.sled_base.specs.declared.dll.cell.Cell.{Cell}
use Rattle.sled_base.specs.declared.dll.cell.Cell.TheVariants.{Linked, Free}

-- The slot of the first item, or the other one if there is no item.
abbrev pub first_slot_or : Option Slot → List Listed → Option Slot
first_slot_or other [] = other
first_slot_or other (x ∷ list) = Some x.slot

abbrev pub first_of : List Slot → Option Slot
first_of [] = None
first_of (slot ∷ others) = Some slot

-- The cells of the list name each other as neighbours. `before` and `after` are the neighbours of the list as a whole.
abbrev pub AreLinked : List Cell → Option Slot → List Listed → Option Slot → Type 0
AreLinked cells before [] after = Unit {0}
AreLinked cells before (x ∷ list) after =
    (slice_get cells x.slot.0 ≡ Some (Linked (record { item = x.item; before = before; after = first_slot_or after list })))
    × AreLinked cells (Some x.slot) list after

-- The cells are free, and each names the next.
abbrev pub AreFree : List Cell → List Slot → Type 0
AreFree cells [] = Unit {0}
AreFree cells (slot ∷ others) = (slice_get cells slot.0 ≡ Some (Free (first_of others))) × AreFree cells others

-- How often a place occurs among the slots.
abbrev pub times : ℕ → List Slot → ℕ
times place [] = 0
times place (slot ∷ others) = (if slot.0 == place then 1 else 0) + times place others

-- The list from the head, the free slots from the first, and the slots that are neither.
pub record IsLinkedListOf (out : List Slot) (links : Links) (list : List Listed) (spare : List Slot) : Type 0 where
  pub linked : AreLinked links.cells.items None list None
  pub head : links.head ≡ first_slot_or None list
  pub tail : links.tail ≡ last_slot list
  pub len : links.len ≡ length list
  pub unused : AreFree links.cells.items spare
  pub free : links.free ≡ first_of spare
  -- each place occurs once
  pub once : (place : ℕ) → times place (out ++ (slots list ++ spare)) ≡ (if nat_lt place (length links.cells.items) then 1 else 0)
  pub few : length links.cells.items ≤ cell_limit
  pub total : length out + (length list + length spare) ≡ length links.cells.items

-- What a cell links, if it is linked.
abbrev pub link_of : Option Cell → Link
link_of (Some (Linked link)) = link
link_of (Some (Free next)) = record { item = 0; before = None; after = None }
link_of None = record { item = 0; before = None; after = None }

-- The given number of items from the slot on.
abbrev pub listed_from : List Cell → ℕ → Option Slot → List Listed
listed_from cells zero from = []
listed_from cells (suc n) None = []
listed_from cells (suc n) (Some slot) =
    let link = link_of (slice_get cells slot.0) in
    listed slot link.item ∷ listed_from cells n link.after

-- The list that the cells hold.
abbrev pub listed_in : Links → List Listed
listed_in links = listed_from links.cells.items links.len links.head

-- The cells are linked consistently with the list that they hold. The slots `out` are neither listed nor free.
abbrev pub IsLinkedList : List Slot → Links → Type 0
IsLinkedList out links = (spare : List Slot) × IsLinkedListOf out links (listed_in links) spare

-- The item of the slot is removed.
abbrev pub TakesOut : Slot → ℕ → List Listed → List Listed → Type 0
TakesOut slot item old new = (front back : List Listed) (x : ℕ) → old ≡ front ++ listed slot x ∷ back → (item ≡ x) × (new ≡ front ++ back)

-- The link in the cell of the slot.
abbrev pub IsLinkAt : Links → Slot → Link → Type 0
IsLinkAt links slot link = slice_get links.cells.items slot.0 ≡ Some (Linked link)

-- Only the link in the cell of the slot is changed, if there is one.
pub record ChangesLink (change : Link → Link) (slot : Option Slot) (old new : List Cell) : Type 0 where
  pub length : length new ≡ length old
  pub there : (s : Slot) (link : Link) → slot ≡ Some s → slice_get old s.0 ≡ Some (Linked link) → slice_get new s.0 ≡ Some (Linked (change link))
  pub others : (place : ℕ) → ((s : Slot) → slot ≡ Some s → s.0 ≢ place) → slice_get new place ≡ slice_get old place

abbrev pub with_before : Option Slot → Link → Link
with_before before link = record link { before = before }

abbrev pub with_after : Option Slot → Link → Link
with_after after link = record link { after = after }

-- The slot, if there is one, is an index of a cell.
abbrev pub IsSlotIn : Option Slot → List Cell → Type 0
IsSlotIn None cells = Unit {0}
IsSlotIn (Some slot) cells = slot.0 < length cells
