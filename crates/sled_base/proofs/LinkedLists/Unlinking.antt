-- An item is taken out of the list.
use Rattle.std.proofs.Common.{◌≡◌, ℕ, ◌+◌, ◌-◌, ◌≤◌, cond, eqb, Option, Some, None, List, [], ◌∷◌, ◌++◌, length, sym, ap, ◌∙◌, subst, arith}
use Rattle.std.specs.Prelude.{MatchOption, Contains}
use Rattle.std.specs.List.{slice_get}
use Rattle.std.proofs.lemmas.List.{length-append}
use Rattle.sled_base.specs.Dll.{Listed, listed, slots, last_slot_or, last_slot}
use Rattle.sled_base.specs.Links.{first_slot_or, AreLinked, AreFree, times, IsLinkedListOf, IsLinkedList, listed_in, ChangesLink, with_before, with_after, TakesOut}
use Rattle.sled_base.specs.declared.dll.Slot.{Slot}
use Rattle.sled_base.specs.declared.dll.cell.Link.{Link}
use Rattle.sled_base.specs.declared.dll.links.Links.{Links}
use Rattle.sled_base.specs.declared.dll.cell.Cell.{Cell}
use Rattle.sled_base.specs.declared.dll.cell.Cell.TheVariants.{Linked}
use Rattle.sled_base.proofs.LinkedLists.Standing.{times-slots_append, times_of_split, stands_from_times, times_from_contains}
use Rattle.sled_base.proofs.LinkedLists.Linking.{linked_kept, free_kept, keeps_from_change, keeps_both, last-append, linked_split, linked_join, first_stands, end_stands, linked_to, linked_from}
use Rattle.sled_base.proofs.LinkedLists.Keeping.{Lists, lists, times_in_all, stands_once, once_again, link_is}

-- an end of a list that isn't empty
last_there : (slot : Slot) (list : List Listed) (P Q : Type 0) → MatchOption (last_slot_or (Some slot) list) P (λ _. Q) → Q
last_there slot [] P Q h = h
last_there slot (x ∷ list) P Q h = last_there x.slot list P Q h

-- the item at x is taken out of the row
module _ (old new : Links) (middle : List Cell) (front back : List Listed) (x : Listed) (spare : List Slot) (kept : IsLinkedListOf [] old (front ++ x ∷ back) spare) (first : ChangesLink (with_after (first_slot_or None back)) (last_slot front) old.cells.items middle) (second : ChangesLink (with_before (last_slot front)) (first_slot_or None back) middle new.cells.items) where
  out_once : (place : ℕ) → times place (slots front) + ((cond {A = ℕ} (eqb x.slot.0 place) 1 0) + times place (slots back)) + times place spare ≤ 1
  out_once place = omega (arith, stands_once [] old (front ++ x ∷ back) spare kept place, times_of_split place front back x)

  out_linked : AreLinked new.cells.items None (front ++ back) None
  out_linked =
      let parts = linked_split old.cells.items None None front (x ∷ back) kept.linked in
      let front_to = linked_to old.cells.items middle front None (Some x.slot) (first_slot_or None back) (λ place. omega (arith, out_once place)) first parts.0 in
      let front_new = linked_kept middle new.cells.items front None (first_slot_or None back) (keeps_from_change (slots front) middle new.cells.items (first_slot_or None back) (with_before (last_slot front)) (λ s is. omega (arith, first_stands back s is, out_once s.0)) second) front_to in
      let back_kept = linked_kept old.cells.items middle back (Some x.slot) None (keeps_from_change (slots back) old.cells.items middle (last_slot front) (with_after (first_slot_or None back)) (λ s is. omega (arith, end_stands front s is, out_once s.0)) first) parts.1.1 in
      let back_new = linked_from middle new.cells.items back (Some x.slot) None (last_slot front) (λ place. omega (arith, out_once place)) second back_kept in
      linked_join new.cells.items None None front back front_new back_new

  out_free : AreFree new.cells.items spare
  out_free =
      free_kept old.cells.items new.cells.items spare (keeps_both spare old.cells.items middle new.cells.items (keeps_from_change spare old.cells.items middle (last_slot front) (with_after (first_slot_or None back)) (λ s is. omega (arith, end_stands front s is, out_once s.0)) first) (keeps_from_change spare middle new.cells.items (first_slot_or None back) (with_before (last_slot front)) (λ s is. omega (arith, first_stands back s is, out_once s.0)) second)) kept.unused

out_head : (head other : Option Slot) (front back : List Listed) (x : Listed) → head ≡ first_slot_or None (front ++ x ∷ back) → MatchOption (last_slot front) (other ≡ first_slot_or None back) (λ _. other ≡ head) → other ≡ first_slot_or None (front ++ back)
out_head head other [] back x is moved = moved
out_head head other (y ∷ front) back x is moved = last_there y.slot front (other ≡ first_slot_or None back) (other ≡ head) moved ∙ is

out_tail : (tail other : Option Slot) (front back : List Listed) (x : Listed) → tail ≡ last_slot (front ++ x ∷ back) → MatchOption (first_slot_or None back) (other ≡ last_slot front) (λ _. other ≡ tail) → other ≡ last_slot (front ++ back)
out_tail tail other front [] x is moved = moved ∙ sym (last-append None front [])
out_tail tail other front (y ∷ back) x is moved = moved ∙ is ∙ last-append None front (x ∷ y ∷ back) ∙ sym (last-append None front (y ∷ back))

pub unlinked : (old new : Links) (middle : List Cell) (front back : List Listed) (x : Listed) (spare : List Slot) → IsLinkedListOf [] old (front ++ x ∷ back) spare → ChangesLink (with_after (first_slot_or None back)) (last_slot front) old.cells.items middle → ChangesLink (with_before (last_slot front)) (first_slot_or None back) middle new.cells.items → MatchOption (last_slot front) (new.head ≡ first_slot_or None back) (λ _. new.head ≡ old.head) → MatchOption (first_slot_or None back) (new.tail ≡ last_slot front) (λ _. new.tail ≡ old.tail) → new.len ≡ old.len - 1 → new.free ≡ old.free → IsLinkedListOf (x.slot ∷ []) new (front ++ back) spare
unlinked old new middle front back x spare kept first second head tail len free =
    let size : length new.cells.items ≡ length old.cells.items = second.length ∙ first.length in
    record {
      linked = out_linked old new middle front back x spare kept first second;
      head = out_head old.head new.head front back x kept.head head;
      tail = out_tail old.tail new.tail front back x kept.tail tail;
      len = omega (arith, len, kept.len, length-append front (x ∷ back), length-append front back);
      unused = out_free old new middle front back x spare kept first second;
      free = free ∙ kept.free;
      once = once_again [] (x.slot ∷ []) (front ++ x ∷ back) (front ++ back) spare spare (length old.cells.items) (length new.cells.items) size (λ place. omega (arith, times_of_split place front back x, times-slots_append place front back)) (times_in_all [] old (front ++ x ∷ back) spare kept);
      few = omega (arith, size, kept.few);
      total = omega (arith, size, kept.total, length-append front (x ∷ back), length-append front back);
    }

-- the same by what the cell links
pub unlinked_by : (old new : Links) (middle : List Cell) (front back : List Listed) (slot : Slot) (item : ℕ) (spare : List Slot) (link : Link) → IsLinkedListOf [] old (front ++ listed slot item ∷ back) spare → slice_get old.cells.items slot.0 ≡ Some (Linked link) → ChangesLink (with_after link.after) link.before old.cells.items middle → ChangesLink (with_before link.before) link.after middle new.cells.items → MatchOption link.before (new.head ≡ link.after) (λ _. new.head ≡ old.head) → MatchOption link.after (new.tail ≡ link.before) (λ _. new.tail ≡ old.tail) → new.len ≡ old.len - 1 → new.free ≡ old.free → IsLinkedListOf (slot ∷ []) new (front ++ back) spare
unlinked_by old new middle front back slot item spare link kept here first second head tail len free =
    let P : Link → Type 0 = λ l. ChangesLink (with_after l.after) l.before old.cells.items middle → ChangesLink (with_before l.before) l.after middle new.cells.items → MatchOption l.before (new.head ≡ l.after) (λ _. new.head ≡ old.head) → MatchOption l.after (new.tail ≡ l.before) (λ _. new.tail ≡ old.tail) → IsLinkedListOf (slot ∷ []) new (front ++ back) spare in
    subst P (sym (link_is old front back (listed slot item) spare link kept here)) (λ one two three four. unlinked old new middle front back (listed slot item) spare kept one two three four len free) first second head tail

-- the row after the slot's item is taken out, and the item
pub record Unlinks (slot : Slot) (link : Link) (old new : Links) : Type 0 where
  pub kept : IsLinkedList (slot ∷ []) new
  pub list : TakesOut slot link.item (listed_in old) (listed_in new)

pub unlinks : (old new : Links) (middle : List Cell) (slot : Slot) (link : Link) → IsLinkedList [] old → Contains (slots (listed_in old)) slot → slice_get old.cells.items slot.0 ≡ Some (Linked link) → ChangesLink (with_after link.after) link.before old.cells.items middle → ChangesLink (with_before link.before) link.after middle new.cells.items → MatchOption link.before (new.head ≡ link.after) (λ _. new.head ≡ old.head) → MatchOption link.after (new.tail ≡ link.before) (λ _. new.tail ≡ old.tail) → new.len ≡ old.len - 1 → new.free ≡ old.free → Unlinks slot link old new
unlinks old new middle slot link kept live here first second head tail len free =
    let stands = stands_from_times (listed_in old) slot (times_from_contains (slots (listed_in old)) slot live) in
    let kept_as : (front back : List Listed) (item : ℕ) → listed_in old ≡ front ++ listed slot item ∷ back → IsLinkedListOf [] old (front ++ listed slot item ∷ back) kept.0 = λ front back item is. subst (λ list. IsLinkedListOf [] old list kept.0) is kept.1 in
    let after : (front back : List Listed) (item : ℕ) → listed_in old ≡ front ++ listed slot item ∷ back → Lists (slot ∷ []) new (front ++ back) = λ front back item is. lists (slot ∷ []) new (front ++ back) kept.0 (unlinked_by old new middle front back slot item kept.0 link (kept_as front back item is) here first second head tail len free) in
    record {
      kept = (after stands.front stands.back stands.item stands.is).kept;
      list = λ front back item is. (ap (λ (l : Link). l.item) (link_is old front back (listed slot item) kept.0 link (kept_as front back item is) here), (after front back item is).is);
    }
