-- Cells are taken, linked and set free.
use Rattle.std.proofs.Common.{inl, inr, ◌≡◌, ℕ, ◌+◌, ◌<◌, cond, eqb, ltb, Option, Some, None, List, [], ◌∷◌, ◌++◌, length, set, refl, sym, ap, ◌∙◌, subst, arith}
use Rattle.std.specs.List.{slice_get}
use Rattle.std.specs.Option.{option_or}
use Rattle.std.proofs.lemmas.Bool.{cases_lt, cases_eq, le-ltb, lt-ltb, eq-eqb, ne_eqb}
use Rattle.std.proofs.lemmas.List.{length-append, length-set}
use Rattle.std.proofs.lemmas.Option.{same_Some}
use Rattle.sled_base.specs.Dll.{Listed, listed, slots, last_slot_or, last_slot}
use Rattle.sled_base.specs.Links.{first_slot_or, first_of, AreLinked, AreFree, times, IsLinkedListOf, IsLinkedList, listed_in, ChangesLink, with_before, with_after}
use Rattle.sled_base.specs.OptionalSlots.{cell_limit}
use Rattle.sled_base.specs.declared.dll.Slot.{Slot}
use Rattle.sled_base.specs.declared.dll.links.Links.{Links}
use Rattle.sled_base.specs.declared.dll.cell.Link.{Link}
use Rattle.sled_base.specs.declared.dll.cell.Cell.{Cell}
use Rattle.sled_base.specs.declared.dll.cell.Cell.TheVariants.{Linked, Free}
use Rattle.sled_base.proofs.LinkedLists.Standing.{times-append, times-slots_append, one_there}
use Rattle.sled_base.proofs.LinkedLists.Linking.{get_set_there, get_pushed, linked_kept, free_kept, keeps_from_set, keeps_from_change, last-append, linked_join, first_stands, end_stands, linked_to, linked_from}
use Rattle.sled_base.proofs.LinkedLists.Keeping.{Lists, lists, times_in_all, stands_once, stands_within, once_again}

-- an end of a list that isn't empty
last_or : (slot other : Slot) (list : List Listed) → option_or (last_slot_or (Some slot) list) (Some other) ≡ last_slot_or (Some slot) list
last_or slot other [] = refl
last_or slot other (x ∷ list) = last_or x.slot other list

-- a cell that was taken is set
module _ (old : Links) (list : List Listed) (spare : List Slot) (slot : Slot) (kept : IsLinkedListOf (slot ∷ []) old list spare) (cell : Cell) where
  out_of_both : times slot.0 (slots list) + times slot.0 spare ≡ 0
  out_of_both = omega (arith, stands_once (slot ∷ []) old list spare kept slot.0, one_there slot.0)

  there_once_set : slice_get (set old.cells.items slot.0 cell) slot.0 ≡ Some cell
  there_once_set =
      get_set_there old.cells.items slot.0 cell (stands_within (slot ∷ []) old list spare kept slot.0 (omega (arith, one_there slot.0)))

  linked_once_set : AreLinked (set old.cells.items slot.0 cell) None list None
  linked_once_set =
      linked_kept old.cells.items (set old.cells.items slot.0 cell) list None None (keeps_from_set (slots list) old.cells.items slot cell (omega (arith, out_of_both))) kept.linked

  free_once_set : AreFree (set old.cells.items slot.0 cell) spare
  free_once_set =
      free_kept old.cells.items (set old.cells.items slot.0 cell) spare (keeps_from_set spare old.cells.items slot cell (omega (arith, out_of_both))) kept.unused

-- the cell is set to name its neighbour, and that neighbour, if there is one, to name the cell
pub named_both : (with : Option Slot → Link → Link) (cell : Option Slot → Cell) (items : List Cell) (slot : Slot) {new : List Cell} {here end next : Option Slot} {put : Cell} → ChangesLink (with here) end (set items slot.0 put) new → here ≡ Some slot → end ≡ next → put ≡ cell end → ChangesLink (with (Some slot)) next (set items slot.0 (cell next)) new
named_both with cell items slot {new = new} {here = here} {end = end} changes here_is end_is put_is =
    let set_so = subst (λ x. ChangesLink (with here) end (set items slot.0 x) new) put_is changes in
    let here_so = subst (λ h. ChangesLink (with h) end (set items slot.0 (cell end)) new) here_is set_so in
    subst (λ e. ChangesLink (with (Some slot)) e (set items slot.0 (cell e)) new) end_is here_so

-- an item is put in front of the row
pub linked_at_head : (old new : Links) (list : List Listed) (spare : List Slot) (slot : Slot) (item : ℕ) → IsLinkedListOf (slot ∷ []) old list spare → ChangesLink (with_before (Some slot)) (first_slot_or None list) (set old.cells.items slot.0 (Linked (record { item = item; before = None; after = first_slot_or None list }))) new.cells.items → new.head ≡ Some slot → new.tail ≡ option_or old.tail (Some slot) → new.len ≡ old.len + 1 → new.free ≡ old.free → IsLinkedListOf [] new (listed slot item ∷ list) spare
linked_at_head old new list spare slot item kept changes head tail len free =
    let cell = Linked (record { item = item; before = None; after = first_slot_or None list }) in
    let middle = set old.cells.items slot.0 cell in
    let once = stands_once (slot ∷ []) old list spare kept in
    let size : length new.cells.items ≡ length old.cells.items = changes.length ∙ length-set old.cells.items slot.0 cell in
    record {
      linked = (
        changes.others slot.0 (λ s is same. omega (arith, first_stands list s is, ap (λ n. times n (slots list)) same, out_of_both old list spare slot kept cell)) ∙ there_once_set old list spare slot kept cell,
        linked_from middle new.cells.items list None None (Some slot) (λ place. omega (arith, once place)) changes (linked_once_set old list spare slot kept cell),
      );
      head = head;
      tail = tail ∙ ap (λ t. option_or t (Some slot)) kept.tail ∙ new_tail list slot;
      len = omega (arith, len, kept.len);
      unused = free_kept middle new.cells.items spare (keeps_from_change spare middle new.cells.items (first_slot_or None list) (with_before (Some slot)) (λ s is. omega (arith, first_stands list s is, once s.0)) changes) (free_once_set old list spare slot kept cell);
      free = free ∙ kept.free;
      once = once_again (slot ∷ []) [] list (listed slot item ∷ list) spare spare (length old.cells.items) (length new.cells.items) size (λ place. omega arith) (times_in_all (slot ∷ []) old list spare kept);
      few = omega (arith, size, kept.few);
      total = omega (arith, size, kept.total);
    }
  where
    new_tail : (list : List Listed) (slot : Slot) → option_or (last_slot list) (Some slot) ≡ last_slot_or (Some slot) list
    new_tail [] slot = refl
    new_tail (y ∷ list) slot = last_or y.slot slot list

-- an item is put behind the row
pub linked_at_tail : (old new : Links) (list : List Listed) (spare : List Slot) (slot : Slot) (item : ℕ) → IsLinkedListOf (slot ∷ []) old list spare → ChangesLink (with_after (Some slot)) (last_slot list) (set old.cells.items slot.0 (Linked (record { item = item; before = last_slot list; after = None }))) new.cells.items → new.tail ≡ Some slot → new.head ≡ option_or old.head (Some slot) → new.len ≡ old.len + 1 → new.free ≡ old.free → IsLinkedListOf [] new (list ++ listed slot item ∷ []) spare
linked_at_tail old new list spare slot item kept changes tail head len free =
    let cell = Linked (record { item = item; before = last_slot list; after = None }) in
    let middle = set old.cells.items slot.0 cell in
    let last : List Listed = listed slot item ∷ [] in
    let once = stands_once (slot ∷ []) old list spare kept in
    let size : length new.cells.items ≡ length old.cells.items = changes.length ∙ length-set old.cells.items slot.0 cell in
    let front = linked_to middle new.cells.items list None None (Some slot) (λ place. omega (arith, once place)) changes (linked_once_set old list spare slot kept cell) in
    let back = changes.others slot.0 (λ s is same. omega (arith, end_stands list s is, ap (λ n. times n (slots list)) same, out_of_both old list spare slot kept cell)) ∙ there_once_set old list spare slot kept cell in
    record {
      linked = linked_join new.cells.items None None list last front (back, tt);
      head = head ∙ ap (λ h. option_or h (Some slot)) kept.head ∙ new_head list slot item;
      tail = tail ∙ sym (last-append None list last);
      len = omega (arith, len, kept.len, length-append list last);
      unused = free_kept middle new.cells.items spare (keeps_from_change spare middle new.cells.items (last_slot list) (with_after (Some slot)) (λ s is. omega (arith, end_stands list s is, once s.0)) changes) (free_once_set old list spare slot kept cell);
      free = free ∙ kept.free;
      once = once_again (slot ∷ []) [] list (list ++ last) spare spare (length old.cells.items) (length new.cells.items) size (λ place. omega (arith, times-slots_append place list last)) (times_in_all (slot ∷ []) old list spare kept);
      few = omega (arith, size, kept.few);
      total = omega (arith, size, kept.total, length-append list last);
    }
  where
    new_head : (list : List Listed) (slot : Slot) (item : ℕ) → option_or (first_slot_or None list) (Some slot) ≡ first_slot_or None (list ++ listed slot item ∷ [])
    new_head [] slot item = refl
    new_head (y ∷ list) slot item = refl

-- a cell is set free
pub released : (old new : Links) (list : List Listed) (spare : List Slot) (slot : Slot) → IsLinkedListOf (slot ∷ []) old list spare → new.cells.items ≡ set old.cells.items slot.0 (Free old.free) → new.free ≡ Some slot → new.head ≡ old.head → new.tail ≡ old.tail → new.len ≡ old.len → IsLinkedListOf [] new list (slot ∷ spare)
released old new list spare slot kept cells free head tail len =
    let cell = Free old.free in
    let size : length new.cells.items ≡ length old.cells.items = ap length cells ∙ length-set old.cells.items slot.0 cell in
    record {
      linked = subst (λ (cs : List Cell). AreLinked cs None list None) (sym cells) (linked_once_set old list spare slot kept cell);
      head = head ∙ kept.head;
      tail = tail ∙ kept.tail;
      len = len ∙ kept.len;
      unused = (ap (λ cs. slice_get cs slot.0) cells ∙ there_once_set old list spare slot kept cell ∙ ap (λ f. Some (Free f)) kept.free, subst (λ (cs : List Cell). AreFree cs spare) (sym cells) (free_once_set old list spare slot kept cell));
      free = free;
      once = once_again (slot ∷ []) [] list list spare (slot ∷ spare) (length old.cells.items) (length new.cells.items) size (λ place. omega arith) (times_in_all (slot ∷ []) old list spare kept);
      few = omega (arith, size, kept.few);
      total = omega (arith, size, kept.total);
    }

-- a free cell is taken
pub taken : (old new : Links) (list : List Listed) (spare : List Slot) (slot : Slot) (next : Option Slot) → IsLinkedListOf [] old list spare → old.free ≡ Some slot → slice_get old.cells.items slot.0 ≡ Some (Free next) → new.cells.items ≡ old.cells.items → new.free ≡ next → new.head ≡ old.head → new.tail ≡ old.tail → new.len ≡ old.len → Lists (slot ∷ []) new list
taken old new list [] slot next kept first cell cells free head tail len = let none = kept.free in absurd cc
taken old new list (s ∷ spare) slot next kept first cell cells free head tail len =
    let same : s ≡ slot = same_Some s slot (sym kept.free ∙ first) in
    let here : slice_get old.cells.items slot.0 ≡ Some (Free (first_of spare)) = subst (λ (t : Slot). slice_get old.cells.items t.0 ≡ Some (Free (first_of spare))) same kept.unused.0 in
    let next_is : next ≡ first_of spare = cc in
    let size : length new.cells.items ≡ length old.cells.items = ap length cells in
    let result : IsLinkedListOf (s ∷ []) new list spare = record {
      linked = subst (λ (cs : List Cell). AreLinked cs None list None) (sym cells) kept.linked;
      head = head ∙ kept.head;
      tail = tail ∙ kept.tail;
      len = len ∙ kept.len;
      unused = subst (λ (cs : List Cell). AreFree cs spare) (sym cells) kept.unused.1;
      free = free ∙ next_is;
      once = once_again [] (s ∷ []) list list (s ∷ spare) spare (length old.cells.items) (length new.cells.items) size (λ place. omega arith) (times_in_all [] old list (s ∷ spare) kept);
      few = omega (arith, size, kept.few);
      total = omega (arith, size, kept.total);
    } in
    lists (slot ∷ []) new list spare (subst (λ (t : Slot). IsLinkedListOf (t ∷ []) new list spare) same result)

-- a new cell is taken
one_more : (place size : ℕ) → cond (eqb size place) 1 0 + cond (ltb place size) 1 0 ≡ cond (ltb place (size + 1)) 1 0
one_more place size =
    elim (cases_lt place size) [
      | inl within ↦ rw (lt-ltb place size within, lt-ltb place (size + 1) (omega arith), ne_eqb size place (λ same. omega arith)) refl
      | inr past ↦ elim (cases_eq size place) [
        | inl same ↦ rw (le-ltb place size past, lt-ltb place (size + 1) (omega arith), eq-eqb size place same) refl
        | inr other ↦ rw (le-ltb place size past, le-ltb place (size + 1) (omega arith), ne_eqb size place other) refl
      ]
    ]

pushed : (old new : Links) (list : List Listed) (spare : List Slot) (slot : Slot) (cell : Cell) → IsLinkedListOf [] old list spare → length old.cells.items < cell_limit → slot.0 ≡ length old.cells.items → new.cells.items ≡ old.cells.items ++ cell ∷ [] → new.free ≡ old.free → new.head ≡ old.head → new.tail ≡ old.tail → new.len ≡ old.len → IsLinkedListOf (slot ∷ []) new list spare
pushed old new list spare slot cell kept room place_is cells free head tail len =
    let all = times_in_all [] old list spare kept in
    let within = stands_within [] old list spare kept in
    let size : length new.cells.items ≡ length old.cells.items + 1 = ap length cells ∙ length-append old.cells.items (cell ∷ []) in
    record {
      linked = subst (λ (cs : List Cell). AreLinked cs None list None) (sym cells) (linked_kept old.cells.items (old.cells.items ++ cell ∷ []) list None None (λ place some. get_pushed old.cells.items cell place (within place (omega arith))) kept.linked);
      head = head ∙ kept.head;
      tail = tail ∙ kept.tail;
      len = len ∙ kept.len;
      unused = subst (λ (cs : List Cell). AreFree cs spare) (sym cells) (free_kept old.cells.items (old.cells.items ++ cell ∷ []) spare (λ place some. get_pushed old.cells.items cell place (within place (omega arith))) kept.unused);
      free = free ∙ kept.free;
      once = λ place. omega (arith, times-append place (slots list) spare, all place, one_more place (length old.cells.items), ap (λ n. cond {A = ℕ} (eqb n place) 1 0) place_is, ap (λ n. cond {A = ℕ} (ltb place n) 1 0) size);
      few = omega (arith, size, room);
      total = omega (arith, size, kept.total);
    }

pub added : (old new : Links) (slot : Slot) (cell : Cell) → IsLinkedList [] old → length old.cells.items < cell_limit → slot.0 ≡ length old.cells.items → new.cells.items ≡ old.cells.items ++ cell ∷ [] → new.free ≡ old.free → new.head ≡ old.head → new.tail ≡ old.tail → new.len ≡ old.len → Lists (slot ∷ []) new (listed_in old)
added old new slot cell kept room place cells free head tail len =
    lists (slot ∷ []) new (listed_in old) kept.0 (pushed old new (listed_in old) kept.0 slot cell kept.1 room place cells free head tail len)
