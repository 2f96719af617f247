-- What a doubly linked list is: its items from the head, each with the slot that it has while it is listed.
use Rattle.std.specs.Prelude.{◌≡◌, ℕ, Option, Some, None, List, [], ◌∷◌, ◌++◌, map, Contains}
use Rattle.sled_base.specs.declared.dll.Slot.{Slot}

pub record Listed : Type 0 where
  pub slot : Slot
  pub item : ℕ

abbrev pub listed : Slot → ℕ → Listed
listed slot item = record { slot = slot; item = item }

abbrev pub slots : List Listed → List Slot
slots list = map (λ l. l.slot) list

abbrev pub items : List Listed → List ℕ
items list = map (λ l. l.item) list

-- The slot of the last item, or the other one if there is no item.
abbrev pub last_slot_or : Option Slot → List Listed → Option Slot
last_slot_or other [] = other
last_slot_or other (x ∷ list) = last_slot_or (Some x.slot) list

-- The slot of the last item.
abbrev pub last_slot : List Listed → Option Slot
last_slot list = last_slot_or None list

-- No slot occurs twice.
abbrev pub AreDistinct : List Slot → Type 0
AreDistinct [] = Unit {0}
AreDistinct (slot ∷ others) = (¬ Contains others slot) × AreDistinct others

-- The item in the slot comes first, and the others follow in their order.
pub record IsPromoted (slot : Slot) (old new : List Listed) : Type 0 where
  pub before : List Listed
  pub item : ℕ
  pub after : List Listed
  pub is : old ≡ before ++ listed slot item ∷ after
  pub then : new ≡ listed slot item ∷ before ++ after

-- The slot gets another item, which comes first, and the others follow in their order.
pub record IsRenewed (slot : Slot) (item : ℕ) (old new : List Listed) : Type 0 where
  pub before : List Listed
  pub was : ℕ
  pub after : List Listed
  pub is : old ≡ before ++ listed slot was ∷ after
  pub then : new ≡ listed slot item ∷ before ++ after
