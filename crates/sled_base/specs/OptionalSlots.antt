-- A slot or none as one number.
use Rattle.std.specs.Prelude.{◌≡◌, ℕ, Bool, false, Option, Some, None, if◌then◌else◌, ◌==◌, refl}
use Rattle.std.proofs.Common.{inl, inr, sym}
use Rattle.std.proofs.lemmas.Bool.{cases_eq, eq-eqb, ne_eqb}
use Rattle.sled_base.specs.declared.dll.Slot.{Slot}

-- the number of no slot
abbrev pub no_slot : ℕ
no_slot = 4294967295

-- The largest number of cells. No slot has this number, so as the neighbour in a cell it marks the cell as free.
abbrev pub cell_limit : ℕ
cell_limit = 4294967294

abbrev pub is_mark : Option Slot → Bool
is_mark None = false
is_mark (Some slot) = slot.0 == cell_limit

abbrev pub slot_of : ℕ → Option Slot
slot_of n = if n == no_slot then None else Some (record { 0 = n })

abbrev pub slot_number : Option Slot → ℕ
slot_number None = no_slot
slot_number (Some slot) = slot.0

pub slot_number-slot_of : (n : ℕ) → slot_number (slot_of n) ≡ n
slot_number-slot_of n =
    elim (cases_eq n no_slot) [ inl same ↦ rw (eq-eqb n no_slot same) (sym same) | inr other ↦ rw (ne_eqb n no_slot other) refl ]
