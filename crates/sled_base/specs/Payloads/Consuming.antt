-- Reading values to the end of an input.
use Rattle.std.specs.Prelude.{◌≡◌, ◌≢◌, ◌⊎◌, ℕ, Bool, true, false, List, [], length, Option, Some, None, Result, Ok, Err, if◌then◌else◌}
use Rattle.std.specs.Iterator.{Count, at_most, endless}
use Rattle.sled_base.specs.declared.types.Error.{Error}
use Rattle.sled_base.specs.Payloads.Reading.{IsRefusal}

-- what is left of the input, and whether a value was refused
pub record Consuming : Type 0 where
  pub rest : List ℕ
  pub refused : Bool

-- One call: None after a refusal or at the end of the input, and otherwise the next value or its refusal.
abbrev pub Consumes : {V : Type 0} → (List ℕ → Type 0) → (List ℕ → V → List ℕ → Type 0) → Consuming → Option (Result V Error) → Consuming → Type 0
Consumes asks reads before None after = ((before.refused ≡ true) ⊎ (before.rest ≡ [])) × (after ≡ before)
Consumes asks reads before (Some (Ok value)) after = (before.refused ≡ false) × (before.rest ≢ []) × reads before.rest value after.rest × (after.refused ≡ false)
Consumes asks reads before (Some (Err e)) after = (before.refused ≡ false) × (before.rest ≢ []) × IsRefusal asks reads before.rest e × (after.rest ≡ before.rest) × (after.refused ≡ true)

-- how many bytes are left to be read: none after a refusal
abbrev pub bytes_left : Consuming → ℕ
bytes_left before = if before.refused then 0 else length before.rest

-- how many values are left: no more than there are bytes left, if each consumes a byte
abbrev pub values_left : Bool → Consuming → Count
values_left true before = at_most (bytes_left before)
values_left false before = endless
