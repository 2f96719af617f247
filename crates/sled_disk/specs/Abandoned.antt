-- The frame that marks a batch as abandoned if a file ends inside it.
use Rattle.std.specs.Prelude.{◌≡◌, ℕ, List, [], ◌∷◌, ◌++◌, Option, Some, None}
use Rattle.sled_disk.specs.declared.recovery.head.Head.{Head}
use Rattle.sled_disk.specs.RecoveredHeads.{AreRead}
use Rattle.sled_disk.specs.Reading.{Read}
use Rattle.sled_disk.specs.Format.{Begun, number_bytes, record_bytes, closing_record}

-- what it writes after the current gate: a length, the record, and the next gate, which is closed
abbrev pub abandoned_frame : ℕ → List ℕ
abandoned_frame begun = number_bytes 25 ++ record_bytes (closing_record 14 begun) ++ 0 ∷ []

-- how many bytes it takes, including its gate, if one is needed
abbrev pub room_behind : Option ℕ → ℕ
room_behind None = 0
room_behind (Some begun) = 34

-- the place of the record that began a batch
abbrev pub place_of_begun : Option (Begun Head) → Option ℕ
place_of_begun None = None
place_of_begun (Some begun) = Some begun.place

-- A file was read up to the closed gate there; a batch has begun at the record there, or none has.
pub record IsReadTo (seen : List ℕ) (gate : ℕ) (begun : Option ℕ) (read : Read) : Type 0 where
  pub are : AreRead seen gate read
  pub place : place_of_begun read.begun ≡ begun
