-- One more frame after the frames of a file.
use Rattle.std.specs.Prelude.{◌≡◌, ◌+◌, ◌^◌, ◌<◌, ℕ, Option, Some, List, ◌∷◌, ◌++◌, length, take}
use Rattle.sled_log.specs.Events.{Event}
use Rattle.sled_log.specs.Messages.{Entry, effect_of_entry}
use Rattle.sled_disk.specs.Format.{Frame, body, frame_bytes, IsFrame, Begun, turns, takes_event, room_for, entry_at}

-- The frame may follow a gate at that place. Before it these events were described, and a batch had begun or not; after it `after` is
-- described. Its records are allowed there, and the place of the next gate leaves room for the frame that closes a batch.
pub record MayFollow (gate : ℕ) (events : List (Event Entry)) (begun : Option (Begun Entry)) (frame : Frame) (after : List (Event Entry)) : Type 0 where
  pub fits : IsFrame frame
  pub ends_in : Option (Begun Entry)
  pub says : turns entry_at (takes_event effect_of_entry) (gate + 9) (record { settled = events; begun = begun }) frame.records ≡ Some (record { settled = after; begun = ends_in })
  pub small : gate + (9 + length (body frame.records)) + room_for ends_in < 2 ^ 63

-- the file after the frame was written over the closed gate at that place, followed by a closed gate and any bytes
abbrev pub IsWritten : ℕ → List ℕ → Frame → List ℕ → Type 0
IsWritten gate bytes frame after = (rest : List ℕ) × (after ≡ take gate bytes ++ (frame_bytes frame ++ 0 ∷ rest))
