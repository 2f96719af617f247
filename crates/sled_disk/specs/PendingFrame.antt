-- The next frame as the clauses of a log use it.
use Rattle.std.specs.Prelude.{◌≤◌, ◌+◌, ◌-◌, ℕ, ℤ, pos, Bool, true, Option, Some, None, List, [], ◌∷◌, ◌++◌, length, if◌then◌else◌}
use Rattle.sled_base.specs.Kinds.{byte_of}
use Rattle.sled_base.specs.declared.kinds.MessageKind.{MessageKind}
use Rattle.sled_base.specs.declared.types.DiskPtr.{DiskPtr}
use Rattle.sled_base.specs.declared.types.DiskPtr.TheVariants.{Inline}
use Rattle.sled_log.specs.Events.{Event}
use Rattle.sled_log.specs.Limits.{head_size}
use Rattle.sled_log.specs.LogState.{LogState}
use Rattle.sled_log.specs.Messages.{Entry}
use Rattle.sled_disk.specs.declared.format.next_frame.NextFrame.{NextFrame}
use Rattle.sled_disk.specs.Format.{Record, Progress}
use Rattle.sled_disk.specs.Pending.{pending_in, state_in, frame_size}
use Rattle.sled_disk.specs.RecoveredLog.{IsFull}
use Rattle.sled_disk.specs.LogContents.{records_behind, progress_then}

-- the pending events, including the marks of batches
abbrev pub pending_of : List ℕ → NextFrame → List (Event Entry)
pending_of seen next = pending_in seen next.gate next.spilled next.buffer.items

-- the log over a file with these bytes
abbrev pub state_of : List ℕ → NextFrame → Bool → LogState Entry
state_of seen next usable = state_in seen next.gate next.spilled next.buffer.items usable

-- the batch that is open, by the place of its first record
abbrev pub batch_of : NextFrame → Option ℕ
batch_of next = if next.batch then Some next.batch_place else None

-- how many bytes will be written: a length, the records, the gate after them, and the one before; 0 if no record is pending
abbrev pub size_of : NextFrame → ℕ
size_of next = frame_size next.buffer.items

-- whether the gate after it would be above the greatest i64 with a payload of n more bytes; and the same for the first record of a batch
abbrev pub IsFullFor : NextFrame → ℕ → Type 0
IsFullFor next n = IsFull next.gate next.buffer.items next.batch n

abbrev pub IsFullForBatch : NextFrame → Type 0
IsFullForBatch next = IsFull next.gate next.buffer.items true 0

-- whether a message with a payload of n bytes causes a frame to be written: with it, `segment` bytes or more are pending
abbrev pub IsDue : ℕ → NextFrame → ℕ → Type 0
IsDue segment next n = segment ≤ length next.buffer.items - 8 + (head_size + n)

-- where the next record will be, and what an append returns for a message there
abbrev pub place_of : NextFrame → ℕ
place_of next = next.gate + 1 + length next.buffer.items

abbrev pub said_of : NextFrame → List ℕ → ℤ × DiskPtr × ℕ
said_of next payload = (pos (place_of next), Inline (place_of next), head_size + length payload)

-- the pending records, with one more message
abbrev pub records_with : NextFrame → MessageKind → ℕ → List ℕ → List Record
records_with next kind pid payload = records_behind next.buffer.items ++ record { kind = byte_of kind; id = pid; payload = payload } ∷ []

-- what the file will mean with the frame, its events, and those with one more message
abbrev pub progress_of : List ℕ → NextFrame → Progress Entry (List (Event Entry))
progress_of seen next = progress_then seen next.gate (records_behind next.buffer.items)

abbrev pub events_of : List ℕ → NextFrame → List (Event Entry)
events_of seen next = (progress_of seen next).settled

abbrev pub events_with : List ℕ → NextFrame → MessageKind → ℕ → List ℕ → List (Event Entry)
events_with seen next kind pid payload = (progress_then seen next.gate (records_with next kind pid payload)).settled
