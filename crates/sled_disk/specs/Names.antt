-- The messages that a log on a disk still has to name.
use Rattle.std.specs.Prelude.{◌≡◌, ◌≢◌, ◌⊎◌, ◌+◌, ◌≤◌, ℕ, zero, suc, ◌==◌, ◌&&◌, nat_lt, Bool, true, false, nat_le, Option, Some, None, List, [], ◌∷◌, ◌++◌, if◌then◌else◌}
use Rattle.std.specs.List.{filter}
use Rattle.sled_base.specs.declared.kinds.LogKind.{LogKind}
use Rattle.sled_base.specs.declared.kinds.LogKind.TheVariants as kinds
use Rattle.sled_base.specs.declared.types.DiskPtr.{DiskPtr}
use Rattle.sled_base.specs.declared.types.DiskPtr.TheVariants.{Inline, Blob}
use Rattle.sled_log.specs.Calls.{Counts, HasGrown}
use Rattle.sled_log.specs.Events.{Event, Change, Pin, Seal, Cancel}
use Rattle.sled_log.specs.Messages.{Entry}
use Rattle.sled_log.specs.Moves.{Moves}
use Rattle.sled_disk.specs.declared.log.names.Names.{Names}
use Rattle.sled_disk.specs.declared.format.next_frame.NextFrame.{NextFrame}
use Rattle.sled_disk.specs.Format.{is_closing}
use Rattle.sled_disk.specs.LogContents.{events_in}
use Rattle.sled_disk.specs.PendingFrame.{pending_of}

-- ---- the messages of a log

abbrev pub offset_in : DiskPtr → ℕ
offset_in (Inline place) = place
offset_in (Blob place blob) = place

-- the messages of pages among these events, each by its page and its place
abbrev pub messages_in : List (Event Entry) → List (ℕ × ℕ)
messages_in [] = []
messages_in (Change id entry ∷ events) = (id, offset_in entry.place.pointer) ∷ messages_in events
messages_in (Pin ∷ events) = messages_in events
messages_in (Seal ∷ events) = messages_in events
messages_in (Cancel ∷ events) = messages_in events

-- The messages of a file with these bytes, and the pending ones after them. Those of an open batch are pending, wherever they are; those of
-- an abandoned one do not count.
abbrev pub all_messages : List ℕ → NextFrame → List (ℕ × ℕ)
all_messages seen next = messages_in (events_in seen ++ pending_of seen next)

-- those at a place or after it
abbrev pub from_place : ℕ → List (ℕ × ℕ) → List (ℕ × ℕ)
from_place at messages = filter (λ message. nat_le at message.1) messages

-- ---- those that were not named yet

-- one that was read, or none
abbrev pub one_or_none : Option (ℕ × ℕ) → List (ℕ × ℕ)
one_or_none None = []
one_or_none (Some message) = message ∷ []

-- the one that was read, and those from the place up to which the log was read
abbrev pub moves_in : List ℕ → NextFrame → Names → Moves
moves_in seen next names = record { waiting = one_or_none names.read ++ from_place names.at (all_messages seen next); appended = names.appended }

-- of these only the one that was read
abbrev pub read_of : Names → Moves
read_of names = record { waiting = one_or_none names.read; appended = names.appended }

-- ---- reading them

-- a record by its page and its place, if it is a message of a page
abbrev pub named_by : LogKind → ℕ → ℕ → List (ℕ × ℕ)
named_by kinds.Free page place = (page, place) ∷ []
named_by kinds.Replace page place = (page, place) ∷ []
named_by kinds.Link page place = (page, place) ∷ []
named_by kinds.Skip page place = []
named_by kinds.Corrupted page place = []

-- the place of the record that is looked at next, or of the end of its frame, and the place of the gate of that frame
abbrev pub looks_at : Names → ℕ
looks_at names = if names.seeks then names.ahead else names.at

abbrev pub frame_of : Names → ℕ
frame_of names = if names.seeks then names.ahead_gate else names.gate

-- After a gate, and after a record of that kind with a payload of that length. The batches that the log began itself are never abandoned.
abbrev pub behind_gate : Names → ℕ → Names
behind_gate names gate = if names.seeks then record names { ahead = gate + 9; ahead_gate = gate } else record names { at = gate + 9; gate = gate }

abbrev pub behind_begin : Names → ℕ → Names
behind_begin names next = record names { at = next; ahead = next; ahead_gate = names.gate; seeks = true }

abbrev pub behind_closing : Names → Bool → ℕ → Names
behind_closing names abandoned next = if abandoned then record names { at = next; gate = names.ahead_gate; ahead = next; seeks = false } else record names { ahead = next; seeks = false }

abbrev pub behind_record : Names → ℕ → ℕ → Names
behind_record names kind len =
    if names.seeks then (if is_closing kind then behind_closing names (kind == 14) (names.ahead + (17 + len)) else record names { ahead = names.ahead + (17 + len) }) else
    if kind == 12 && nat_lt names.at names.own then behind_begin names (names.at + (17 + len)) else record names { at = names.at + (17 + len) }

-- how many frames and records one call reads at most to find a message
abbrev pub most_steps : ℕ
most_steps = 256

-- One step: the place advanced by a record or a gate; or, while the record is looked for that closes a batch, the second place advanced, or
-- the search ended. That no message was skipped follows from the moves.
abbrev pub IsStep : Names → Names → Type 0
IsStep old new = (old.at + 9 ≤ new.at) ⊎ ((new.at ≡ old.at) × (old.seeks ≡ true) × ((old.ahead + 9 ≤ new.ahead) ⊎ (new.seeks ≡ false)))

-- that many steps were made
unfoldable pub AreSteps : ℕ → Names → Names → Type 0
AreSteps zero old new = (new.at ≡ old.at) × (new.ahead ≡ old.ahead) × (new.seeks ≡ old.seeks)
AreSteps (suc n) old new = (mid : Names) × AreSteps n old mid × IsStep mid new

-- One of these messages was read, to be named; or there is none; or a read failed.
abbrev pub IsFound : Names → Counts → Counts → Moves → Type 0
IsFound new counts now moves = (one_or_none new.read ≢ []) ⊎ (moves.waiting ≡ []) ⊎ HasGrown counts.failed_reads now.failed_reads

-- Or `most_steps` steps were made.
abbrev pub IsSought : Names → Names → Counts → Counts → Moves → Type 0
IsSought old new counts now moves = IsFound new counts now moves ⊎ AreSteps most_steps old new

-- After an append a message was read, whether it is due yet or not; or a read failed, or `most_steps` steps were made.
abbrev pub IsReadAhead : Names → Names → Counts → Counts → Type 0
IsReadAhead old new counts now = (one_or_none new.read ≢ []) ⊎ HasGrown counts.failed_reads now.failed_reads ⊎ AreSteps most_steps old new

-- What is due is what is due among all messages; or a read failed, or `most_steps` steps were made.
abbrev pub IsDueOfAll : Option (ℕ × ℕ) → Option (ℕ × ℕ) → Names → Names → Counts → Counts → Type 0
IsDueOfAll due of_all old new counts now = (due ≡ of_all) ⊎ HasGrown counts.failed_reads now.failed_reads ⊎ AreSteps most_steps old new
