-- What is pending: the records in a buffer, and the changes of a batch in which the file ends.
use Rattle.std.specs.Prelude.{◌+◌, ◌-◌, ◌==◌, nat_le, nat_lt, ℕ, Bool, true, false, List, [], ◌∷◌, ◌++◌, length, map, drop, if◌then◌else◌}
use Rattle.sled_base.specs.Kinds.{kind_of, log_kind_of}
use Rattle.sled_base.specs.declared.kinds.LogKind.{LogKind}
use Rattle.sled_base.specs.declared.kinds.LogKind.TheVariants as effects
use Rattle.sled_log.specs.Chains.{chains_after}
use Rattle.sled_log.specs.Events.{Event, Change, Pin, Seal, Cancel}
use Rattle.sled_log.specs.LogState.{LogState}
use Rattle.sled_log.specs.Messages.{Entry, effect_of_entry}
use Rattle.sled_disk.specs.Format.{Record, size, number_bytes, entry_at}
use Rattle.sled_disk.specs.LogContents.{events_in, inside_in, records_behind}

-- whether a batch is open after a record of this kind, and after these records, if the first argument says whether one is open before
abbrev pub open_behind : Bool → ℕ → Bool
open_behind was kind = if kind == 12 then true else if kind == 13 then false else if kind == 1 then false else was

abbrev pub open_by : Bool → List Record → Bool
open_by was [] = was
open_by was (r ∷ rs) = open_by (open_behind was r.kind) rs

-- a log writes a record that marks a batch as abandoned only when it is opened
abbrev pub is_own : Record → Bool
is_own r = nat_lt r.kind 14

-- the room for the record that closes a batch, and for a frame with only that record
abbrev pub closing_room : Bool → ℕ
closing_room true = 25
closing_room false = 0

abbrev pub room_after : Bool → ℕ
room_after true = 34
room_after false = 0

-- the events that are pending, if the first record will be at a place
abbrev pub event_by : LogKind → ℕ → Record → List (Event Entry)
event_by effects.Replace place r = Change r.id (entry_at place r) ∷ []
event_by effects.Free place r = Change r.id (entry_at place r) ∷ []
event_by effects.Link place r = Change r.id (entry_at place r) ∷ []
event_by effects.Skip place r = []
event_by effects.Corrupted place r = []

abbrev pub pending_event : ℕ → Record → List (Event Entry)
pending_event place r =
    if r.kind == 12 then Pin ∷ [] else if r.kind == 13 then Seal ∷ [] else if r.kind == 1 then Cancel ∷ [] else event_by (log_kind_of (kind_of r.kind)) place r

abbrev pub pending_events : ℕ → List Record → List (Event Entry)
pending_events place [] = []
pending_events place (r ∷ rs) = pending_event place r ++ pending_events (place + size r) rs

-- the changes of a batch as events, and the batch in which a file ends
abbrev pub changes : {E : Type 0} → List (ℕ × E) → List (Event E)
changes inside = map (λ change. Change change.0 change.1) inside

abbrev pub batch_events : {E : Type 0} → Bool → List (ℕ × E) → List (Event E)
batch_events true inside = Pin ∷ changes inside
batch_events false inside = []

-- ---- the state of the log

-- what is pending, if the current gate is at a place, and `spilled` says whether the file ends inside a batch
abbrev pub pending_in : List ℕ → ℕ → Bool → List ℕ → List (Event Entry)
pending_in seen gate spilled buffer = batch_events spilled (inside_in seen) ++ pending_events (gate + 9) (records_behind buffer)

-- What counts in the open frames is durable. A batch in which they end is pending, and so is what is in the buffer.
abbrev pub state_in : List ℕ → ℕ → Bool → List ℕ → Bool → LogState Entry
state_in seen gate spilled buffer usable = record {
  stable = chains_after effect_of_entry [] (events_in seen);
  pending = pending_in seen gate spilled buffer;
  usable = usable;
}

-- what a frame writes after the current gate: the length of its records, the records, and the next gate, which is closed
abbrev pub frame_in : List ℕ → List ℕ
frame_in buffer = number_bytes (length (drop 8 buffer)) ++ drop 8 buffer ++ 0 ∷ []

-- how many bytes the next frame would write, including its length and its gate
abbrev pub frame_size : List ℕ → ℕ
frame_size buffer = if nat_le (length buffer) 8 then 0 else length buffer - 8 + 10
