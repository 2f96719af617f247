-- Reading a file's bytes from left to right.
use Rattle.std.specs.Prelude.{◌≡◌, ◌+◌, ◌^◌, ℕ, pos, zero, suc, Bool, true, ◌==◌, nat_lt, List, [], ◌∷◌, length, take, drop, map, Option, Some, None, Result, Ok, Err, if◌then◌else◌}
use Rattle.std.specs.Global.{Vec}
use Rattle.sled_base.specs.Kinds.{kind_of, log_kind_of}
use Rattle.sled_base.specs.declared.kinds.LogKind.{LogKind}
use Rattle.sled_base.specs.declared.kinds.LogKind.TheVariants as effects
use Rattle.sled_base.specs.declared.kinds.MessageKind.{MessageKind}
use Rattle.sled_base.specs.declared.kinds.MessageKind.TheVariants as kinds
use Rattle.sled_base.specs.declared.types.DiskPtr.TheVariants.{Inline}
use Rattle.sled_log.specs.Chains.{chains_after}
use Rattle.sled_log.specs.Events.{Event, Change}
use Rattle.sled_log.specs.Messages.{Entry, effect_of_entry}
use Rattle.sled_log.specs.declared.log.LogError.{LogError}
use Rattle.sled_log.specs.declared.log.LogError.TheVariants.{Memory, Full, ReadFault, WriteFault, Corruption}
use Rattle.sled_disk.specs.declared.recovery.head.Head.{Head}
use Rattle.sled_disk.specs.declared.format.record.RawHead.{RawHead}
use Rattle.sled_disk.specs.Format.{Record, Frame, number, body, may_change, ◌>>=◌, Progress, outside, room_for, takes_change, turn, turns, DescribesTo}

-- ---- records and frames

-- the record at the front, and the bytes after it
unfoldable pub record_at : List ℕ → Option (Record × List ℕ)
record_at [] = None
record_at (kind ∷ bytes) =
    if nat_lt (length bytes) 16 then None else
    if nat_lt (length (drop 16 bytes)) (number (take 8 (drop 8 bytes))) then None else
    Some (record { kind = kind; id = number (take 8 bytes); payload = take (number (take 8 (drop 8 bytes))) (drop 16 bytes) }, drop (number (take 8 (drop 8 bytes))) (drop 16 bytes))

-- all bytes as records, at most `most` of them
unfoldable pub records_in : ℕ → List ℕ → Option (List Record)
records_in most [] = Some []
records_in zero (b ∷ bytes) = None
records_in (suc most) (b ∷ bytes) = record_at (b ∷ bytes) >>= λ x. records_in most x.1 >>= λ rs. Some (x.0 ∷ rs)

unfoldable pub records_of : List ℕ → Option (List Record)
records_of bytes = records_in (length bytes) bytes

-- the body after a gate, and the bytes after it
unfoldable pub body_at : List ℕ → Option (List ℕ × List ℕ)
body_at bytes =
    if nat_lt (length bytes) 8 then None else
    if number (take 8 bytes) == 0 then None else
    if nat_lt (length (drop 8 bytes)) (number (take 8 bytes)) then None else
    Some (take (number (take 8 bytes)) (drop 8 bytes), drop (number (take 8 bytes)) (drop 8 bytes))

-- the frames up to the first closed gate, at most `most` of them
unfoldable pub frames_in : ℕ → List ℕ → Option (List Frame)
frames_in most [] = None
frames_in zero (gate ∷ bytes) = None
frames_in (suc most) (gate ∷ bytes) =
    if gate == 0 then Some [] else
    (body_at bytes >>= λ x. records_of x.0 >>= λ rs. frames_in most x.1 >>= λ frames. Some (record { gate = gate; records = rs } ∷ frames))

unfoldable pub frames_of : List ℕ → Option (List Frame)
frames_of bytes = frames_in (length bytes) bytes

-- ---- what is kept of them

abbrev pub head_at : ℕ → Record → Head
head_at place r = record { kind = kind_of r.kind; place = place; len = length r.payload }

abbrev pub effect_of_head : Head → LogKind
effect_of_head head = log_kind_of head.kind

-- how far the code has read, and the state in which it begins
abbrev pub Read : Type 0
Read = Progress Head (List (List Head))

abbrev pub start : Read
start = outside []

-- one more record, if it is allowed there; the last argument says whether it is a batch's mark of the old kind
unfoldable pub step : Read → ℕ → Record → Bool → Option Read
step p place r mark = turn head_at (takes_change effect_of_head) p place r mark

-- the event that the head of a page's record is
abbrev pub event_of : LogKind → ℕ → Head → List (Event Head)
event_of effects.Replace id head = Change id head ∷ []
event_of effects.Free id head = Change id head ∷ []
event_of effects.Link id head = Change id head ∷ []
event_of effects.Skip id head = []
event_of effects.Corrupted id head = []

-- whether a record that marks no batch may follow what made these chains
abbrev pub may_stand : MessageKind → List (List Head) → ℕ → Bool
may_stand kinds.Canceled chains id = true
may_stand kind chains id = may_change effect_of_head (log_kind_of kind) chains id

-- the chains after such a record, by its page and the head that is kept of it
unfoldable pub step_head : List (List Head) → ℕ → Head → Option (List (List Head))
step_head chains id head = if may_stand head.kind chains id then Some (chains_after effect_of_head chains (event_of (effect_of_head head) id head)) else None

abbrev pub steps : ℕ → Read → List Record → Option Read
steps place p rs = turns head_at (takes_change effect_of_head) place p rs

-- after all bytes of a body
abbrev pub steps_of : ℕ → Read → List ℕ → Option Read
steps_of place p bytes = records_of bytes >>= λ rs. steps place p rs

-- the place of the closed gate, and how far was read, if each record is allowed where it is
unfoldable pub frames_steps : ℕ → Read → List Frame → Option (ℕ × Read)
frames_steps gate p [] = if nat_lt (gate + room_for p.begun) (2 ^ 63) then Some (gate, p) else None
frames_steps gate p (frame ∷ frames) = steps (gate + 9) p frame.records >>= λ q. frames_steps (gate + (9 + length (body frame.records))) q frames

-- what all bytes from a gate on make
abbrev pub found_at : ℕ → Read → List ℕ → Option (ℕ × Read)
found_at gate p bytes = frames_of bytes >>= λ frames. frames_steps gate p frames

-- ---- what the code does

-- a record as the code reads it
abbrev pub raw_record : RawHead → List ℕ → Record
raw_record head payload = record { kind = head.kind; id = head.page; payload = payload }

-- the heads as they are stored in memory
abbrev pub chains_of : List (Vec Head) → List (List Head)
chains_of pages = map (λ chain. chain.items) pages

-- What a call with this result has read: at Ok it made this, and it returns Corruption only if nothing can be read.
abbrev pub Made : {T S : Type 0} → Result T LogError → S → Option S → Type 0
Made (Ok answer) now read = read ≡ Some now
Made (Err Memory) now read = Unit {0}
Made (Err Corruption) now read = read ≡ None
Made (Err Full) now read = ⊥
Made (Err ReadFault) now read = ⊥
Made (Err WriteFault) now read = ⊥

-- the entry that a head of these bytes represents
abbrev pub entry_in : List ℕ → Head → Entry
entry_in bytes head = record {
  message = record { kind = head.kind; payload = take head.len (drop (head.place + 17) bytes) };
  place = record { lsn = pos head.place; pointer = Inline head.place; log_size = 17 + head.len };
}

-- The bytes describe events up to a closed gate at this place, and the heads represent the chains that these make.
pub record Holds (bytes : List ℕ) (gate : ℕ) (heads : List (List Head)) : Type 0 where
  pub events : List (Event Entry)
  pub described : DescribesTo gate bytes events
  pub kept : map (map (entry_in bytes)) heads ≡ chains_after effect_of_entry [] events
