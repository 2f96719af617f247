-- The file of a disk: opening bytes, then frames after open gates, then a closed gate and any bytes.
use Rattle.std.specs.Prelude.{◌≡◌, ◌≢◌, ◌+◌, ◌-◌, ◌^◌, ◌<◌, ℕ, pos, Bool, true, false, not, ◌&&◌, ◌||◌, ◌==◌, nat_lt, nat_le, List, [], ◌∷◌, ◌++◌, length, get_or, slice_index_or, Option, Some, None, if◌then◌else◌}
use Rattle.std.specs.Int.{w64, to_le_bytes, from_le_bytes}
use Rattle.std.specs.List.{AllByRecursion, list_any}
use Rattle.sled_base.specs.Kinds.{kind_of, log_kind_of}
use Rattle.sled_base.specs.declared.kinds.LogKind.{LogKind}
use Rattle.sled_base.specs.declared.kinds.LogKind.TheVariants as effects
use Rattle.sled_base.specs.declared.kinds.MessageKind.{MessageKind}
use Rattle.sled_base.specs.declared.kinds.MessageKind.TheVariants as kinds
use Rattle.sled_base.specs.declared.types.DiskPtr.TheVariants.{Inline}
use Rattle.sled_log.specs.Chains.{is_empty, chains_after}
use Rattle.sled_log.specs.Events.{Event, Change}
use Rattle.sled_log.specs.Messages.{Entry, effect_of_entry}

-- ---- how records and frames are written

-- the 8 bytes of `SLPCLOG1`
abbrev pub opening : List ℕ
opening = 0x53 ∷ 0x4c ∷ 0x50 ∷ 0x43 ∷ 0x4c ∷ 0x4f ∷ 0x47 ∷ 0x31 ∷ []

-- each is a byte
abbrev pub IsBytes : List ℕ → Type 0
IsBytes bytes = (i : ℕ) → get_or bytes i 0 < 256

-- a number as 8 bytes, the lowest first, and the number that 8 bytes encode
unfoldable pub number_bytes : ℕ → List ℕ
number_bytes n = to_le_bytes w64 n

unfoldable pub number : List ℕ → ℕ
number bytes = from_le_bytes w64 bytes

pub record Record : Type 0 where
  pub kind : ℕ
  pub id : ℕ
  pub payload : List ℕ

-- a record: kind, page id, payload length, payload
abbrev pub record_bytes : Record → List ℕ
record_bytes r = r.kind ∷ number_bytes r.id ++ number_bytes (length r.payload) ++ r.payload

-- how many bytes it takes
abbrev pub size : Record → ℕ
size r = 17 + length r.payload

-- records in order
abbrev pub body : List Record → List ℕ
body [] = []
body (r ∷ rs) = record_bytes r ++ body rs

-- a frame: its gate, and the records after it
pub record Frame : Type 0 where
  pub gate : ℕ
  pub records : List Record

-- gate, body length, body; the next gate follows
abbrev pub frame_bytes : Frame → List ℕ
frame_bytes frame = frame.gate ∷ number_bytes (length (body frame.records)) ++ body frame.records

abbrev pub frames_bytes : List Frame → List ℕ
frames_bytes [] = []
frames_bytes (frame ∷ frames) = frame_bytes frame ++ frames_bytes frames

-- a record's numbers fit in their 8 bytes
pub record Fits (r : Record) : Type 0 where
  pub id : r.id < 2 ^ 64
  pub payload : length r.payload < 2 ^ 64

-- the gate is open, and the body has at least one record and a length that fits in its 8 bytes
pub record IsFrame (frame : Frame) : Type 0 where
  pub gate : frame.gate ≢ 0
  pub some : frame.records ≢ []
  pub fit : AllByRecursion Fits frame.records
  pub length : length (body frame.records) < 2 ^ 64

-- ---- where records are, and what they mean

-- the places of consecutive records
abbrev pub places_from : ℕ → List Record → List ℕ
places_from place [] = []
places_from place (r ∷ rs) = place ∷ places_from (place + size r) rs

-- whether one of these records of a frame is at that place
abbrev pub stands_in : ℕ → ℕ → List Record → Bool
stands_in target place rs = list_any (λ p. target == p) (places_from place rs)

-- the page id of a record that marks a batch
abbrev pub mark_id : ℕ
mark_id = 2 ^ 64 - 667

-- Whether a record is a batch's mark of the old kind, which is within one frame: it names a record of the frame that is not before the
-- mark. It has no other meaning.
abbrev pub is_mark : Record → Bool
is_mark r = r.kind == 3 && (r.id == mark_id && length r.payload == 8)

abbrev pub marks : ℕ → Record → List Record → Bool
marks place r rest = is_mark r && stands_in (number r.payload) place (r ∷ rest)

-- whether a record begins a batch, and the record with which a log begins one
abbrev pub is_begin : Record → Bool
is_begin r = r.id == mark_id && length r.payload == 0

abbrev pub begin_record : Record
begin_record = record { kind = 12; id = mark_id; payload = [] }

-- whether a record of this kind closes a batch: it ends (13), it is cancelled (1), or it was abandoned (14)
abbrev pub is_closing : ℕ → Bool
is_closing kind = kind == 13 || (kind == 1 || kind == 14)

-- whether a record closes the batch that began at that place, and the record with which a log closes one
abbrev pub closes_from : ℕ → Record → Bool
closes_from begin r = r.id == mark_id && (length r.payload == 8 && number r.payload == begin)

abbrev pub closing_record : ℕ → ℕ → Record
closing_record kind begin = record { kind = kind; id = mark_id; payload = number_bytes begin }

-- for each type `E` of what may be kept of a record at a place
module _ {E : Type 0} (effect : E → LogKind) where
  -- whether a change of a page may follow what made these chains: it leaves no gap in the ids, it frees only a page that exists, and it
  -- links only one that has a content
  abbrev pub may_change : LogKind → List (List E) → ℕ → Bool
  may_change effects.Replace chains id = nat_le id (length chains)
  may_change effects.Free chains id = nat_lt id (length chains)
  may_change effects.Link chains id = not (is_empty effect (slice_index_or chains id []))
  may_change effects.Skip chains id = false
  may_change effects.Corrupted chains id = false

-- whether it is a change of a page
abbrev pub is_changing : LogKind → Bool
is_changing effects.Replace = true
is_changing effects.Free = true
is_changing effects.Link = true
is_changing effects.Skip = false
is_changing effects.Corrupted = false

-- ---- from record to record

infixl 10 ◌>>=◌
abbrev pub ◌>>=◌ : {A B : Type 0} → Option A → (A → Option B) → Option B
None >>= f = None
(Some x) >>= f = f x

-- a batch that has begun: the place of its first record, and its changes so far, each with its page
pub record Begun (E : Type 0) : Type 0 where
  pub place : ℕ
  pub inside : List (ℕ × E)

-- how far a file was read: what counts, and the batch that has begun, if one has
pub record Progress (E S : Type 0) : Type 0 where
  pub settled : S
  pub begun : Option (Begun E)

-- outside a batch, and inside one
abbrev pub outside : {E S : Type 0} → S → Progress E S
outside s = record { settled = s; begun = None }

abbrev pub within : {E S : Type 0} → S → ℕ → List (ℕ × E) → Progress E S
within s place inside = record { settled = s; begun = Some (record { place = place; inside = inside }) }

-- What is kept of a record at a place, and what counts with one more change, if it is allowed then. Changes in a batch count once a record
-- ends or cancels it, and not before; if it is abandoned, they never count.
module _ {E S : Type 0} (said : ℕ → Record → E) (takes : S → ℕ → E → Option S) where
  abbrev pub taken : S → List (ℕ × E) → Option S
  taken s [] = Some s
  taken s (change ∷ changes) = takes s change.0 change.1 >>= λ t. taken t changes

  -- a change outside a batch, and in one
  abbrev pub counts : LogKind → S → ℕ → E → Option (Progress E S)
  counts effects.Replace s id e = takes s id e >>= λ t. Some (outside t)
  counts effects.Free s id e = takes s id e >>= λ t. Some (outside t)
  counts effects.Link s id e = takes s id e >>= λ t. Some (outside t)
  counts effects.Skip s id e = None
  counts effects.Corrupted s id e = None

  abbrev pub waits : LogKind → S → Begun E → ℕ → E → Option (Progress E S)
  waits effects.Replace s b id e = Some (within s b.place (b.inside ++ (id, e) ∷ []))
  waits effects.Free s b id e = Some (within s b.place (b.inside ++ (id, e) ∷ []))
  waits effects.Link s b id e = Some (within s b.place (b.inside ++ (id, e) ∷ []))
  waits effects.Skip s b id e = None
  waits effects.Corrupted s b id e = None

  -- a record outside a batch that begins none; the last argument says whether it is an old mark
  abbrev pub plain : MessageKind → S → ℕ → Record → Bool → Option (Progress E S)
  plain kinds.Canceled s place r mark = Some (outside s)
  plain kinds.BatchManifest s place r mark = if mark then Some (outside s) else None
  plain kind s place r mark = counts (log_kind_of kind) s r.id (said place r)

  abbrev pub turn_outside : S → ℕ → Record → Bool → Option (Progress E S)
  turn_outside s place r mark =
      if r.kind == 12 then (if is_begin r then Some (within s place []) else None) else plain (kind_of r.kind) s place r mark

  -- the record that closes a batch
  abbrev pub closed : ℕ → S → Begun E → Option (Progress E S)
  closed kind s b = if kind == 14 then Some (outside s) else (taken s b.inside >>= λ t. Some (outside t))

  abbrev pub turn_inside : S → Begun E → ℕ → Record → Option (Progress E S)
  turn_inside s b place r =
      if is_closing r.kind then (if closes_from b.place r then closed r.kind s b else None) else waits (log_kind_of (kind_of r.kind)) s b r.id (said place r)

  -- one more record, if it is allowed there
  abbrev pub turn_by : Option (Begun E) → S → ℕ → Record → Bool → Option (Progress E S)
  turn_by None s place r mark = turn_outside s place r mark
  turn_by (Some b) s place r mark = turn_inside s b place r

  abbrev pub turn : Progress E S → ℕ → Record → Bool → Option (Progress E S)
  turn p place r mark = turn_by p.begun p.settled place r mark

  -- the records of a frame, from a place on
  unfoldable pub turns : ℕ → Progress E S → List Record → Option (Progress E S)
  turns place p [] = Some p
  turns place p (r ∷ rs) = turn p place r (marks place r rs) >>= λ q. turns (place + size r) q rs

  -- frames, the first gate of which is at a place
  unfoldable pub frames_turns : ℕ → Progress E S → List Frame → Option (Progress E S)
  frames_turns gate p [] = Some p
  frames_turns gate p (frame ∷ frames) = turns (gate + 9) p frame.records >>= λ q. frames_turns (gate + (9 + length (body frame.records))) q frames

-- one more change, if it is allowed: in events, and in the chains that they make
module _ {E : Type 0} (effect : E → LogKind) where
  abbrev pub takes_event : List (Event E) → ℕ → E → Option (List (Event E))
  takes_event events id e = if may_change effect (effect e) (chains_after effect [] events) id then Some (events ++ Change id e ∷ []) else None

  abbrev pub takes_change : List (List E) → ℕ → E → Option (List (List E))
  takes_change chains id e = if may_change effect (effect e) chains id then Some (chains_after effect chains (Change id e ∷ [])) else None

-- a record as an entry of its page's chain
abbrev pub entry_at : ℕ → Record → Entry
entry_at place r = record {
  message = record { kind = kind_of r.kind; payload = r.payload };
  place = record { lsn = pos place; pointer = Inline place; log_size = size r };
}

-- After the last gate of a file that ends inside a batch there is room for the frame that marks it as abandoned.
abbrev pub room_for : {E : Type 0} → Option (Begun E) → ℕ
room_for None = 0
room_for (Some begun) = 34

-- what the frames of a file mean, in order
abbrev pub said_by : List Frame → Option (Progress Entry (List (Event Entry)))
said_by frames = frames_turns entry_at (takes_event effect_of_entry) 8 (outside []) frames

-- The bytes describe these events, and their closed gate is at this place.
pub record DescribesTo (gate : ℕ) (bytes : List ℕ) (events : List (Event Entry)) : Type 0 where
  pub frames : List Frame
  pub each : AllByRecursion IsFrame frames
  -- the bytes after the closed gate: any
  pub rest : List ℕ
  pub is : bytes ≡ (opening ++ frames_bytes frames) ++ 0 ∷ rest
  pub place : gate ≡ length (opening ++ frames_bytes frames)
  -- a batch in which the file ends counts for nothing
  pub begun : Option (Begun Entry)
  pub small : gate + room_for begun < 2 ^ 63
  pub meaning : said_by frames ≡ Some (record { settled = events; begun = begun })

-- THE MEANING OF A FILE. The bytes describe these events, in order, which are only changes of pages. Bytes that describe nothing are
-- Corruption.
abbrev pub Describes : List ℕ → List (Event Entry) → Type 0
Describes bytes events = (gate : ℕ) × DescribesTo gate bytes events
