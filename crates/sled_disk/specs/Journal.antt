-- What a disk in memory held at each moment, from the journal of its writes and syncs.
use Rattle.std.specs.Prelude.{◌≡◌, ℕ, ◌+◌, ◌-◌, ◌≤◌, ◌==◌, Bool, true, ◌&&◌, nat_le, max, Option, Some, None, List, [], ◌∷◌, length, take, drop, map, replicate}
use Rattle.sled_disk.specs.Disk.{overlaid, Torn}
use Rattle.sled_disk.specs.declared.disk.journal.Call.{Call as StoredCall}
use Rattle.sled_disk.specs.declared.disk.journal.Call.TheVariants as stored

-- a write, a write of bytes that are there already, or a sync
pub data DiskCall : Type 0 where
  Write : (at : ℕ) (bytes : List ℕ) → DiskCall
  Again : (at : ℕ) (bytes : List ℕ) → DiskCall
  Sync : DiskCall

-- The bytes of all writes are stored end to end, and a call says where its own begin and end.
abbrev pub call_in : List ℕ → StoredCall → DiskCall
call_in written (stored.Write at from to) = Write at (take (to - from) (drop from written))
call_in written stored.Sync = Sync

abbrev pub calls_in : List ℕ → List StoredCall → List DiskCall
calls_in written calls = map (call_in written) calls

-- Whether a call begins within the `len` bytes that were there, and its own bytes are among those that were written; and how many bytes
-- there are after it.
abbrev pub is_within : ℕ → ℕ → StoredCall → Bool
is_within written len (stored.Write at from to) = nat_le at len && (nat_le from to && nat_le to written)
is_within written len stored.Sync = true

abbrev pub length_after : ℕ → StoredCall → ℕ
length_after len (stored.Write at from to) = max len (at + (to - from))
length_after len stored.Sync = len

-- whether all calls do, if there are `len` bytes at first and `end` bytes at the end
abbrev pub are_within : ℕ → ℕ → ℕ → List StoredCall → Bool
are_within written len end [] = len == end
are_within written len end (call ∷ calls) = is_within written len call && are_within written (length_after len call) end calls

-- what reads return, what the last sync made durable, and the ranges (place, length) that were written since, the newest first
pub record Image : Type 0 where
  pub seen : List ℕ
  pub synced : List ℕ
  pub unsynced : List (ℕ × ℕ)

abbrev pub all_synced : List ℕ → Image
all_synced bytes = record { seen = bytes; synced = bytes; unsynced = [] }

abbrev pub after_call : Image → DiskCall → Image
after_call image (Write at bytes) = record { seen = overlaid image.seen at bytes; synced = image.synced; unsynced = (at, length bytes) ∷ image.unsynced }
after_call image (Again at bytes) = image
after_call image Sync = all_synced image.seen

-- the image after these calls, in order
abbrev pub after_calls : Image → List DiskCall → Image
after_calls image [] = image
after_calls image (call ∷ calls) = after_calls (after_call image call) calls

-- what was durable, with each range torn that was written since
abbrev pub IsTornFrom : List ℕ → List (ℕ × ℕ) → List ℕ → Type 0
IsTornFrom synced [] left = left ≡ synced
IsTornFrom synced (range ∷ earlier) left = (was : List ℕ) × IsTornFrom synced earlier was × Torn range.0 range.1 was left

-- the crash states of an image
abbrev pub MayLeave : Image → List ℕ → Type 0
MayLeave image left = IsTornFrom image.synced image.unsynced left

-- what a crash at some moment from `since` on might have left of a disk that had the image `first` before these calls
pub record WasLeft (first : Image) (calls : List DiskCall) (since : ℕ) (left : List ℕ) : Type 0 where
  pub at : ℕ
  pub from : since ≤ at
  pub to : at ≤ length calls
  pub may : MayLeave (after_calls first (take at calls)) left

-- ---- one crash state of each image

-- these bytes with `byte` throughout each of these ranges
abbrev pub filled : ℕ → List ℕ → List (ℕ × ℕ) → List ℕ
filled byte synced [] = synced
filled byte synced (range ∷ earlier) = overlaid (filled byte synced earlier) range.0 (replicate range.1 byte)

-- the ranges that are not synced hold what was written or, if a byte is given, that byte throughout
abbrev pub left_of : Option ℕ → Image → List ℕ
left_of None image = image.seen
left_of (Some byte) image = filled byte image.synced image.unsynced

-- What a replay has made of an image: what reads return, and a crash state of the same length.
pub record IsReplayed (fill : Option ℕ) (image : Image) (seen left : List ℕ) : Type 0 where
  pub reads : seen ≡ image.seen
  pub leaves : left ≡ left_of fill image
  pub torn : IsTornFrom image.synced image.unsynced left
  pub long : length left ≡ length seen
