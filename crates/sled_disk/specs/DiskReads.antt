-- What is read from a disk.
use Rattle.std.specs.Prelude.{◌≡◌, ◌+◌, ◌≤◌, ◌<◌, ℕ, List, length, take, drop, Option, Some, None, Result, IsErrOf}
use Rattle.sled_log.specs.Calls.{Counts, HasGrown}
use Rattle.sled_log.specs.declared.log.LogError.{LogError}
use Rattle.sled_log.specs.declared.log.LogError.TheVariants.{ReadFault}
use Rattle.sled_disk.specs.declared.reader.window.Window.{Window}
use Rattle.sled_disk.specs.declared.format.record.RawHead.{RawHead}
use Rattle.sled_disk.specs.UnreadBytes.{piece}
use Rattle.sled_disk.specs.Reading.{body_at, raw_record, record_at}

-- The bytes of a disk that was not written: they are the same, and no crash state was added or forgotten.
pub record Rests {D : Type 0} (tells : Type 0) (seen : D → List ℕ) (may_leave : D → List ℕ → Type 0) (moment : D → ℕ) (left_since : D → ℕ → List ℕ → Type 0) (old new : D) : Type 0 where
  pub same : tells → seen new ≡ seen old
  pub may : tells → (left : List ℕ) → may_leave new left → may_leave old left
  pub later : tells → moment old ≤ moment new
  pub nothing_else : tells → (t : ℕ) (left : List ℕ) → t ≤ moment old → left_since new t left → left_since old t left
  pub kept : tells → (t : ℕ) (left : List ℕ) → t ≤ moment old → left_since old t left → left_since new t left

-- a read fault is reported only if its count grew, and no count decreases
pub record ReadFaults {T : Type 0} (old new : Counts) (result : Result T LogError) : Type 0 where
  pub failed_reads : old.failed_reads ≤ new.failed_reads
  pub write_faults : old.write_faults ≤ new.write_faults
  pub read : IsErrOf result ReadFault → HasGrown old.failed_reads new.failed_reads

-- the window has these bytes of the file, from its place on
abbrev pub Shows : Type 0 → List ℕ → Window → Type 0
Shows tells seen window = tells → window.bytes.items ≡ take (length window.bytes.items) (drop window.start seen)

-- a body of this length, whose length field is at a place, is not empty and ends within the file
abbrev pub HasBody : ℕ → ℕ → Option ℕ → Type 0
HasBody at end (Some len) = (0 < len) × (at + (8 + len) ≤ end)
HasBody at end None = Unit {0}

-- the length of the body after a gate, whose length field is at a place; none if the file has no body there
abbrev pub BodyOnDisk : List ℕ → ℕ → Option ℕ → Type 0
BodyOnDisk seen at (Some len) = body_at (drop at seen) ≡ Some (piece seen (at + 8) (at + (8 + len)), drop (at + (8 + len)) seen)
BodyOnDisk seen at None = body_at (drop at seen) ≡ None

-- a record at a place, with a payload of this length, ends within the body
abbrev pub HasHead : ℕ → ℕ → Option (RawHead × ℕ) → Type 0
HasHead at body_end (Some x) = at + (17 + x.1) ≤ body_end
HasHead at body_end None = Unit {0}

-- the record at a place of a body, by its head and its payload's length; none if the body has none there
abbrev pub HeadOnDisk : List ℕ → ℕ → ℕ → Option (RawHead × ℕ) → Type 0
HeadOnDisk seen at body_end (Some x) = record_at (piece seen at body_end) ≡ Some (raw_record x.0 (piece seen (at + 17) (at + (17 + x.1))), piece seen (at + (17 + x.1)) body_end)
HeadOnDisk seen at body_end None = record_at (piece seen at body_end) ≡ None
