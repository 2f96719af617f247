-- A place among the records of a file and the pending ones.
use Rattle.std.specs.Prelude.{◌≡◌, ◌+◌, ◌==◌, ◌&&◌, ◌||◌, ℕ, Bool, true, List, [], ◌∷◌, length, take, drop, get_or}
use Rattle.sled_disk.specs.declared.format.record.RawHead.{RawHead}
use Rattle.sled_disk.specs.Format.{Record, Frame, number, size, body}
use Rattle.sled_disk.specs.Reading.{frames_of}
use Rattle.sled_disk.specs.LogContents.{or_none}

-- whether one of these records is at that place, the first of them being at `place`; or the last one ends there
abbrev pub is_between : ℕ → List Record → ℕ → Bool
is_between place [] at = at == place
is_between place (r ∷ rs) at = at == place || is_between (place + size r) rs at

-- whether that is so of the frame whose gate is at `gate`: one of these, the first of which is at `first`, or the frame that the pending
-- records after them will be
abbrev pub is_among : ℕ → List Frame → List Record → ℕ → ℕ → Bool
is_among first [] pending gate at = gate == first && is_between (first + 9) pending at
is_among first (frame ∷ frames) pending gate at =
    gate == first && is_between (first + 9) frame.records at || is_among (first + (9 + length (body frame.records))) frames pending gate at

-- That is so of the frames of a file with these bytes.
pub record IsAmong (seen : List ℕ) (pending : List Record) (gate at : ℕ) : Type 0 where
  pub known : is_among 8 (or_none (frames_of (drop 8 seen))) pending gate at ≡ true

-- These bytes begin with the head of a record and its payload's length.
pub record IsFront (bytes : List ℕ) (raw : RawHead) (size : ℕ) : Type 0 where
  pub kind : raw.kind ≡ get_or bytes 0 0
  pub page : raw.page ≡ number (take 8 (drop 1 bytes))
  pub len : size ≡ number (take 8 (drop 9 bytes))
