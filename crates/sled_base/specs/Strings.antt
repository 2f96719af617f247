-- Byte strings in one buffer, one after the other, each preceded by its length.
use Rattle.std.specs.Prelude.{◌≡◌, ℕ, ◌+◌, ◌-◌, ◌==◌, ◌≤◌, List, [], ◌∷◌, ◌++◌, Option, Some, None, length, take, drop, slice_range, slice_index, if◌then◌else◌}
use Rattle.std.specs.List.{flat_map, AllByRecursion}
use Rattle.sled_base.specs.Order.{Bytes}
use Rattle.sled_base.specs.Payloads.ByteStrings.{ReadsBytes, written_bytes, CanWriteBytes}
use Rattle.sled_base.specs.Payloads.PlainNumbers.{u64_at}

-- what follows a length
abbrev pub behind_length : Option (ℕ × Bytes) → Bytes
behind_length (Some (length, bytes)) = bytes
behind_length None = []

abbrev pub unwritten : Bytes → Bytes
unwritten written = behind_length (u64_at written)

-- where each string ends, if the first begins at the given place
abbrev pub ends_from : ℕ → List Bytes → List ℕ
ends_from at [] = []
ends_from at (string ∷ strings) = (at + length (written_bytes string)) ∷ ends_from (at + length (written_bytes string)) strings

-- the strings in a buffer, if the first begins at the given place
abbrev pub strings_from : ℕ → Bytes → List ℕ → List Bytes
strings_from at bytes [] = []
strings_from at bytes (end ∷ ends) = unwritten (slice_range bytes at end) ∷ strings_from end bytes ends

abbrev pub strings_in : Bytes → List ℕ → List Bytes
strings_in bytes ends = strings_from 0 bytes ends

-- the buffer holds exactly these encoded strings, and the ends are theirs
pub record Keeps (strings : List Bytes) (bytes : Bytes) (ends : List ℕ) : Type 0 where
  pub bytes_are : flat_map written_bytes strings ≡ bytes
  pub ends_are : ends_from 0 strings ≡ ends
  pub can_write : AllByRecursion CanWriteBytes strings

-- where the string at a place begins, or the last one ends
abbrev pub begin_of : List ℕ → ℕ → ℕ
begin_of ends place = if place == 0 then 0 else slice_index ends (place - 1)

-- the first `len` bytes of a buffer consist of encoded strings, and the ends are theirs
pub record IsFilled (bytes : Bytes) (len : ℕ) (ends : List ℕ) : Type 0 where
  pub within : len ≤ length bytes
  pub keeps : Keeps (strings_in (take len bytes) ends) (take len bytes) ends

-- a string can be read at the front
abbrev pub ReadsSome : Bytes → Type 0
ReadsSome input = (string rest : Bytes) × ReadsBytes input string rest

-- the input begins with this many strings, encoded as they are written
abbrev pub BeginsWith : ℕ → List Bytes → Bytes → Type 0
BeginsWith count strings input = (length strings ≡ count) × (rest : Bytes) × (input ≡ flat_map written_bytes strings ++ rest)

-- the input begins with a string as it is written, whose length takes one byte, and the rest follows it
pub record IsPlain (input rest : Bytes) : Type 0 where
  pub string : Bytes
  pub here : input ≡ written_bytes string ++ rest
  pub short : length string ≤ 240

-- the strings with another one inserted at a place
abbrev pub with_at : ℕ → Bytes → List Bytes → List Bytes
with_at place string strings = take place strings ++ string ∷ drop place strings

-- the strings without the one at a place
abbrev pub without_at : ℕ → List Bytes → List Bytes
without_at place strings = take place strings ++ drop (place + 1) strings
