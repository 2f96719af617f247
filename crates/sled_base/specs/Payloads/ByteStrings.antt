-- How byte strings are encoded.
use Rattle.std.specs.Prelude.{◌≡◌, ℕ, ◌<◌, ◌^◌, List, ◌++◌, length}
use Rattle.sled_base.specs.Limits.{inline_limit}
use Rattle.sled_base.specs.Payloads.Numbers.{ReadsU64, written_u64}

-- the length, followed by that many bytes
abbrev pub ReadsBytes : List ℕ → List ℕ → List ℕ → Type 0
ReadsBytes input bytes rest = (middle : List ℕ) × ReadsU64 input (length bytes) middle × (middle ≡ bytes ++ rest)

-- memory is asked for if a byte string is read that is too long to be stored inline
abbrev pub AsksBytes : List ℕ → Type 0
AsksBytes input = (bytes rest : List ℕ) × ReadsBytes input bytes rest × (inline_limit < length bytes)

abbrev pub written_bytes : List ℕ → List ℕ
written_bytes bytes = written_u64 (length bytes) ++ bytes

abbrev pub CanWriteBytes : List ℕ → Type 0
CanWriteBytes bytes = length bytes < 2 ^ 64
