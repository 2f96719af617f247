-- How the byte strings of a link and the names of roots are encoded.
use Rattle.std.specs.Prelude.{ℕ, ◌<◌, List, length}
use Rattle.sled_base.specs.Limits.{inline_limit}
use Rattle.sled_base.specs.Payloads.ByteStrings.{ReadsBytes}
use Rattle.sled_node.specs.Pairs.{IsWithinLimit}

-- a byte string within the limit
abbrev pub ReadsShort : List ℕ → List ℕ → List ℕ → Type 0
ReadsShort input bytes rest = ReadsBytes input bytes rest × IsWithinLimit bytes

-- memory is asked for if such a byte string is read that is too long to be stored inline
abbrev pub AsksShort : List ℕ → Type 0
AsksShort input = (bytes rest : List ℕ) × ReadsShort input bytes rest × (inline_limit < length bytes)
