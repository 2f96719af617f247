-- How a byte string is stored.
use Rattle.std.specs.Prelude.{ℕ, ◌≤◌, List, length, take}
use Rattle.sled_base.specs.Bases.{bytes_at}
use Rattle.sled_base.specs.Limits.{inline_limit}
use Rattle.sled_base.specs.declared.kept.Short.{Short}
use Rattle.sled_base.specs.declared.kept.Part.{Part}
use Rattle.sled_base.specs.declared.kept.Kept.{Kept}
use Rattle.sled_base.specs.declared.kept.Kept.TheVariants.{Inline, Shared}

abbrev pub short_bytes : Short → List ℕ
short_bytes short = take short.len short.bytes

abbrev pub part_bytes : Part → List ℕ
part_bytes part = bytes_at part.base part.offset part.len

-- the bytes: the first ones of an inline array, or a part of a shared list
abbrev pub bytes_of : Kept → List ℕ
bytes_of (Inline short) = short_bytes short
bytes_of (Shared part) = part_bytes part

-- so short that a copy allocates nothing
abbrev pub IsShort : List ℕ → Type 0
IsShort bytes = length bytes ≤ inline_limit
