-- The lines of an input.
use Rattle.std.specs.Prelude.{◌≡◌, ◌≢◌, IfSome, ◌⊎◌, ℕ, ◌<◌, ◌≤◌, ◌==◌, List, [], ◌∷◌, length, Option, None, Some, Result, Ok, Err, ⊤, if◌then◌else◌}
use Rattle.std.specs.Io.KnownBytes.{Consumes}
use Rattle.sled_base.specs.Order.{Bytes}
use Rattle.sled_lines.specs.Settings.{longest_line}
use Rattle.sled_lines.specs.declared.lines.Line.{Line}
use Rattle.sled_lines.specs.declared.lines.Line.TheVariants as read
use Rattle.sled_lines.specs.declared.lines.ReadError.{ReadError}
use Rattle.sled_lines.specs.declared.lines.ReadError.TheVariants.{Read, Memory}

-- a byte put in front of the first line, or a line of it if there is none
abbrev pub onto_first : ℕ → List Bytes → List Bytes
onto_first byte [] = (byte ∷ []) ∷ []
onto_first byte (line ∷ lines) = (byte ∷ line) ∷ lines

-- A line ends at a newline, which isn't part of it, or at the end of the input if there are bytes before that.
abbrev pub lines_of : Bytes → List Bytes
lines_of [] = []
lines_of (byte ∷ bytes) = if byte == 10 then [] ∷ lines_of bytes else onto_first byte (lines_of bytes)

-- What reading a line of the input found, which bytes it kept, and what it left: the end of the input, a line, or a line that is too long to keep.
abbrev pub FindsLine : Bytes → Line → Bytes → Bytes → Type 0
FindsLine input read.End kept rest = (input ≡ []) × (rest ≡ [])
FindsLine input (read.Whole is_followed) kept rest = (length kept ≤ longest_line) × (lines_of input ≡ kept ∷ lines_of rest)
FindsLine input read.TooLong kept rest = (line : Bytes) × (longest_line < length line) × (lines_of input ≡ line ∷ lines_of rest)

-- the same, if the bytes of the reader are known
abbrev pub ReadsLine : {E : Type 0} → Option Bytes → Option Bytes → Result Line E → Bytes → Type 0
ReadsLine None new result kept = ⊤
ReadsLine (Some input) (Some rest) (Ok line) kept = FindsLine input line kept rest
ReadsLine (Some input) None (Ok line) kept = ⊥
ReadsLine (Some input) new (Err e) kept = ⊤

-- Why a line was not read. An allocation failed, and more bytes of the line are left after those that were kept. Or the input could not be read past
-- the bytes that were kept, or in a line that is too long.
abbrev pub IsUnreadLine : ReadError → Option Bytes → Option Bytes → Bytes → Type 0
IsUnreadLine Memory old new kept = Consumes old new kept × IfSome old (λ input. input ≢ kept)
IsUnreadLine Read old new kept = Consumes old new kept ⊎ (longest_line < length kept)
