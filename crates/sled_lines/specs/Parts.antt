-- What consuming a part of a line says.
use Rattle.std.specs.Prelude.{◌≡◌, ◌≢◌, ◌+◌, ◌≤◌, [], ◌∷◌, ◌++◌, length, Option, Result, Ok, Err, IfSome}
use Rattle.std.specs.Io.KnownBytes.{Consumes, Keeps, IsAtEnd}
use Rattle.sled_base.specs.Order.{Bytes}
use Rattle.sled_lines.specs.Cut.{HasNo}
use Rattle.sled_lines.specs.Settings.{longest_line}
use Rattle.sled_lines.specs.declared.lines.Ended.{Ended}
use Rattle.sled_lines.specs.declared.lines.Ended.TheVariants.{Line, Input, Part}
use Rattle.sled_lines.specs.declared.lines.ReadError.{ReadError}
use Rattle.sled_lines.specs.declared.lines.ReadError.TheVariants.{Read, Memory}

-- The part was consumed, with the newline that ended it. Or nothing was, at the end of the input, if it could not be read, or if an allocation failed
-- for more of the line.
abbrev pub IsTaken : Option Bytes → Option Bytes → Bytes → Result Ended ReadError → Type 0
IsTaken old new part (Ok (Line is_followed)) = Consumes old new (part ++ 10 ∷ [])
IsTaken old new part (Ok Input) = (part ≡ []) × IsAtEnd old × Keeps old new
IsTaken old new part (Ok Part) = Consumes old new part
IsTaken old new part (Err Read) = (part ≡ []) × Keeps old new
IsTaken old new part (Err Memory) = (part ≡ []) × Keeps old new × IfSome old (λ rest. rest ≢ [])

-- what was kept grows by a part of the line, which was consumed
abbrev pub TakesPart : Option Bytes → Option Bytes → Bytes → Bytes → Result Ended ReadError → Type 0
TakesPart old new before kept result = (part : Bytes) × HasNo 10 part × (kept ≡ before ++ part) × IsTaken old new part result

-- a line that ended is kept whole, and one that continues has at most one byte more than a line may have
abbrev pub FitsLine : Bytes → Result Ended ReadError → Type 0
FitsLine kept (Ok (Line is_followed)) = length kept ≤ longest_line
FitsLine kept (Ok Input) = length kept ≤ longest_line
FitsLine kept (Ok Part) = length kept ≤ longest_line + 1
FitsLine kept (Err e) = length kept ≤ longest_line
