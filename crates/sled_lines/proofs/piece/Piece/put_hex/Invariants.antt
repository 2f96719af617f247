-- The bytes so far stand in hexadecimal behind what was there.
use Rattle.std.proofs.Common.{◌≡◌, ◌++◌, take}
use Rattle.sled_lines.specs.Words.{hex}
use Rattle.sled_lines.proofs.piece.Piece.put_hex.Given as goal

abbrev pub invariant-loop-byte : goal.invariant-loop-byte
invariant-loop-byte l = l.self ≡ l.initial.self ++ hex (take l.byte-index l.bytes)
