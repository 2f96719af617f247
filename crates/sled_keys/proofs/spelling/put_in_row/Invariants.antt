-- The bytes so far stand as they are spelled behind what was there.
use Rattle.std.proofs.Common.{◌≡◌, ◌++◌, flat_map, take}
use Rattle.sled_keys.specs.Words.{spelled_byte}
use Rattle.sled_keys.proofs.spelling.put_in_row.Given as goal

abbrev pub invariant-loop-byte : goal.invariant-loop-byte
invariant-loop-byte l = l.piece ≡ l.initial.piece ++ flat_map spelled_byte (take l.byte-index l.bytes)
