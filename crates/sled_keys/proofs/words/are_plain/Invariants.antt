-- The bytes so far are spelled as they are, if all were plain.
use Rattle.std.proofs.Common.{◌≡◌, true, flat_map, take}
use Rattle.sled_keys.specs.Words.{spelled_byte}
use Rattle.sled_keys.proofs.words.are_plain.Given as goal

abbrev pub invariant-loop-byte : goal.invariant-loop-byte
invariant-loop-byte l = l.all ≡ true → flat_map spelled_byte (take l.byte-index l.bytes) ≡ take l.byte-index l.bytes
