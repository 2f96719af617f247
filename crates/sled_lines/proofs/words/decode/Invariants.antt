-- The bytes so far are encoded by the front of the word.
use Rattle.std.proofs.Common.{◌≡◌, ◌*◌, length, take}
use Rattle.sled_lines.specs.Words.{AreBytes, hex}
use Rattle.sled_lines.proofs.words.decode.Given as goal

abbrev pub invariant-loop-index : goal.invariant-loop-index
invariant-loop-index l = record { count : length l.bytes ≡ length l.initial.bytes; bytes : AreBytes (take l.index l.bytes); encoded : take (2 * l.index) l.word ≡ hex (take l.index l.bytes) }
