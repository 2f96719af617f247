-- What is no longer left is spelled by the bytes so far.
use Rattle.std.proofs.Common.{◌≡◌, ◌++◌, flat_map, length}
use Rattle.sled_keys.specs.Words.{spelled_byte}
use Rattle.sled_keys.proofs.words.decode.Given as goal

abbrev pub invariant-loop-left : goal.invariant-loop-left
invariant-loop-left l = l.word ≡ flat_map spelled_byte l.room.items ++ l.left

abbrev pub decreases-loop-left : goal.decreases-loop-left
decreases-loop-left l = length l.left
