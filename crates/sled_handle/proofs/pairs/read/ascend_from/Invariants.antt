-- If the pairs are above the first key, those that are left are above the last.
use Rattle.std.proofs.Common.{List, length}
use Rattle.sled_base.specs.Order.{Bytes}
use Rattle.sled_handle.specs.Pairs.{AreAbove, EncodePairs}
use Rattle.sled_handle.proofs.pairs.read.ascend_from.Given as goal

abbrev pub invariant-loop-last : goal.invariant-loop-last
invariant-loop-last l = (pairs : List (Bytes × Bytes)) → EncodePairs l.bytes pairs → AreAbove l.first pairs → (others : List (Bytes × Bytes)) × EncodePairs l.left others × AreAbove l.last others

abbrev pub decreases-loop-last : goal.decreases-loop-last
decreases-loop-last l = length l.left
