-- The pairs so far and those that are left are the pairs.
use Rattle.std.proofs.Common.{◌++◌, List, length}
use Rattle.sled_base.specs.Order.{Bytes}
use Rattle.sled_handle.specs.Pairs.{EncodePairs}
use Rattle.sled_handle.proofs.pairs.read.pairs_in.Given as goal

abbrev pub invariant-loop-left : goal.invariant-loop-left
invariant-loop-left l = record {
  some : (others : List (Bytes × Bytes)) → EncodePairs l.left others → EncodePairs l.bytes (l.pairs.items ++ others);
  none : (pairs : List (Bytes × Bytes)) → EncodePairs l.bytes pairs → (others : List (Bytes × Bytes)) × EncodePairs l.left others;
}

abbrev pub decreases-loop-left : goal.decreases-loop-left
decreases-loop-left l = length l.left
