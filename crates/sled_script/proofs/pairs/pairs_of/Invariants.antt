-- The pairs so far and what is left are the words.
use Rattle.std.proofs.Common.{◌+◌, ◌++◌, List, length}
use Rattle.std.specs.Option.{option_map, option_map_or}
use Rattle.sled_base.specs.Order.{Bytes}
use Rattle.sled_script.specs.Pairs.{ArePairs, EncodePairs}
use Rattle.sled_script.proofs.pairs.pairs_of.Given as goal

abbrev pub invariant-loop-left : goal.invariant-loop-left
invariant-loop-left l = record {
  some : (others : List (Bytes × Bytes)) → EncodePairs (option_map (λ rest. rest.now) l.left) others → EncodePairs (option_map (λ rest. rest.now) l.words) (l.pairs.items ++ others);
  bytes : ArePairs l.pairs.items;
  none : (pairs : List (Bytes × Bytes)) → ArePairs pairs → EncodePairs (option_map (λ rest. rest.now) l.words) pairs
      → (others : List (Bytes × Bytes)) × ArePairs others × EncodePairs (option_map (λ rest. rest.now) l.left) others;
}

abbrev pub decreases-loop-left : goal.decreases-loop-left
decreases-loop-left l = option_map_or (λ rest. length rest.now + 1) l.left 0
