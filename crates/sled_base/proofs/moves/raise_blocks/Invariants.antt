use Rattle.std.proofs.Common.{◌≡◌, ◌≤◌}
use Rattle.sled_base.proofs.BlockMoves.{raised}
use Rattle.sled_base.proofs.moves.raise_blocks.Given as goal

abbrev pub invariant-loop-at : goal.invariant-loop-at
invariant-loop-at g l = (l.at ≤ l.end) × (l.bytes ≡ raised l.initial.bytes l.more l.at l.end)

abbrev pub decreases-loop-at : goal.decreases-loop-at
decreases-loop-at g l = l.at
