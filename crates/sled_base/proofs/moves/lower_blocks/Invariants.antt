use Rattle.std.proofs.Common.{◌≡◌, ◌-◌, ◌≤◌}
use Rattle.sled_base.proofs.BlockMoves.{lowered}
use Rattle.sled_base.proofs.moves.lower_blocks.Given as goal

abbrev pub invariant-loop-at : goal.invariant-loop-at
invariant-loop-at g l = (l.start ≤ l.at) × (l.at ≤ l.end) × (l.bytes ≡ lowered l.initial.bytes l.less l.start l.at)

abbrev pub decreases-loop-at : goal.decreases-loop-at
decreases-loop-at g l = l.end - l.at
