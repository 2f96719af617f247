-- What is no longer left was gathered.
use Rattle.std.proofs.Common.{◌≡◌, ◌++◌, flat_map, length}
use Rattle.sled_base.specs.Order.{Bytes}
use Rattle.sled_lines.specs.Output.{Gathered}
use Rattle.sled_keys.specs.Words.{spelled_byte}
use Rattle.sled_keys.proofs.spelling.gather_in_row.Given as goal

abbrev pub invariant-loop-left : goal.invariant-loop-left
invariant-loop-left g l = (done : Bytes) × (l.initial.bytes ≡ done ++ l.left) × Gathered (g.W.Write.contents l.initial.writer) (g.W.Write.contents l.writer) l.initial.piece l.piece (flat_map spelled_byte done)

abbrev pub decreases-loop-left : goal.decreases-loop-left
decreases-loop-left g l = length l.left
