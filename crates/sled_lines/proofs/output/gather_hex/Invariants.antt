-- What is no longer left was gathered in hexadecimal.
use Rattle.std.proofs.Common.{◌≡◌, ◌++◌, length}
use Rattle.sled_base.specs.Order.{Bytes}
use Rattle.sled_lines.specs.Output.{Gathered}
use Rattle.sled_lines.specs.Words.{hex}
use Rattle.sled_lines.proofs.output.gather_hex.Given as goal

abbrev pub invariant-loop-left : goal.invariant-loop-left
invariant-loop-left g l = (done : Bytes) × (l.initial.bytes ≡ done ++ l.left) × Gathered (g.W.Write.contents l.initial.writer) (g.W.Write.contents l.writer) l.initial.piece l.piece (hex done)

abbrev pub decreases-loop-left : goal.decreases-loop-left
decreases-loop-left g l = length l.left
