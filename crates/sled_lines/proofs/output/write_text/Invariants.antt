-- What is no longer left was written.
use Rattle.std.proofs.Common.{◌≡◌, ◌++◌}
use Rattle.std.specs.Io.KnownBytes.{Appends}
use Rattle.sled_base.specs.Order.{Bytes}
use Rattle.sled_lines.proofs.output.write_text.Given as goal

abbrev pub invariant-loop : goal.invariant-loop
invariant-loop g l = (done : Bytes) × (l.initial.left ≡ done ++ l.left) × Appends (g.W.Write.contents l.initial.writer) (g.W.Write.contents l.writer) done
