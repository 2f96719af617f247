-- The bytes so far were taken, none is a newline, and they are few.
use Rattle.std.proofs.Common.{◌≤◌, length}
use Rattle.std.specs.Io.KnownBytes.{Consumes}
use Rattle.sled_lines.specs.Cut.{HasNo}
use Rattle.sled_lines.specs.Settings.{longest_line}
use Rattle.sled_lines.proofs.lines.read_line.Given as goal

abbrev pub invariant-loop : goal.invariant-loop
invariant-loop g l = record { clean : HasNo 10 l.kept.items; taken : Consumes (g.R.Read.remaining l.initial.reader) (g.R.Read.remaining l.reader) l.kept.items; few : length l.kept.items ≤ longest_line }
