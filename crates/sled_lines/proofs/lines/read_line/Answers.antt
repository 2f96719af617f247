-- What ends the line says what was found.
use Rattle.std.proofs.Common.{◌<◌, length, arith}
use Rattle.std.proofs.lemmas.Bool.Decides.{nat_tests}
use Rattle.sled_lines.proofs.LinesOf.{part_line, part_last, part_more, skipped}
use Rattle.sled_lines.proofs.lines.read_line.Goals as goal

pub returns-in-Line-clause-reads : goal.returns-in-Line-clause-reads
returns-in-Line-clause-reads g c =
    let takes = rw c.in-Line.is at c.in_ok-is_followed.ensures.takes in
    let fits = rw c.in-Line.is at c.in_ok-is_followed.ensures.fits in
    part_line _ _ _ c.loop.kept.items c.take_part.new.kept.items c.loop.invariant.clean c.loop.invariant.taken c.in-Line.is_followed takes fits

pub returns-in-Input-2-clause-reads : goal.returns-in-Input-2-clause-reads
returns-in-Input-2-clause-reads g c =
    let takes = rw c.in-Input-2.is at c.in_ok-is_followed.ensures.takes in
    let fits = rw c.in-Input-2.is at c.in_ok-is_followed.ensures.fits in
    let some : 0 < length c.take_part.new.kept.items = grind (arith, nat_tests) in
    part_last _ _ _ c.loop.kept.items c.take_part.new.kept.items c.loop.invariant.clean c.loop.invariant.taken _ takes some fits

pub returns-then-len-gt-MAX_LINE-clause-reads : goal.returns-then-len-gt-MAX_LINE-clause-reads
returns-then-len-gt-MAX_LINE-clause-reads g c =
    let takes = rw c.in-Part.is at c.in_ok-is_followed.ensures.takes in
    let more = part_more _ _ _ c.loop.kept.items c.take_part.new.kept.items c.loop.invariant.clean c.loop.invariant.taken takes in
    skipped _ _ _ c.take_part.new.kept.items c.skip_line.result more.0 (omega (arith, c.if-len-gt-MAX_LINE.true)) more.1 c.skip_line.ensures.ok
