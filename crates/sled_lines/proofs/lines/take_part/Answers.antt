-- What is buffered up to a newline, or all of it, belongs to the line.
use Rattle.std.proofs.Common.{◌≡◌, ◌≤◌, ◌+◌, ◌∷◌, ◌++◌, length, length-append, length-take-le, ap, subst, arith}
use Rattle.std.specs.Io.BufRead.{FillKeeps}
use Rattle.sled_lines.proofs.Taken.{line_part}
use Rattle.sled_lines.proofs.lines.take_part.Goals as goal

pub returns-in-Some-clause-takes : goal.returns-in-Some-clause-takes
returns-in-Some-clause-takes g c =
    let rested = c.fill_buf.follows.lender-at-none in
    let filled = subst (FillKeeps _ (g.R.Read.remaining rested) (g.R.BufRead.consumable_len rested)) c.in-Ok.is c.fill_buf.follows.holds-at-none in
    let cut = rw c.in-Some.is at c.cut_at.ensures in
    let part = c.cut_at.result.0.now in
    let within : c.min.result ≤ length c.in-Ok.buffered.now = grind arith in
    let grown : c.extend_from_slice.new.self.items ≡ c.args.kept.now.items ++ part = grind arith in
    line_part _ (g.R.Read.remaining rested) (g.R.Read.remaining c.consume.new.self) (g.R.BufRead.consumable_len rested) c.in-Ok.buffered.now c.args.kept.now.items c.extend_from_slice.new.self.items part c.min.result within grown cut.0
    c.in-Ok.ensures.front c.in-Ok.ensures.end filled.0 filled.1 c.pass-is_followed.result c.in-Some.field-0.now cut.1 c.consume.ensures.bytes

pub returns-in-Some-clause-fits : goal.returns-in-Some-clause-fits
returns-in-Some-clause-fits g c =
    let cut = rw c.in-Some.is at c.cut_at.ensures in
    let part = c.cut_at.result.0.now in
    let grown : c.extend_from_slice.new.self.items ≡ c.args.kept.now.items ++ part = grind arith in
    let within : c.min.result ≤ length c.in-Ok.buffered.now = grind arith in
    let room : length c.args.kept.now.items + c.min.result ≤ 65537 = grind arith in
    omega (arith, room, ap length grown, length-append c.args.kept.now.items part, ap length cut.1, length-append part (10 ∷ c.in-Some.field-0.now), length-take-le c.min.result c.in-Ok.buffered.now within)
