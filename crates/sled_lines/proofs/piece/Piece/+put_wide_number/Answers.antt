-- The last digit comes behind the others, of which there are some.
use Rattle.std.proofs.Common.{◌≤◌, ◌<◌, ◌^◌, arith}
use Rattle.sled_lines.proofs.Pieces.{tens_fit, tens_room, tens_next}
use Rattle.sled_lines.proofs.piece.Piece.+put_wide_number.Goals as goal

pub put_wide_number-requires : goal.put_wide_number-requires
put_wide_number-requires t c =
    let large : 10 ≤ c.args.number = omega (arith, c.if-number.false) in
    let small : c.args.number < 10 ^ 64 = omega (arith, c.ranges.number.fits) in
    (omega (arith, large), tens_fit c.args.self.now c.args.number 8192 large small c.requires)

pub push-requires : goal.push-requires
push-requires t c =
    let large : 10 ≤ c.args.number = omega (arith, c.if-number.false) in
    let small : c.args.number < 10 ^ 64 = omega (arith, c.ranges.number.fits) in
    tens_room c.put_wide_number.new.self c.args.self.now c.args.number 8192 large small c.put_wide_number.ensures c.requires

pub returns : goal.returns
returns t c =
    let large : 10 ≤ c.args.number = omega (arith, c.if-number.false) in
    let small : c.args.number < 10 ^ 64 = omega (arith, c.ranges.number.fits) in
    tens_next c.put_wide_number.new.self c.push.new.self c.args.self.now c.args.number large small c.put_wide_number.ensures c.push.ensures
