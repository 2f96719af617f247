-- A number has at most twenty digits.
use Rattle.std.proofs.Common.{[], refl, arith}
use Rattle.std.specs.Fmt.{decimal}
use Rattle.sled_lines.proofs.Gathered.{gathers_stops}
use Rattle.sled_lines.proofs.Pieces.{length-number}
use Rattle.sled_lines.proofs.output.gather_number.Goals as goal

pub returns-in_err-make_room : goal.returns-in_err-make_room
returns-in_err-make_room g c =
    let contents = g.W.Write.contents in
    gathers_stops (contents c.args.writer.now) (contents c.make_room.new.writer) c.args.piece.now c.make_room.new.piece c.from_residual.result [] (decimal c.args.number) (decimal c.args.number) c.from_residual.ensures.0 c.in_err-make_room.ensures.gathers refl

pub put_number-requires : goal.put_number-requires
put_number-requires g c = omega (arith, c.in_ok-make_room.ensures.room, length-number c.args.number c.ranges.number.fits)
