-- The room that is made is enough for a short label and a number.
use Rattle.std.proofs.Common.{[], ◌∷◌, ◌++◌, length, length-append, ap, refl, arith}
use Rattle.std.specs.Fmt.{decimal}
use Rattle.sled_lines.proofs.Gathered.{gathered_put, gathers_stops, put_on}
use Rattle.sled_lines.proofs.Pieces.{length-number}
use Rattle.sled_lines.proofs.replies.gather_labelled.Goals as goal

pub returns-in_err-make_room : goal.returns-in_err-make_room
returns-in_err-make_room g c =
    let contents = g.W.Write.contents in
    let text = c.args.label.now ++ decimal c.args.number ++ 10 ∷ [] in
    gathers_stops (contents c.args.writer.now) (contents c.make_room.new.writer) c.args.piece.now c.make_room.new.piece c.from_residual.result [] text text c.from_residual.ensures.0 c.in_err-make_room.ensures.gathers refl

pub push-requires : goal.push-requires
push-requires g c =
    let text = c.args.label.now ++ decimal c.args.number in
    omega (arith, c.in_ok-make_room.ensures.room, ap length c.put_labelled.ensures, length-append c.make_room.new.piece text, length-append c.args.label.now (decimal c.args.number), length-number c.args.number c.ranges.number.fits)

pub returns : goal.returns
returns g c =
    let contents = g.W.Write.contents in
    let text = c.args.label.now ++ decimal c.args.number in
    gathered_put (contents c.args.writer.now) (contents c.make_room.new.writer) c.args.piece.now c.make_room.new.piece c.push.new.self [] (text ++ 10 ∷ []) c.in_ok-make_room.ensures.gathers
    (put_on c.make_room.new.piece text c.put_labelled.new.piece (10 ∷ []) c.push.new.self c.put_labelled.ensures c.push.ensures)
