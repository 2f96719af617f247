-- The room that is made is enough for two numbers.
use Rattle.std.proofs.Common.{[], ◌∷◌, ◌++◌, length, length-append, ap, codes, refl, arith}
use Rattle.std.specs.Fmt.{decimal}
use Rattle.sled_lines.proofs.Gathered.{gathered_put, gathers_stops, put_on}
use Rattle.sled_lines.proofs.Pieces.{length-number}
use Rattle.sled_script.proofs.reply.gather_page.Goals as goal

pub returns-in_err-make_room : goal.returns-in_err-make_room
returns-in_err-make_room g c =
    let contents = g.W.Write.contents in
    let text = codes "page " ++ decimal c.args.pid ++ codes " " ++ decimal c.args.stamp ++ 10 ∷ [] in
    gathers_stops (contents c.args.writer.now) (contents c.make_room.new.writer) c.args.piece.now c.make_room.new.piece c.from_residual.result [] text text c.from_residual.ensures.0 c.in_err-make_room.ensures.gathers refl

pub push-requires : goal.push-requires
push-requires g c =
    let label = codes "page " in
    omega (arith, c.in_ok-make_room.ensures.room, ap length c.put_labelled.ensures, length-append c.make_room.new.piece (label ++ decimal c.args.pid), length-append label (decimal c.args.pid), length-number c.args.pid c.ranges.pid.fits)

pub put_number-requires : goal.put_number-requires
put_number-requires g c =
    let label = codes "page " in
    omega (arith, c.in_ok-make_room.ensures.room, ap length c.put_labelled.ensures, length-append c.make_room.new.piece (label ++ decimal c.args.pid), length-append label (decimal c.args.pid), length-number c.args.pid c.ranges.pid.fits, ap length c.push.ensures, length-append c.put_labelled.new.piece (32 ∷ []), length-number c.args.stamp c.ranges.stamp.fits)

pub push-requires-2 : goal.push-requires-2
push-requires-2 g c =
    let label = codes "page " in
    omega (arith, c.in_ok-make_room.ensures.room, ap length c.put_labelled.ensures, length-append c.make_room.new.piece (label ++ decimal c.args.pid), length-append label (decimal c.args.pid), length-number c.args.pid c.ranges.pid.fits, ap length c.push.ensures, length-append c.put_labelled.new.piece (32 ∷ []), length-number c.args.stamp c.ranges.stamp.fits, ap length c.put_number.ensures, length-append c.push.new.self (decimal c.args.stamp))

pub returns : goal.returns
returns g c =
    let contents = g.W.Write.contents in
    let room = c.make_room.new.piece in
    let page = codes "page " ++ decimal c.args.pid in
    let spaced = put_on room page c.put_labelled.new.piece (codes " ") c.push.new.self c.put_labelled.ensures c.push.ensures in
    let stamped = put_on room (page ++ codes " ") c.push.new.self (decimal c.args.stamp) c.put_number.new.self spaced c.put_number.ensures in
    let line = put_on room (page ++ codes " " ++ decimal c.args.stamp) c.put_number.new.self (10 ∷ []) c.push-2.new.self stamped c.push-2.ensures in
    gathered_put (contents c.args.writer.now) (contents c.make_room.new.writer) c.args.piece.now room c.push-2.new.self [] (page ++ codes " " ++ decimal c.args.stamp ++ 10 ∷ []) c.in_ok-make_room.ensures.gathers line
