-- The room that is made is enough for two numbers.
use Rattle.std.proofs.Common.{[], ◌∷◌, ◌++◌, length, length-append, ap, codes, refl, arith}
use Rattle.std.specs.Fmt.{decimal}
use Rattle.sled_lines.proofs.Gathered.{gathered_put, gathers_stops, put_on}
use Rattle.sled_lines.proofs.Pieces.{length-number, length-wide}
use Rattle.sled_script.proofs.reply.gather_sizes.Goals as goal

pub returns-in_err-make_room : goal.returns-in_err-make_room
returns-in_err-make_room g c =
    let contents = g.W.Write.contents in
    let text = codes "amp " ++ decimal c.args.bytes ++ codes " " ++ decimal c.args.pages ++ 10 ∷ [] in
    gathers_stops (contents c.args.writer.now) (contents c.make_room.new.writer) c.args.piece.now c.make_room.new.piece c.from_residual.result [] text text c.from_residual.ensures.0 c.in_err-make_room.ensures.gathers refl

pub push-requires : goal.push-requires
push-requires g c =
    let label = codes "amp " in
    omega (arith, c.in_ok-make_room.ensures.room, ap length c.put_labelled.ensures, length-append c.make_room.new.piece (label ++ decimal c.args.bytes), length-append label (decimal c.args.bytes), length-number c.args.bytes c.ranges.bytes.fits)

pub put_wide_number-requires : goal.put_wide_number-requires
put_wide_number-requires g c =
    let label = codes "amp " in
    omega (arith, c.in_ok-make_room.ensures.room, ap length c.put_labelled.ensures, length-append c.make_room.new.piece (label ++ decimal c.args.bytes), length-append label (decimal c.args.bytes), length-number c.args.bytes c.ranges.bytes.fits, ap length c.push.ensures, length-append c.put_labelled.new.piece (32 ∷ []), length-wide c.args.pages c.ranges.pages.fits)

pub push-requires-2 : goal.push-requires-2
push-requires-2 g c =
    let label = codes "amp " in
    omega (arith, c.in_ok-make_room.ensures.room, ap length c.put_labelled.ensures, length-append c.make_room.new.piece (label ++ decimal c.args.bytes), length-append label (decimal c.args.bytes), length-number c.args.bytes c.ranges.bytes.fits, ap length c.push.ensures, length-append c.put_labelled.new.piece (32 ∷ []), length-wide c.args.pages c.ranges.pages.fits, ap length c.put_wide_number.ensures, length-append c.push.new.self (decimal c.args.pages))

pub returns : goal.returns
returns g c =
    let contents = g.W.Write.contents in
    let room = c.make_room.new.piece in
    let sizes = codes "amp " ++ decimal c.args.bytes in
    let spaced = put_on room sizes c.put_labelled.new.piece (codes " ") c.push.new.self c.put_labelled.ensures c.push.ensures in
    let stamped = put_on room (sizes ++ codes " ") c.push.new.self (decimal c.args.pages) c.put_wide_number.new.self spaced c.put_wide_number.ensures in
    let line = put_on room (sizes ++ codes " " ++ decimal c.args.pages) c.put_wide_number.new.self (10 ∷ []) c.push-2.new.self stamped c.push-2.ensures in
    gathered_put (contents c.args.writer.now) (contents c.make_room.new.writer) c.args.piece.now room c.push-2.new.self [] (sizes ++ codes " " ++ decimal c.args.pages ++ 10 ∷ []) c.in_ok-make_room.ensures.gathers line
