-- Nothing of the text is there yet.
use Rattle.std.proofs.Common.{[], refl}
use Rattle.sled_lines.proofs.Gathered.{gathers_stops}
use Rattle.sled_lines.proofs.output.gather_text.Goals as goal

pub returns-in_err-make_room : goal.returns-in_err-make_room
returns-in_err-make_room g c =
    let contents = g.W.Write.contents in
    gathers_stops (contents c.args.writer.now) (contents c.make_room.new.writer) c.args.piece.now c.make_room.new.piece c.from_residual.result [] c.args.text.now c.args.text.now c.from_residual.ensures.0 c.in_err-make_room.ensures.gathers refl
