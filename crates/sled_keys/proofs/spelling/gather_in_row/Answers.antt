-- Each turn gathers some bytes.
use Rattle.sled_lines.proofs.Gathered.{part_put, part_stops}
use Rattle.sled_keys.proofs.Spelled.{row, row-append}
use Rattle.sled_keys.proofs.spelling.gather_in_row.Goals as goal

pub returns-in_err-make_room : goal.returns-in_err-make_room
returns-in_err-make_room g c =
    let contents = g.W.Write.contents in
    part_stops row row-append c.args.bytes.now c.loop-left.left.now (contents c.args.writer.now) (contents c.loop-left.writer) (contents c.make_room.new.writer) c.args.piece.now c.loop-left.piece c.make_room.new.piece c.from_residual.result c.loop-left.invariant c.from_residual.ensures.0 c.in_err-make_room.ensures.gathers

pub loop-left-preserved : goal.loop-left-preserved
loop-left-preserved g c =
    let contents = g.W.Write.contents in
    part_put row row-append c.args.bytes.now c.loop-left.left.now c.split_at.result.0.now c.split_at.result.1.now c.min.result (contents c.args.writer.now) (contents c.loop-left.writer) (contents c.make_room.new.writer) c.args.piece.now c.loop-left.piece c.make_room.new.piece c.put_in_row.new.piece c.loop-left.invariant c.split_at.ensures.front c.split_at.ensures.back c.in_ok-make_room.ensures.gathers c.put_in_row.ensures
