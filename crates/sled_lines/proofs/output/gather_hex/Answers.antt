-- Each turn gathers the digits of some bytes.
use Rattle.std.proofs.Common.{arith}
use Rattle.sled_lines.specs.Words.{hex}
use Rattle.sled_lines.proofs.Gathered.{part_put, part_stops}
use Rattle.sled_lines.proofs.Hex.{length-hex}
use Rattle.sled_lines.proofs.Written.{hex_append}
use Rattle.sled_lines.proofs.output.gather_hex.Goals as goal

pub put_hex-requires : goal.put_hex-requires
put_hex-requires g c = omega (arith, c.in_ok-make_room.ensures.room, length-hex c.split_at.result.0.now)

pub returns-in_err-make_room : goal.returns-in_err-make_room
returns-in_err-make_room g c =
    let contents = g.W.Write.contents in
    part_stops hex hex_append c.args.bytes.now c.loop-left.left.now (contents c.args.writer.now) (contents c.loop-left.writer) (contents c.make_room.new.writer) c.args.piece.now c.loop-left.piece c.make_room.new.piece c.from_residual.result c.loop-left.invariant c.from_residual.ensures.0 c.in_err-make_room.ensures.gathers

pub loop-left-preserved : goal.loop-left-preserved
loop-left-preserved g c =
    let contents = g.W.Write.contents in
    part_put hex hex_append c.args.bytes.now c.loop-left.left.now c.split_at.result.0.now c.split_at.result.1.now c.min.result (contents c.args.writer.now) (contents c.loop-left.writer) (contents c.make_room.new.writer) c.args.piece.now c.loop-left.piece c.make_room.new.piece c.put_hex.new.self c.loop-left.invariant c.split_at.ensures.front c.split_at.ensures.back c.in_ok-make_room.ensures.gathers c.put_hex.ensures
