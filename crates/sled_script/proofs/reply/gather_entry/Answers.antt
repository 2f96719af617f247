-- Nothing of the entry is there yet.
use Rattle.std.proofs.Common.{[], ◌++◌, refl}
use Rattle.sled_node.specs.Parts.{item_of}
use Rattle.sled_lines.proofs.Gathered.{gathers_stops}
use Rattle.sled_script.specs.Replies.{entry_text}
use Rattle.sled_script.proofs.reply.gather_entry.Goals as goal

pub returns-in_err-make_room-in-Value : goal.returns-in_err-make_room-in-Value
returns-in_err-make_room-in-Value g c =
    let contents = g.W.Write.contents in
    let text = entry_text (c.args.front.now ++ c.args.rest.now, item_of c.args.item) in
    gathers_stops (contents c.args.writer.now) (contents c.make_room.new.writer) c.args.piece.now c.make_room.new.piece c.from_residual.result [] text text c.from_residual.ensures.0 c.in_err-make_room-in-Value.ensures.gathers refl
