-- The head, the entries and the newline are gathered one behind the other.
use Rattle.std.proofs.Common.{◌∷◌, ◌++◌, [], ap, sym, ◌∙◌, append_assoc, codes, refl, if◌then◌else◌}
use Rattle.std.specs.Fmt.{decimal}
use Rattle.std.specs.List.{flat_map}
use Rattle.sled_lines.proofs.Gathered.{gathered_more, gathered_put, gathers_more, gathers_stops}
use Rattle.sled_script.specs.Replies.{entry_text, node_text}
use Rattle.sled_script.proofs.reply.gather_node.Goals as goal

pub returns-in_err-make_room : goal.returns-in_err-make_room
returns-in_err-make_room g c =
    let contents = g.W.Write.contents in
    let text = node_text c.args.stamp c.args.node.now ++ 10 ∷ [] in
    gathers_stops (contents c.args.writer.now) (contents c.make_room.new.writer) c.args.piece.now c.make_room.new.piece c.from_residual.result [] text text c.from_residual.ensures.0 c.in_err-make_room.ensures.gathers refl

pub returns-in_err-gather_entries : goal.returns-in_err-gather_entries
returns-in_err-gather_entries g c =
    let contents = g.W.Write.contents in
    let pairs = flat_map entry_text c.args.node.now.pairs in
    let head = (if c.is_index.result then codes "index " else codes "leaf ") ++ decimal c.args.stamp in
    let put = gathered_put (contents c.args.writer.now) (contents c.make_room.new.writer) c.args.piece.now c.make_room.new.piece c.put_head.new.piece [] head c.in_ok-make_room.ensures.gathers c.put_head.ensures in
    gathers_more (contents c.args.writer.now) (contents c.make_room.new.writer) (contents c.gather_entries.new.writer) c.args.piece.now c.put_head.new.piece c.gather_entries.new.piece c.from_residual-in_err-gather_entries.result head (pairs ++ 10 ∷ []) (node_text c.args.stamp c.args.node.now ++ 10 ∷ []) put
    (gathers_stops (contents c.make_room.new.writer) (contents c.gather_entries.new.writer) c.put_head.new.piece c.gather_entries.new.piece c.from_residual-in_err-gather_entries.result pairs (10 ∷ []) (pairs ++ 10 ∷ []) c.from_residual-in_err-gather_entries.ensures.0 c.in_err-gather_entries.ensures refl)
    (ap (λ label. label ++ decimal c.args.stamp ++ pairs ++ 10 ∷ []) (ap (λ is_index. if is_index then codes "index " else codes "leaf ") (sym c.is_index.ensures)) ∙ append_assoc head pairs (10 ∷ []))

pub returns : goal.returns
returns g c =
    let contents = g.W.Write.contents in
    let pairs = flat_map entry_text c.args.node.now.pairs in
    let head = (if c.is_index.result then codes "index " else codes "leaf ") ++ decimal c.args.stamp in
    let put = gathered_put (contents c.args.writer.now) (contents c.make_room.new.writer) c.args.piece.now c.make_room.new.piece c.put_head.new.piece [] head c.in_ok-make_room.ensures.gathers c.put_head.ensures in
    let entries = gathered_more (contents c.args.writer.now) (contents c.make_room.new.writer) (contents c.gather_entries.new.writer) c.args.piece.now c.put_head.new.piece c.gather_entries.new.piece head pairs put c.in_ok-gather_entries.ensures in
    gathers_more (contents c.args.writer.now) (contents c.gather_entries.new.writer) (contents c.gather_text.new.writer) c.args.piece.now c.gather_entries.new.piece c.gather_text.new.piece c.gather_text.result (head ++ pairs) (10 ∷ []) (node_text c.args.stamp c.args.node.now ++ 10 ∷ []) entries c.gather_text.ensures
    (ap (λ label. label ++ decimal c.args.stamp ++ pairs ++ 10 ∷ []) (ap (λ is_index. if is_index then codes "index " else codes "leaf ") (sym c.is_index.ensures)))
