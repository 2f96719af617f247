-- A space, the key, an equals sign and the item are gathered one behind the other.
use Rattle.std.proofs.Common.{◌++◌}
use Rattle.sled_node.specs.Parts.{item_of}
use Rattle.sled_lines.specs.Words.{bytes_word}
use Rattle.sled_script.specs.Replies.{item_word}
use Rattle.sled_script.proofs.Entries.{stops_at_space, stops_at_key, stops_at_sign, ends_with_item}
use Rattle.sled_script.proofs.reply.gather_entry_in_parts.Goals as goal

pub returns-in_err-gather_text : goal.returns-in_err-gather_text
returns-in_err-gather_text g c =
    let contents = g.W.Write.contents in
    stops_at_space (contents c.args.writer.now) (contents c.gather_text.new.writer) (contents c.gather_text.new.writer) (contents c.gather_text.new.writer) (contents c.gather_text.new.writer) c.args.piece.now c.gather_text.new.piece c.gather_text.new.piece c.gather_text.new.piece c.gather_text.new.piece c.from_residual.result (bytes_word (c.args.front.now ++ c.args.rest.now)) (item_word (item_of c.args.item)) c.from_residual.ensures.0 c.in_err-gather_text.ensures

pub returns-in_err-gather_key : goal.returns-in_err-gather_key
returns-in_err-gather_key g c =
    let contents = g.W.Write.contents in
    stops_at_key (contents c.args.writer.now) (contents c.gather_text.new.writer) (contents c.gather_key.new.writer) (contents c.gather_key.new.writer) (contents c.gather_key.new.writer) c.args.piece.now c.gather_text.new.piece c.gather_key.new.piece c.gather_key.new.piece c.gather_key.new.piece c.from_residual-in_err-gather_key.result (bytes_word (c.args.front.now ++ c.args.rest.now)) (item_word (item_of c.args.item)) c.in_ok-gather_text.ensures c.from_residual-in_err-gather_key.ensures.0 c.in_err-gather_key.ensures

pub returns-in_err-gather_text-2 : goal.returns-in_err-gather_text-2
returns-in_err-gather_text-2 g c =
    let contents = g.W.Write.contents in
    stops_at_sign (contents c.args.writer.now) (contents c.gather_text.new.writer) (contents c.gather_key.new.writer) (contents c.gather_text-2.new.writer) (contents c.gather_text-2.new.writer) c.args.piece.now c.gather_text.new.piece c.gather_key.new.piece c.gather_text-2.new.piece c.gather_text-2.new.piece c.from_residual-in_err-gather_text-2.result (bytes_word (c.args.front.now ++ c.args.rest.now)) (item_word (item_of c.args.item)) c.in_ok-gather_text.ensures c.in_ok-gather_key.ensures c.from_residual-in_err-gather_text-2.ensures.0 c.in_err-gather_text-2.ensures

pub returns : goal.returns
returns g c =
    let contents = g.W.Write.contents in
    ends_with_item (contents c.args.writer.now) (contents c.gather_text.new.writer) (contents c.gather_key.new.writer) (contents c.gather_text-2.new.writer) (contents c.gather_item.new.writer) c.args.piece.now c.gather_text.new.piece c.gather_key.new.piece c.gather_text-2.new.piece c.gather_item.new.piece c.gather_item.result (bytes_word (c.args.front.now ++ c.args.rest.now)) (item_word (item_of c.args.item)) c.in_ok-gather_text.ensures c.in_ok-gather_key.ensures c.in_ok-gather_text-2.ensures c.gather_item.ensures
