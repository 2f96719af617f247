use Rattle.std.proofs.Common.{[], ◌∷◌, ◌++◌, append-nil, sym}
use Rattle.sled_lines.proofs.Gathered.{gathers_more}
use Rattle.sled_script.specs.Replies.{reply_of_mark}
use Rattle.sled_script.proofs.batch.reply_mark.Goals as goal

pub returns : goal.returns
returns g c =
    let contents = g.W.Write.contents in
    gathers_more (contents c.args.writer.now) (contents c.gather_mark.new.writer) (contents c.flush_unless.new.writer) c.args.piece.now c.gather_mark.new.piece c.flush_unless.new.piece c.flush_unless.result (reply_of_mark c.args.answer.now ++ 10 ∷ []) [] (reply_of_mark c.args.answer.now ++ 10 ∷ []) c.in_ok-gather_mark.ensures c.flush_unless.ensures (sym (append-nil (reply_of_mark c.args.answer.now ++ 10 ∷ [])))
