-- The line that opened the batch is answered first.
use Rattle.std.proofs.Common.{Ok}
use Rattle.std.proofs.lemmas.Result.{err_from_is_err_and}
use Rattle.sled_script.specs.declared.command.Mark.TheVariants as mark
use Rattle.sled_script.proofs.Answered.{until_then}
use Rattle.sled_script.proofs.Batches.{mark_done, mark_stops}
use Rattle.sled_script.proofs.batch.serve_inside.Goals as goal

pub returns-in_err-reply_mark-clause-serves : goal.returns-in_err-reply_mark-clause-serves
returns-in_err-reply_mark-clause-serves g c =
    let read = g.R.Read.remaining in
    let contents = g.W.Write.contents in
    let told = err_from_is_err_and c.from_residual.result c.from_residual.ensures.1 in
    λ start input pinned at. rw (told.1, told.2)
    (mark_stops g.L.Log g.met.L.Log.only_now start c.args.cache.now mark.Pin (Ok tt) input (read c.args.reader.now) (contents c.args.writer.now) (contents c.reply_mark.new.writer) c.args.piece.now c.reply_mark.new.piece at tt pinned.made pinned.batch c.in_err-reply_mark.ensures)

pub returns-clause-serves : goal.returns-clause-serves
returns-clause-serves g c =
    let read = g.R.Read.remaining in
    let contents = g.W.Write.contents in
    λ start input pinned at. until_then g.L.Log
    (mark_done g.L.Log g.met.L.Log.only_now start c.args.cache.now mark.Pin (Ok tt) input (read c.args.reader.now) (contents c.args.writer.now) (contents c.reply_mark.new.writer) c.args.piece.now c.reply_mark.new.piece at tt pinned.made pinned.batch c.in_ok-reply_mark.ensures)
    (read c.serve_until.new.reader) (contents c.serve_until.new.writer) c.serve_until.new.piece c.serve_until.result c.serve_until.new.cache c.serve_until.ensures.serves
