-- A batch is refused, or it is closed by a line, or by the end of the input or an error.
use Rattle.std.proofs.Common.{rules, true, Ok, Err, ◌∙◌, None}
use Rattle.std.proofs.lemmas.Result.{err_from_is_err_and}
use Rattle.sled_pagecache.specs.Batches.{OpensBatch}
use Rattle.sled_script.specs.Served.{ServesAll, ServesBatch}
use Rattle.sled_script.specs.declared.command.Mark.TheVariants as mark
use Rattle.sled_script.specs.declared.run.RunError.TheVariants.{Write}
use Rattle.sled_pagecache.specs.Inside.SequenceLaws.{also-of}
use Rattle.sled_script.proofs.Batches.{batch_closed, batch_untold, cancelled_all, closed_all, is_pinned, mark_done, mark_stops, opened_batch}
use Rattle.sled_pagecache.specs.Inside.MadeLaws.{cancel-made, pin-made}
use Rattle.sled_script.proofs.batch.serve_batch.Goals as goal

-- no batch is opened
pub returns-in_err-reply_mark-in-Err : goal.returns-in_err-reply_mark-in-Err
returns-in_err-reply_mark-in-Err g c =
    let read = g.R.Read.remaining in
    let contents = g.W.Write.contents in
    let last = c.pin_log.follows.lender-at-none in
    let opens : OpensBatch g.L.Log c.args.cache.now (Err c.in-Err.error) last = rw c.in-Err.is at c.pin_log.follows.holds-at-none in
    let told = err_from_is_err_and c.from_residual.result c.from_residual.ensures.1 in
    λ input at. rw (told.1, told.2)
    (closed_all g.L.Log c.args.cache.now last input (contents c.args.writer.now) (contents c.reply_mark.new.writer) c.args.piece.now c.reply_mark.new.piece (Err Write) (opens.refused ∙ c.requires)
    (mark_stops g.L.Log g.met.L.Log.only_now c.args.cache.now last mark.Pin (Err c.in-Err.error) input (read c.args.reader.now) (contents c.args.writer.now) (contents c.reply_mark.new.writer) c.args.piece.now c.reply_mark.new.piece at tt
    (pin-made g.L.Log c.args.cache.now last (Err c.in-Err.error) opens) (opened_batch g.L.Log c.args.cache.now last (Err c.in-Err.error) opens) c.in_err-reply_mark-in-Err.ensures))

pub returns-in-Err : goal.returns-in-Err
returns-in-Err g c =
    let read = g.R.Read.remaining in
    let contents = g.W.Write.contents in
    let last = c.pin_log.follows.lender-at-none in
    let opens : OpensBatch g.L.Log c.args.cache.now (Err c.in-Err.error) last = rw c.in-Err.is at c.pin_log.follows.holds-at-none in
    λ input at. (
      mark_done g.L.Log g.met.L.Log.only_now c.args.cache.now last mark.Pin (Err c.in-Err.error) input (read c.args.reader.now) (contents c.args.writer.now) (contents c.reply_mark.new.writer) c.args.piece.now c.reply_mark.new.piece at tt
          (pin-made g.L.Log c.args.cache.now last (Err c.in-Err.error) opens) (opened_batch g.L.Log c.args.cache.now last (Err c.in-Err.error) opens) c.in_ok-reply_mark-in-Err.ensures,
      opens.refused ∙ c.requires,
    )

-- a line closes it
pub close-closed-requires-clause-closing : goal.close-closed-requires-clause-closing
close-closed-requires-clause-closing g c =
    let pinned = is_pinned g.L.Log c.args.cache.now c.in-Ok.guard.cache.now c.cache.result.now c.cache.ensures.value c.in-Ok.ensures.pinned in
    (rw c.in-Ok-At.field-0-is at c.in-Ok-At.ensures.serves c.args.cache.now None pinned tt).3

pub returns-in_err-reply_mark-in-Ok-At : goal.returns-in_err-reply_mark-in-Ok-At
returns-in_err-reply_mark-in-Ok-At g c =
    let read = g.R.Read.remaining in
    let contents = g.W.Write.contents in
    let last = c.close-closed.new.guard.0 in
    let pinned = is_pinned g.L.Log c.args.cache.now c.in-Ok.guard.cache.now c.cache.result.now c.cache.ensures.value c.in-Ok.ensures.pinned in
    let told = err_from_is_err_and c.from_residual-in_err-reply_mark-in-Ok-At.result c.from_residual-in_err-reply_mark-in-Ok-At.ensures.1 in
    λ input at. rw (told.1, told.2)
    (also-of (λ now. ServesAll g.L.Log c.args.cache.now input (contents c.args.writer.now) (contents c.reply_mark-in-Ok-At.new.writer) c.args.piece.now c.reply_mark-in-Ok-At.new.piece (Err Write) now) last
    (batch_untold g.L.Log g.met.L.Log.only_now c.args.cache.now c.serve_inside.new.cache last input (read c.serve_inside.new.reader) (contents c.args.writer.now) (contents c.serve_inside.new.writer) (contents c.reply_mark-in-Ok-At.new.writer) c.args.piece.now c.serve_inside.new.piece c.reply_mark-in-Ok-At.new.piece
    c.in-Ok-At.mark c.in-Ok-At.is_followed c.close-closed.result (c.in-Ok-At.ensures.batch ∙ pinned.batch) c.close-closed.ensures.made c.close-closed.ensures.batch (rw c.in-Ok-At.field-0-is at c.in-Ok-At.ensures.serves c.args.cache.now input pinned at) c.in_err-reply_mark-in-Ok-At.ensures)
    (search rules))

pub returns-in_ok-reply_mark-in-Ok-At : goal.returns-in_ok-reply_mark-in-Ok-At
returns-in_ok-reply_mark-in-Ok-At g c =
    let read = g.R.Read.remaining in
    let contents = g.W.Write.contents in
    let last = c.close-closed.new.guard.0 in
    let pinned = is_pinned g.L.Log c.args.cache.now c.in-Ok.guard.cache.now c.cache.result.now c.cache.ensures.value c.in-Ok.ensures.pinned in
    λ input at.
    also-of (λ now. ServesBatch g.L.Log c.args.cache.now input (read c.serve_inside.new.reader) (contents c.args.writer.now) (contents c.reply_mark-in-Ok-At.new.writer) c.args.piece.now c.reply_mark-in-Ok-At.new.piece (Ok true) now) last (
      batch_closed g.L.Log g.met.L.Log.only_now c.args.cache.now c.serve_inside.new.cache last input (read c.serve_inside.new.reader) (contents c.args.writer.now) (contents c.serve_inside.new.writer) (contents c.reply_mark-in-Ok-At.new.writer) c.args.piece.now c.serve_inside.new.piece c.reply_mark-in-Ok-At.new.piece
          c.in-Ok-At.mark c.in-Ok-At.is_followed c.close-closed.result (c.in-Ok-At.ensures.batch ∙ pinned.batch) c.close-closed.ensures.made c.close-closed.ensures.batch (rw c.in-Ok-At.field-0-is at c.in-Ok-At.ensures.serves c.args.cache.now input pinned at) c.in_ok-reply_mark-in-Ok-At.ensures,
      c.close-closed.ensures.batch,
    )
    (search rules)

-- the end of the input, or an error, cancels it
pub returns-in-Ok-End : goal.returns-in-Ok-End
returns-in-Ok-End g c =
    let contents = g.W.Write.contents in
    let last = c.cancel.new.self.0 in
    let pinned = is_pinned g.L.Log c.args.cache.now c.in-Ok.guard.cache.now c.cache.result.now c.cache.ensures.value c.in-Ok.ensures.pinned in
    λ input at.
    also-of (λ now. ServesAll g.L.Log c.args.cache.now input (contents c.args.writer.now) (contents c.serve_inside.new.writer) c.args.piece.now c.serve_inside.new.piece (Ok tt) now) last
    (cancelled_all g.L.Log c.args.cache.now c.serve_inside.new.cache last input (contents c.args.writer.now) (contents c.serve_inside.new.writer) c.args.piece.now c.serve_inside.new.piece (Ok tt) c.cancel.result (c.in-Ok-End.ensures.batch ∙ pinned.batch)
    (cancel-made g.L.Log c.serve_inside.new.cache last c.cancel.result c.cancel.ensures) c.cancel.ensures.closed (rw c.in-Ok-End.field-0-is at c.in-Ok-End.ensures.serves c.args.cache.now input pinned at))
    (search rules)

pub returns-in-Err-serve_inside : goal.returns-in-Err-serve_inside
returns-in-Err-serve_inside g c =
    let contents = g.W.Write.contents in
    let last = c.cancel-in-Err-serve_inside.new.self.0 in
    let pinned = is_pinned g.L.Log c.args.cache.now c.in-Ok.guard.cache.now c.cache.result.now c.cache.ensures.value c.in-Ok.ensures.pinned in
    λ input at.
    also-of (λ now. ServesAll g.L.Log c.args.cache.now input (contents c.args.writer.now) (contents c.serve_inside.new.writer) c.args.piece.now c.serve_inside.new.piece (Err c.in-Err-serve_inside.error) now) last
    (cancelled_all g.L.Log c.args.cache.now c.serve_inside.new.cache last input (contents c.args.writer.now) (contents c.serve_inside.new.writer) c.args.piece.now c.serve_inside.new.piece (Err c.in-Err-serve_inside.error) c.cancel-in-Err-serve_inside.result (c.in-Err-serve_inside.ensures.batch ∙ pinned.batch)
    (cancel-made g.L.Log c.serve_inside.new.cache last c.cancel-in-Err-serve_inside.result c.cancel-in-Err-serve_inside.ensures) c.cancel-in-Err-serve_inside.ensures.closed (c.in-Err-serve_inside.ensures.serves c.args.cache.now input pinned at))
    (search rules)
