-- Lines outside a batch, and then a batch.
use Rattle.std.proofs.Common.{false, true, Ok, Err, ◌∙◌}
use Rattle.std.proofs.lemmas.Result.{err_from_is_err_and}
use Rattle.sled_script.specs.declared.run.RunError.TheVariants.{Read}
use Rattle.sled_script.specs.declared.run.Stop.TheVariants as stop
use Rattle.sled_script.proofs.Answered.{none_yet, gives_up, until_then}
use Rattle.sled_script.proofs.Batches.{closed_all, batch_served}
use Rattle.sled_script.proofs.run.serve_lines.Goals as goal

pub loop-init : goal.loop-init
loop-init g c = record { served = none_yet g.L.Log g.met.L.Log.only_now c.args.cache.now (g.R.Read.remaining c.args.reader.now) (g.W.Write.contents c.args.writer.now) c.args.piece.now; batch = c.requires }

pub returns-in_err-serve_until : goal.returns-in_err-serve_until
returns-in_err-serve_until g c =
    let contents = g.W.Write.contents in
    let told = err_from_is_err_and c.from_residual.result c.from_residual.ensures.1 in
    let e = c.in_err-serve_until.field-0.0 in
    rw (told.1, told.2) (closed_all g.L.Log c.args.cache.now c.serve_until.new.cache (g.R.Read.remaining c.args.reader.now) (contents c.args.writer.now) (contents c.serve_until.new.writer) c.args.piece.now c.serve_until.new.piece (Err e) (c.in_err-serve_until.ensures.batch ∙ c.loop.invariant.batch)
    (until_then g.L.Log c.loop.invariant.served (g.R.Read.remaining c.serve_until.new.reader) (contents c.serve_until.new.writer) c.serve_until.new.piece (Err e) c.serve_until.new.cache c.in_err-serve_until.ensures.serves))

pub returns-in-End : goal.returns-in-End
returns-in-End g c =
    let contents = g.W.Write.contents in
    let lines = rw (c.in-End.is) at c.in_ok-serve_until.ensures.serves in
    closed_all g.L.Log c.args.cache.now c.serve_until.new.cache (g.R.Read.remaining c.args.reader.now) (contents c.args.writer.now) (contents c.serve_until.new.writer) c.args.piece.now c.serve_until.new.piece (Ok tt) (c.in_ok-serve_until.ensures.batch ∙ c.loop.invariant.batch)
    (until_then g.L.Log c.loop.invariant.served (g.R.Read.remaining c.serve_until.new.reader) (contents c.serve_until.new.writer) c.serve_until.new.piece (Ok stop.End) c.serve_until.new.cache lines)

-- Behind lines outside a batch a batch is served: lines up to its end, or all that are left.
pub returns-in_err-serve_batch : goal.returns-in_err-serve_batch
returns-in_err-serve_batch g c =
    let read = g.R.Read.remaining in
    let contents = g.W.Write.contents in
    let told = err_from_is_err_and c.from_residual-in_err-serve_batch.result c.from_residual-in_err-serve_batch.ensures.1 in
    let lines = rw (c.in-At.is) at c.in_ok-serve_until.ensures.serves in
    rw (told.1, told.2) (batch_served g.L.Log c.loop.invariant.served c.in-At.mark c.in-At.is_followed c.serve_until.new.cache c.serve_batch.new.cache (read c.serve_until.new.reader) (read c.serve_batch.new.reader) (contents c.serve_until.new.writer) (contents c.serve_batch.new.writer) c.serve_until.new.piece c.serve_batch.new.piece (Err c.in_err-serve_batch.field-0.0) (c.in_ok-serve_until.ensures.batch ∙ c.loop.invariant.batch) lines c.in_err-serve_batch.ensures)

-- the loop gives up
pub returns : goal.returns
returns g c =
    let contents = g.W.Write.contents in
    closed_all g.L.Log c.args.cache.now c.loop.cache (g.R.Read.remaining c.args.reader.now) (contents c.args.writer.now) (contents c.loop.writer) c.args.piece.now c.loop.piece (Err Read) c.loop.invariant.batch (gives_up g.L.Log c.loop.invariant.served)

-- the batch was the last of it
pub returns-then-not-branch : goal.returns-then-not-branch
returns-then-not-branch g c =
    let read = g.R.Read.remaining in
    let contents = g.W.Write.contents in
    let lines = rw (c.in-At.is) at c.in_ok-serve_until.ensures.serves in
    batch_served g.L.Log c.loop.invariant.served c.in-At.mark c.in-At.is_followed c.serve_until.new.cache c.serve_batch.new.cache (read c.serve_until.new.reader) (read c.serve_batch.new.reader) (contents c.serve_until.new.writer) (contents c.serve_batch.new.writer) c.serve_until.new.piece c.serve_batch.new.piece (Ok false) (c.in_ok-serve_until.ensures.batch ∙ c.loop.invariant.batch) lines (rw (c.if-not-branch.true) at c.in_ok-serve_batch.ensures)

pub loop-preserved : goal.loop-preserved
loop-preserved g c =
    let read = g.R.Read.remaining in
    let contents = g.W.Write.contents in
    let lines = rw (c.in-At.is) at c.in_ok-serve_until.ensures.serves in
    let so = batch_served g.L.Log c.loop.invariant.served c.in-At.mark c.in-At.is_followed c.serve_until.new.cache c.serve_batch.new.cache (read c.serve_until.new.reader) (read c.serve_batch.new.reader) (contents c.serve_until.new.writer) (contents c.serve_batch.new.writer) c.serve_until.new.piece c.serve_batch.new.piece (Ok true) (c.in_ok-serve_until.ensures.batch ∙ c.loop.invariant.batch) lines (rw (c.if-not-branch.false) at c.in_ok-serve_batch.ensures) in
    record { served = so.0; batch = so.1 }
