-- The last replies are written, or where that fails a beginning of them.
use Rattle.std.proofs.Common.{Ok, Err}
use Rattle.std.proofs.lemmas.Result.{err_from_is_err_and}
use Rattle.sled_script.specs.declared.run.RunError.TheVariants.{Read, Write, Memory}
use Rattle.sled_script.proofs.Batches.{all_written, not_all_written, rest_written}
use Rattle.sled_script.proofs.run.run.Goals as goal

pub returns-in_err-write_rest-in-Ok : goal.returns-in_err-write_rest-in-Ok
returns-in_err-write_rest-in-Ok g c =
    let contents = g.W.Write.contents in
    let told = err_from_is_err_and c.from_residual.result c.from_residual.ensures.1 in
    rw (told.1, told.2) (not_all_written g.L.Log c.args.cache.now c.serve_lines.new.cache (g.R.Read.remaining c.args.reader.now) (contents c.args.writer.now) (contents c.serve_lines.new.writer) (contents c.write_rest.new.writer) c.serve_lines.new.piece c.serve_lines.result
    (λ e. let is = c.in-Ok.is in absurd cc) (rw c.new-piece.ensures at c.serve_lines.ensures) c.in_err-write_rest-in-Ok.ensures.writes c.in_err-write_rest-in-Ok.ensures.some)

pub returns-in_err-write_rest-in-Err-Read : goal.returns-in_err-write_rest-in-Err-Read
returns-in_err-write_rest-in-Err-Read g c =
    let contents = g.W.Write.contents in
    let told = err_from_is_err_and c.from_residual-in_err-write_rest-in-Err-Read.result c.from_residual-in_err-write_rest-in-Err-Read.ensures.1 in
    rw (told.1, told.2) (not_all_written g.L.Log c.args.cache.now c.serve_lines.new.cache (g.R.Read.remaining c.args.reader.now) (contents c.args.writer.now) (contents c.serve_lines.new.writer) (contents c.write_rest-in-Err-Read.new.writer) c.serve_lines.new.piece c.serve_lines.result
    (λ e. let is = c.in-Err-Read.is in let kind = c.in-Err-Read.field-0-is in absurd cc) (rw c.new-piece.ensures at c.serve_lines.ensures) c.in_err-write_rest-in-Err-Read.ensures.writes c.in_err-write_rest-in-Err-Read.ensures.some)

pub returns-in_err-write_rest-in-Err-Memory : goal.returns-in_err-write_rest-in-Err-Memory
returns-in_err-write_rest-in-Err-Memory g c =
    let contents = g.W.Write.contents in
    let told = err_from_is_err_and c.from_residual-in_err-write_rest-in-Err-Memory.result c.from_residual-in_err-write_rest-in-Err-Memory.ensures.1 in
    rw (told.1, told.2) (not_all_written g.L.Log c.args.cache.now c.serve_lines.new.cache (g.R.Read.remaining c.args.reader.now) (contents c.args.writer.now) (contents c.serve_lines.new.writer) (contents c.write_rest-in-Err-Memory.new.writer) c.serve_lines.new.piece c.serve_lines.result
    (λ e. let is = c.in-Err-Memory.is in let kind = c.in-Err-Memory.field-0-is in absurd cc) (rw c.new-piece.ensures at c.serve_lines.ensures) c.in_err-write_rest-in-Err-Memory.ensures.writes c.in_err-write_rest-in-Err-Memory.ensures.some)

pub returns-in_ok-write_rest-in-Ok : goal.returns-in_ok-write_rest-in-Ok
returns-in_ok-write_rest-in-Ok g c =
    let contents = g.W.Write.contents in
    let all = rw (c.in-Ok.is, c.new-piece.ensures) at c.serve_lines.ensures in
    all_written g.L.Log c.args.cache.now c.serve_lines.new.cache (g.R.Read.remaining c.args.reader.now) (contents c.args.writer.now) (contents c.serve_lines.new.writer) (contents c.write_rest.new.writer) c.serve_lines.new.piece (Ok tt) all
    (λ text gathered. rest_written (contents c.args.writer.now) (contents c.serve_lines.new.writer) (contents c.write_rest.new.writer) c.serve_lines.new.piece text gathered c.in_ok-write_rest-in-Ok.ensures.writes)

pub returns-in_ok-write_rest-in-Err-Read : goal.returns-in_ok-write_rest-in-Err-Read
returns-in_ok-write_rest-in-Err-Read g c =
    let contents = g.W.Write.contents in
    let all = rw (c.in-Err-Read.is, c.in-Err-Read.field-0-is, c.new-piece.ensures) at c.serve_lines.ensures in
    all_written g.L.Log c.args.cache.now c.serve_lines.new.cache (g.R.Read.remaining c.args.reader.now) (contents c.args.writer.now) (contents c.serve_lines.new.writer) (contents c.write_rest-in-Err-Read.new.writer) c.serve_lines.new.piece (Err Read) all
    (λ text gathered. rest_written (contents c.args.writer.now) (contents c.serve_lines.new.writer) (contents c.write_rest-in-Err-Read.new.writer) c.serve_lines.new.piece text gathered c.in_ok-write_rest-in-Err-Read.ensures.writes)

pub returns-in_ok-write_rest-in-Err-Memory : goal.returns-in_ok-write_rest-in-Err-Memory
returns-in_ok-write_rest-in-Err-Memory g c =
    let contents = g.W.Write.contents in
    let all = rw (c.in-Err-Memory.is, c.in-Err-Memory.field-0-is, c.new-piece.ensures) at c.serve_lines.ensures in
    all_written g.L.Log c.args.cache.now c.serve_lines.new.cache (g.R.Read.remaining c.args.reader.now) (contents c.args.writer.now) (contents c.serve_lines.new.writer) (contents c.write_rest-in-Err-Memory.new.writer) c.serve_lines.new.piece (Err Memory) all
    (λ text gathered. rest_written (contents c.args.writer.now) (contents c.serve_lines.new.writer) (contents c.write_rest-in-Err-Memory.new.writer) c.serve_lines.new.piece text gathered c.in_ok-write_rest-in-Err-Memory.ensures.writes)

pub returns-in-Err-Write : goal.returns-in-Err-Write
returns-in-Err-Write g c =
    let contents = g.W.Write.contents in
    let all = rw (c.in-Err-Write.is, c.in-Err-Write.field-0-is, c.new-piece.ensures) at c.serve_lines.ensures in
    all_written g.L.Log c.args.cache.now c.serve_lines.new.cache (g.R.Read.remaining c.args.reader.now) (contents c.args.writer.now) (contents c.serve_lines.new.writer) (contents c.serve_lines.new.writer) c.serve_lines.new.piece (Err Write) all (λ text gathered. gathered)
