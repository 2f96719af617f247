use Rattle.std.proofs.Common.{◌≡◌, ap, Ok, Err, refl, subst, ◌∙◌}
use Rattle.std.proofs.lemmas.Result.{err_from_is_err_and}
use Rattle.sled_lines.specs.declared.lines.ReadError.{ReadError}
use Rattle.sled_script.specs.declared.run.RunError.TheVariants.{Write}
use Rattle.sled_script.specs.Served.{HasServed, RepliesLine, ServesLines}
use Rattle.sled_script.proofs.Answered.{none_yet, gives_up, flushed}
use Rattle.sled_script.proofs.Serving.{line_unread, ends_here, line_done, line_stops, line_left, unflushed, long_done, long_stops, long_unflushed}
use Rattle.sled_script.proofs.run.serve_until.Goals as goal
use Rattle.sled_script.proofs.run.serve_until.Goals.{in-Whole+in_ok-mark-in-Whole+in_default, in-TooLong+in_ok-gather_text-in-TooLong}

pub loop-init : goal.loop-init
loop-init g c = record { served = none_yet g.L.Log g.met.L.Log.only_now c.args.cache.now (g.R.Read.remaining c.args.reader.now) (g.W.Write.contents c.args.writer.now) c.args.piece.now; batch = refl }

-- the input was not read
pub returns-in_err-read_line-clause-serves : goal.returns-in_err-read_line-clause-serves
returns-in_err-read_line-clause-serves g c =
    let told = err_from_is_err_and c.from_residual.result c.from_residual.ensures.1 in
    rw (told.1, told.2) (line_unread g.L.Log c.loop.invariant.served (g.R.Read.remaining c.read_line.new.reader) c.read_line.new.kept.items c.in_err-read_line.field-0.0 c.in_err-read_line.ensures.unread)

-- the input is at its end
pub returns-in-End-clause-serves : goal.returns-in-End-clause-serves
returns-in-End-clause-serves g c =
    let at = rw (c.in-End.is) at c.in_ok-read_line.ensures.reads in
    ends_here g.L.Log c.loop.invariant.served ReadError (g.R.Read.remaining c.read_line.new.reader) c.read_line.new.kept.items at

pub serve_line-requires : goal.serve_line-requires
serve_line-requires g c = rw c.deref.ensures.value (c.in_ok-read_line.ensures.whole c.in-Whole.is_followed (ap Ok c.in-Whole.is))

pub returns-in_err-mark-in-Whole-clause-serves : goal.returns-in_err-mark-in-Whole-clause-serves
returns-in_err-mark-in-Whole-clause-serves g c =
    let read = g.R.Read.remaining in
    let contents = g.W.Write.contents in
    let at = rw (c.in-Whole.is) at c.in_ok-read_line.ensures.reads in
    let replied = subst (λ line. RepliesLine g.L.Log c.loop.cache line (contents c.loop.writer) (contents c.serve_line.new.writer) c.loop.piece c.serve_line.new.piece (Err c.in_err-mark-in-Whole.field-0.0) c.serve_line.new.cache) c.deref.ensures.value c.in_err-mark-in-Whole.ensures.replies in
    let told = err_from_is_err_and c.from_residual-in_err-mark-in-Whole.result c.from_residual-in_err-mark-in-Whole.ensures.1 in
    rw (told.1, told.2) (line_stops g.L.Log c.loop.invariant.served g.met.L.Log.only_now ReadError c.in-Whole.is_followed c.read_line.new.kept.items (read c.read_line.new.reader) at (contents c.serve_line.new.writer) c.serve_line.new.piece c.serve_line.new.cache c.in_err-mark-in-Whole.field-0.0 replied)

-- the line of a mark is left
pub returns-in-Some-clause-serves : goal.returns-in-Some-clause-serves
returns-in-Some-clause-serves g c =
    let read = g.R.Read.remaining in
    let contents = g.W.Write.contents in
    let at = rw (c.in-Whole.is) at c.in_ok-read_line.ensures.reads in
    let replied = rw (c.in-Some.is, c.deref.ensures.value) at c.in_ok-mark-in-Whole.ensures.replies in
    line_left g.L.Log c.loop.invariant.served g.met.L.Log.only_now ReadError c.in-Whole.is_followed c.read_line.new.kept.items (read c.read_line.new.reader) at (contents c.serve_line.new.writer) c.serve_line.new.piece c.serve_line.new.cache c.in-Some.mark replied

pub returns-in_err-gather_text-in-TooLong-clause-serves : goal.returns-in_err-gather_text-in-TooLong-clause-serves
returns-in_err-gather_text-in-TooLong-clause-serves g c =
    let at = rw (c.in-TooLong.is) at c.in_ok-read_line.ensures.reads in
    let told = err_from_is_err_and c.from_residual-in_err-gather_text-in-TooLong.result c.from_residual-in_err-gather_text-in-TooLong.ensures.1 in
    rw (told.1, told.2) (long_stops g.L.Log c.loop.invariant.served g.met.L.Log.only_now ReadError c.read_line.new.kept.items (g.R.Read.remaining c.read_line.new.reader) at (g.W.Write.contents c.gather_text.new.writer) c.gather_text.new.piece c.in_err-gather_text-in-TooLong.ensures)

-- the reply is written, whichever line it was, and not flushed
pub returns-in_err-flush_unless-clause-serves : goal.returns-in_err-flush_unless-clause-serves
returns-in_err-flush_unless-clause-serves g c =
    let read = g.R.Read.remaining in
    let contents = g.W.Write.contents in
    let stopped : ServesLines g.L.Log c.args.cache.now (read c.args.reader.now) (contents c.args.writer.now) (contents c.flush_unless.new.writer) c.args.piece.now c.flush_unless.new.piece (Err Write) c.match-branch-2.cache =
    elim c.match-branch-2.branch [
      | in-Whole+in_ok-mark-in-Whole+in_default w ↦
          let at = rw (w.in-Whole.is) at c.in_ok-read_line.ensures.reads in
          let replied = rw (w.in_default.is, w.deref.ensures.value) at w.in_ok-mark-in-Whole.ensures.replies in
          let stop = rw (w.writer-is, w.piece-is) at c.in_err-flush_unless.ensures in
          rw (w.cache-is) (unflushed g.L.Log c.loop.invariant.served g.met.L.Log.only_now ReadError w.in-Whole.is_followed c.read_line.new.kept.items (read c.read_line.new.reader) (contents w.serve_line.new.writer) (contents c.flush_unless.new.writer) w.serve_line.new.piece c.flush_unless.new.piece w.serve_line.new.cache at replied stop)
      | in-TooLong+in_ok-gather_text-in-TooLong w ↦
          let at = rw (w.in-TooLong.is) at c.in_ok-read_line.ensures.reads in
          let stop = rw (w.writer-is, w.piece-is) at c.in_err-flush_unless.ensures in
          rw (w.cache-is) (long_unflushed g.L.Log c.loop.invariant.served g.met.L.Log.only_now ReadError c.read_line.new.kept.items (read c.read_line.new.reader) at (contents c.flush_unless.new.writer) c.flush_unless.new.piece (contents w.gather_text.new.writer) w.gather_text.new.piece w.in_ok-gather_text-in-TooLong.ensures stop)
    ] in
    let told = err_from_is_err_and c.from_residual-in_err-flush_unless.result c.from_residual-in_err-flush_unless.ensures.1 in
    rw (told.1, told.2) stopped

pub loop-preserved : goal.loop-preserved
loop-preserved g c =
    let read = g.R.Read.remaining in
    let contents = g.W.Write.contents in
    let so : HasServed g.L.Log c.args.cache.now (read c.args.reader.now) (read c.read_line.new.reader) (contents c.args.writer.now) (contents c.match-branch-2.writer) c.args.piece.now c.match-branch-2.piece c.match-branch-2.cache =
    elim c.match-branch-2.branch [
      | in-Whole+in_ok-mark-in-Whole+in_default w ↦
          let at = rw (w.in-Whole.is) at c.in_ok-read_line.ensures.reads in
          let replied = rw (w.in_default.is, w.deref.ensures.value) at w.in_ok-mark-in-Whole.ensures.replies in
          rw (w.writer-is, w.piece-is, w.cache-is) (line_done g.L.Log c.loop.invariant.served g.met.L.Log.only_now ReadError w.in-Whole.is_followed c.read_line.new.kept.items (read c.read_line.new.reader) at (contents w.serve_line.new.writer) w.serve_line.new.piece w.serve_line.new.cache replied)
      | in-TooLong+in_ok-gather_text-in-TooLong w ↦
          let at = rw (w.in-TooLong.is) at c.in_ok-read_line.ensures.reads in
          rw (w.writer-is, w.piece-is, w.cache-is) (long_done g.L.Log c.loop.invariant.served g.met.L.Log.only_now ReadError c.read_line.new.kept.items (read c.read_line.new.reader) at (contents w.gather_text.new.writer) w.gather_text.new.piece w.in_ok-gather_text-in-TooLong.ensures)
    ] in
    let same : c.match-branch-2.cache.batch ≡ c.args.cache.now.batch =
    elim c.match-branch-2.branch [
      | in-Whole+in_ok-mark-in-Whole+in_default w ↦ rw (w.cache-is) (w.in_ok-mark-in-Whole.ensures.batch ∙ c.loop.invariant.batch)
      | in-TooLong+in_ok-gather_text-in-TooLong w ↦ rw (w.cache-is) c.loop.invariant.batch
    ] in
    record { served = flushed g.L.Log so (contents c.flush_unless.new.writer) c.flush_unless.new.piece c.in_ok-flush_unless.ensures; batch = same }

-- the loop gives up
pub returns-clause-serves : goal.returns-clause-serves
returns-clause-serves g c = gives_up g.L.Log c.loop.invariant.served
