use Rattle.std.proofs.Common.{rules, ap, ◌∙◌, ◌+◌, take, List, ℕ}
use Rattle.sled_disk.specs.Disk.{overlaid}
use Rattle.sled_disk.proofs.Disks.ShortWrites.{behind, elapses-then, follows-piece, overlaid-piece}
use Rattle.sled_disk.proofs.disk.file.write_whole.Goals as goal

pub loop-done-preserved : goal.loop-done-preserved
loop-done-preserved g c =
    let file = g.F.SystemFile in
    let at = c.args.at in
    let bytes = c.args.bytes.now in
    let done = c.loop-done.done in
    let sofar = c.loop-done.invariant in
    let piece = c.in-Ok.ensures in
    record {
      within = search rules;
      sound = λ told. piece.sound told;
      written = λ told. piece.written told ∙ ap (λ (l : List ℕ). overlaid l (at + done) (take c.in-Ok.n (behind done bytes))) (sofar.written told) ∙ overlaid-piece (file.seen c.args.file.now) at bytes done c.in-Ok.n (c.requires.within told) sofar.within;
      stop = λ told. follows-piece (file.may_leave c.args.file.now) (file.may_leave c.loop-done.file) (file.may_leave c.write_some_at.new.self) at bytes done sofar.within (sofar.stop told) (piece.stop told);
      time = λ told. elapses-then file.moment file.left_since file.may_leave c.args.file.now c.loop-done.file c.write_some_at.new.self (piece.keeps told) (sofar.time told) (piece.time told);
    }

pub returns-in-Ok-eq0-clause-stop : goal.returns-in-Ok-eq0-clause-stop
returns-in-Ok-eq0-clause-stop g c = λ told.
    let may_leave = g.F.SystemFile.may_leave in
    follows-piece (may_leave c.args.file.now) (may_leave c.loop-done.file) (may_leave c.write_some_at.new.self) c.args.at c.args.bytes.now c.loop-done.done c.loop-done.invariant.within (c.loop-done.invariant.stop told) (c.in-Ok-eq0.ensures.stop told)

pub returns-in-Ok-eq0-2-clause-stop : goal.returns-in-Ok-eq0-2-clause-stop
returns-in-Ok-eq0-2-clause-stop g c = λ told.
    let may_leave = g.F.SystemFile.may_leave in
    follows-piece (may_leave c.args.file.now) (may_leave c.loop-done.file) (may_leave c.write_some_at.new.self) c.args.at c.args.bytes.now c.loop-done.done c.loop-done.invariant.within (c.loop-done.invariant.stop told) (c.write_some_at.ensures.stop told)
