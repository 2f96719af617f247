use Rattle.std.proofs.Common.{◌≡◌, ◌<◌, [], length, refl, sym, ◌∙◌, ap, arith}
use Rattle.std.specs.Prelude.{Err}
use Rattle.std.proofs.lemmas.List.{append-nil}
use Rattle.std.proofs.lemmas.Result.{err_from_is_err_and}
use Rattle.sled_log.specs.declared.log.LogError.TheVariants.{WriteFault}
use Rattle.sled_disk.specs.Pending.{pending_in, open_by}
use Rattle.sled_disk.specs.Reading.{chains_of}
use Rattle.sled_disk.proofs.LogCalls.CallOutcomes.{opens-by, called-waits, called-wrote, called-fault, rests-same, read-described}
use Rattle.sled_disk.specs.RecoveredLogLaws.{none-behind}
use Rattle.sled_disk.specs.LogContents.{records_behind, is_begun}
use Rattle.sled_disk.specs.PendingFrame.{batch_of, progress_of, events_of}
use Rattle.sled_disk.proofs.Frames.WrittenFrame.{settles-then, begins-now, room-small, begins-after, size-none, size-not, none-waits}
use Rattle.sled_disk.proofs.log.calls.DiskLogLog.make_stable.Goals as goal

pub returns-then-bytes-eq0-clause-called : goal.returns-then-bytes-eq0-clause-called
returns-then-bytes-eq0-clause-called g c =
    let log = c.args.self.now in
    called-waits g.D.Disk (λ disk left told was. g.met.D.Disk.only_now disk left told was) (λ disk told i. g.met.D.Disk.are_bytes disk i told)
    log log _ _ 0 (rests-same g.D.Disk.seen g.D.Disk.may_leave g.D.Disk.moment g.D.Disk.left_since g.D.Disk.tells log.disk) refl c.requires.usable refl (λ told. sym (append-nil (pending_in (g.D.Disk.seen log.disk) log.next.gate log.next.spilled log.next.buffer.items))) refl
    c.requires.usable

pub returns-then-bytes-eq0-clause-stable : goal.returns-then-bytes-eq0-clause-stable
returns-then-bytes-eq0-clause-stable g c = let log = c.args.self.now in none-waits (g.D.Disk.seen log.disk) log.next (size-none log.next.buffer.items (sym c.to_write-bytes.ensures ∙ c.if-bytes-eq0.true)) (sym (opens-by (g.D.Disk.seen log.disk) log.next.gate log.next.spilled log.next.buffer.items) ∙ c.requires.closed)

pub write_next-requires-clause-some : goal.write_next-requires-clause-some
write_next-requires-clause-some g c = let log = c.args.self.now in size-not log.next.buffer.items (λ none. c.if-bytes-eq0.false (c.to_write-bytes.ensures ∙ none))

pub returns-clause-stable : goal.returns-clause-stable
returns-clause-stable g c = let log = c.args.self.now in let after = c.write_next.new.self in none-waits (g.D.Disk.seen after.disk) after.next (let l = c.write_next.ensures.buffer in omega (arith, l)) (ap (open_by after.next.spilled) (none-behind after.next.buffer.items (let l = c.write_next.ensures.buffer in omega (arith, l))) ∙ c.write_next.ensures.spilled ∙ log.next.batch_is ∙ sym (opens-by (g.D.Disk.seen log.disk) log.next.gate log.next.spilled log.next.buffer.items) ∙ c.requires.closed)

pub returns-clause-called : goal.returns-clause-called
returns-clause-called g c =
    let log = c.args.self.now in
    let after = c.write_next.new.self in
    let cause = c.in_ok-write_next.ensures.cause in
    let some : 8 < length log.next.buffer.items = size-not log.next.buffer.items (λ none. c.if-bytes-eq0.false (c.to_write-bytes.ensures ∙ none)) in
    called-wrote g.D.Disk (λ disk left told was. g.met.D.Disk.only_now disk left told was) (λ disk told i. g.met.D.Disk.are_bytes disk i told)
    log after _ _ log [] refl (rests-same g.D.Disk.seen g.D.Disk.may_leave g.D.Disk.moment g.D.Disk.left_since g.D.Disk.tells log.disk) refl c.requires.usable
    (λ told. sym (append-nil (pending_in (g.D.Disk.seen log.disk) log.next.gate log.next.spilled log.next.buffer.items)))
    refl c.write_next.ensures.reads
    (progress_of (g.D.Disk.seen log.disk) log.next) (λ told. settles-then (g.D.Disk.seen log.disk) log.next.gate log.next.spilled log.next.buffer.items (batch_of log.next) (chains_of log.pages.items) (λ i. g.met.D.Disk.are_bytes log.disk i told) (log.stands told c.requires.usable) log.next.are_bytes log.next.parsed some (room-small log.next (log.next.fits some)) log.next.own)
    (λ told. begins-now (g.D.Disk.seen log.disk) log.next.gate log.next.spilled log.next.buffer.items (batch_of log.next) (chains_of log.pages.items) (λ i. g.met.D.Disk.are_bytes log.disk i told) (log.stands told c.requires.usable) log.next.are_bytes log.next.parsed some (room-small log.next (log.next.fits some)))
    c.write_next.ensures.any_moment
    c.to_write-bytes.result refl c.in_ok-write_next.ensures.usable (none-behind after.next.buffer.items (let l = c.write_next.ensures.buffer in omega (arith, l))) (c.write_next.ensures.spilled ∙ log.next.batch_is)
    c.in_ok-write_next.ensures.stable
    (λ told. ap (λ q. is_begun q.begun) (sym (c.in_ok-write_next.ensures.stable told)) ∙ begins-after (g.D.Disk.seen after.disk) after.next (chains_of after.pages.items) (λ i. g.met.D.Disk.are_bytes after.disk i told) (after.stands told c.in_ok-write_next.ensures.usable))
    (record { failed_reads = cause.failed_reads; write_faults = cause.write_faults; read = λ is. cc; write = λ is. cc })

pub returns-in_err-write_next-clause-called : goal.returns-in_err-write_next-clause-called
returns-in_err-write_next-clause-called g c =
    let log = c.args.self.now in
    let cause = c.in_err-write_next.ensures.cause in
    let p = err_from_is_err_and c.from_residual.result c.from_residual.ensures.1 in
    let fault : p.0 ≡ WriteFault = p.2 ∙ c.in_err-write_next.ensures.only in
    let some : 8 < length log.next.buffer.items = size-not log.next.buffer.items (λ none. c.if-bytes-eq0.false (c.to_write-bytes.ensures ∙ none)) in
    rw p.1 (rw fault
    (called-fault g.D.Disk (λ disk left told was. g.met.D.Disk.only_now disk left told was) (λ disk told i. g.met.D.Disk.are_bytes disk i told)
    log c.write_next.new.self _ _ log [] refl (rests-same g.D.Disk.seen g.D.Disk.may_leave g.D.Disk.moment g.D.Disk.left_since g.D.Disk.tells log.disk) refl c.requires.usable
    (λ told. sym (append-nil (pending_in (g.D.Disk.seen log.disk) log.next.gate log.next.spilled log.next.buffer.items)))
    refl c.write_next.ensures.reads
    (progress_of (g.D.Disk.seen log.disk) log.next) (λ told. settles-then (g.D.Disk.seen log.disk) log.next.gate log.next.spilled log.next.buffer.items (batch_of log.next) (chains_of log.pages.items) (λ i. g.met.D.Disk.are_bytes log.disk i told) (log.stands told c.requires.usable) log.next.are_bytes log.next.parsed some (room-small log.next (log.next.fits some)) log.next.own)
    (λ told. begins-now (g.D.Disk.seen log.disk) log.next.gate log.next.spilled log.next.buffer.items (batch_of log.next) (chains_of log.pages.items) (λ i. g.met.D.Disk.are_bytes log.disk i told) (log.stands told c.requires.usable) log.next.are_bytes log.next.parsed some (room-small log.next (log.next.fits some)))
    c.write_next.ensures.any_moment
    c.in_err-write_next.ensures.usable (record { failed_reads = cause.failed_reads; write_faults = cause.write_faults; read = λ is. cc; write = λ is. cause.write (ap (λ e. Err e) c.in_err-write_next.ensures.only) })))

pub returns-then-bytes-eq0-clause-any_moment : goal.returns-then-bytes-eq0-clause-any_moment
returns-then-bytes-eq0-clause-any_moment g c = λ told.
    let log = c.args.self.now in
    read-described g.D.Disk.seen g.D.Disk.may_leave g.D.Disk.moment g.D.Disk.left_since (λ disk left was. g.met.D.Disk.only_now disk left told was)
    log.disk log.disk told log.next.gate log.next.spilled (records_behind log.next.buffer.items) (batch_of log.next) (chains_of log.pages.items) (events_of (g.D.Disk.seen log.disk) log.next) (λ i. g.met.D.Disk.are_bytes log.disk i told) (log.stands told c.requires.usable) (log.durable told c.requires.usable) (rests-same g.D.Disk.seen g.D.Disk.may_leave g.D.Disk.moment g.D.Disk.left_since g.D.Disk.tells log.disk)
