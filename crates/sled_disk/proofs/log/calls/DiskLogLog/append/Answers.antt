use Rattle.std.proofs.Common.{length, sym, ◌∙◌, ap, arith}
use Rattle.std.proofs.lemmas.Result.{err_from_is_err_and}
use Rattle.sled_disk.specs.declared.log.names.Names.{Names}
use Rattle.sled_disk.specs.declared.format.next_frame.NextFrame.{NextFrame}
use Rattle.sled_disk.specs.Pending.{state_in}
use Rattle.sled_disk.proofs.LogCalls.LaterReads.{called-then, then-rests}
use Rattle.sled_log.specs.Moves.{Moves}
use Rattle.sled_disk.specs.Names.{moves_in}
use Rattle.sled_disk.specs.PendingFrame.{place_of}
use Rattle.sled_disk.proofs.Moves.MovesAfterCalls.{due-of-all, read-ahead, never-empty}
use Rattle.sled_disk.proofs.log.calls.DiskLogLog.append.Goals as goal

pub returns-in_err-said-clause-called : goal.returns-in_err-said-clause-called
returns-in_err-said-clause-called g c =
    let p = err_from_is_err_and c.from_residual.result c.from_residual.ensures.1 in
    rw p.1 (rw p.2 c.in_err-said.ensures.adds.called)

pub returns-clause-called : goal.returns-clause-called
returns-clause-called g c =
    let mid = c.put.new.self in
    let new = c.read_name.new.self in
    let usable = c.read_name.ensures.looks.usable ∙ sym c.in_ok-said.ensures.adds.called.usable in
    called-then g.D.Disk c.args.self.now mid new _ _ _ c.in_ok-said.said c.in_ok-said.ensures.adds.called c.read_name.ensures.looks.rests c.read_name.ensures.looks.failed_reads c.read_name.ensures.looks.write_faults
    usable c.read_name.ensures.looks.reads
    (λ l. ap (λ (next : NextFrame). state_in l next.gate next.spilled next.buffer.items new.usable) c.read_name.ensures.looks.next ∙ ap (state_in l mid.next.gate mid.next.spilled mid.next.buffer.items) usable)

pub returns-clause-any_moment : goal.returns-clause-any_moment
returns-clause-any_moment g c = λ told.
    let mid = c.put.new.self in
    then-rests g.D.Disk.seen g.D.Disk.may_leave g.D.Disk.moment g.D.Disk.left_since c.args.self.now.disk mid.disk c.read_name.new.self.disk _ told (c.put.ensures.adds.any_moment told) c.read_name.ensures.looks.rests

-- what was read behind a message more
pub returns-clause-read : goal.returns-clause-read
returns-clause-read g c = λ told lt.
    let log = c.args.self.now in
    let mid = c.put.new.self in
    let new = c.read_name.new.self in
    let counts = g.D.Disk.counts in
    let moves = moves_in (g.D.Disk.seen mid.disk) mid.next mid.names in
    let kept = c.put.ensures.answers.clean_every in
    let some = never-empty (moves_in (g.D.Disk.seen log.disk) log.next log.names).waiting (c.args.pid, place_of log.next) moves.waiting (ap (λ (m : Moves). m.waiting) (c.in_ok-said.ensures.adds.named told lt)) in
    read-ahead log.names mid.names new.names (counts log.disk) (counts mid.disk) (counts new.disk) moves (c.read_name.ensures.read told (omega (arith, lt, kept))) some (ap (λ (n : Names). n.at) c.put.ensures.answers.places) (ap (λ (n : Names). n.ahead) c.put.ensures.answers.places) (ap (λ (n : Names). n.seeks) c.put.ensures.answers.places) c.put.ensures.answers.failed_reads

pub returns-clause-due : goal.returns-clause-due
returns-clause-due g c = λ told.
    let log = c.args.self.now in
    let new = c.read_name.new.self in
    let counts = g.D.Disk.counts in
    let same = c.read_name.ensures.looks.clean_every ∙ c.put.ensures.answers.clean_every in
    due-of-all (length new.pages.items) new.clean_every (g.D.Disk.seen new.disk) new.next log.names new.names (counts log.disk) (counts new.disk) (λ lt. returns-clause-read g c told (omega (arith, lt, same)))
