use Rattle.std.proofs.Common.{◌-◌, ◌≤◌, ℕ, List, Result, Ok, Err, arith}
use Rattle.std.specs.Prelude.{IfOk, IfErr, min}
use Rattle.sled_log.specs.LogState.{unplaced_state}
use Rattle.sled_log.specs.Messages.{Messages}
use Rattle.sled_log.specs.Runs.{events_of_all}
use Rattle.sled_disk.specs.declared.disk.memory.MemDisk.{MemDisk}
use Rattle.sled_disk.specs.DiskMemory.{calls_of, clock_of, might_have_left}
use Rattle.sled_disk.specs.Journal.{all_synced}
use Rattle.sled_disk.specs.JournalLaws.{left_earlier}
use Rattle.sled_disk.specs.Pending.{state_in}
use Rattle.sled_disk.specs.RecoveredLog.{LeavesPages}
use Rattle.sled_disk.proofs.Chains.PageCounts.{not-all-left}
use Rattle.sled_disk.proofs.laws.crashes.what_was_flushed_is_there.Goals as goal

if_ok : {T E : Type 0} (P Q : T → Type 0) (r : Result T E) → ((x : T) → P x → Q x) → IfOk r P → IfOk r Q
if_ok P Q (Ok x) f p = f x p
if_ok P Q (Err e) f p = _

if_err : {T E : Type 0} (P Q : E → Type 0) (r : Result T E) → ((e : E) → P e → Q e) → IfErr r P → IfErr r Q
if_err P Q (Ok x) f p = _
if_err P Q (Err e) f p = f e p

-- what was left since a moment was left since an earlier one
earlier : (disk : MemDisk) (t u : ℕ) (pages : List Messages) → t ≤ u → LeavesPages (might_have_left disk u) pages → LeavesPages (might_have_left disk t) pages
earlier disk t u pages le l = (l.0, left_earlier (all_synced disk.start.items) (calls_of disk) t u l.0 le l.1, l.2)

pub returns-clause-prefix : goal.returns-clause-prefix
returns-clause-prefix c =
    let stop = c.make_calls-whatever_they_answer.ensures.stop in
    let new = c.make_calls-whatever_they_answer.new.log in
    let later = stop.later in
    let since = c.requires.since in
    let le : clock_of c.args.log.disk ≤ min (c.args.n - 1) (clock_of new.disk) = omega (arith, later, since) in
    if_ok _ _ c.reopen_after_a_crash.result (λ log left. stop.each _ (earlier new.disk (clock_of c.args.log.disk) (min (c.args.n - 1) (clock_of new.disk)) _ le left)) c.reopen_after_a_crash.ensures.left

pub returns-clause-sound : goal.returns-clause-sound
returns-clause-sound c =
    let stop = c.make_calls-whatever_they_answer.ensures.stop in
    let new = c.make_calls-whatever_they_answer.new.log in
    let old = c.args.log in
    let later = stop.later in
    let since = c.requires.since in
    let le : clock_of c.args.log.disk ≤ min (c.args.n - 1) (clock_of new.disk) = omega (arith, later, since) in
    if_err _ _ c.reopen_after_a_crash.result
    (λ e any is. not-all-left (unplaced_state (state_in old.disk.bytes.items old.next.gate old.next.spilled old.next.buffer.items old.usable)) (events_of_all c.args.calls.now)
    (λ pages. stop.each pages (earlier new.disk (clock_of old.disk) (min (c.args.n - 1) (clock_of new.disk)) pages le (any is pages)))) c.reopen_after_a_crash.ensures.sound
