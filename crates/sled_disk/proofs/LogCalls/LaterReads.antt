-- A call of a log, behind which its disk is read.
use Rattle.std.proofs.Common.{◌≡◌, ℕ, ◌≤◌, List, ap, sym, ◌∙◌, subst, le_trans}
use Rattle.std.specs.Prelude.{Result, Ok}
use Rattle.sled_log.specs.Calls.{Called, Counts}
use Rattle.sled_log.specs.Events.{is_open, Event}
use Rattle.sled_log.specs.LogState.{LogState, Adds}
use Rattle.sled_log.specs.Messages.{Message, Messages, Entry, effect_of_entry}
use Rattle.sled_log.specs.declared.log.LogError.{LogError}
use Rattle.sled_disk.specs.declared.disk.Disk.{Ghosts}
use Rattle.sled_disk.specs.declared.log.DiskLog.{DiskLog}
use Rattle.sled_disk.specs.Crash.{BytesLeft}
use Rattle.sled_disk.specs.DiskReads.{Rests}
use Rattle.sled_disk.specs.Pending.{state_in}
use Rattle.sled_disk.specs.RecoveredLog.{LeavesPages}
use Rattle.sled_disk.proofs.LogCalls.CallOutcomes.{opens-by}

-- a disk that was called, and then read at most
pub then-rests : {D : Type 0} (seen : D → List ℕ) (may_leave : D → List ℕ → Type 0) (moment : D → ℕ) (left_since : D → ℕ → List ℕ → Type 0) {tells : Type 0} (old mid new : D) (P : List ℕ → Type 0) → tells
    → BytesLeft moment left_since old mid P → Rests tells seen may_leave moment left_since mid new → BytesLeft moment left_since old new P
then-rests seen may_leave moment left_since old mid new P told l r = record {
  later = le_trans l.later (r.later told);
  each = λ left was. l.each left (r.nothing_else told (moment old) left l.later was);
  before = λ t left le was. l.before t left le (r.nothing_else told t left (le_trans le l.later) was);
  kept = λ t left le was. r.kept told t left (le_trans le l.later) (l.kept t left le was);
}

-- and a log
module _ {D : Type 0} (g : Ghosts D) where
  abbrev states : DiskLog D g → LogState Entry
  states log = state_in (g.seen log.disk) log.next.gate log.next.spilled log.next.buffer.items log.usable

  abbrev moments : DiskLog D g → ℕ
  moments log = g.moment log.disk

  abbrev lefts : DiskLog D g → ℕ → List Messages → Type 0
  lefts log t pages = LeavesPages (g.left_since log.disk t) pages

  abbrev counted : DiskLog D g → Counts
  counted log = record { reads = log.reads; failed_reads = (g.counts log.disk).failed_reads; write_faults = (g.counts log.disk).write_faults }

  pub called-then : {T : Type 0} (old mid new : DiskLog D g) (count : ℕ) (events : T → List (Event Entry)) (begun : List (Event Message)) (said : T)
      → (let result : Result T LogError = Ok said in Called g.tells states moments lefts counted old mid count events begun result)
      → Rests g.tells g.seen g.may_leave g.moment g.left_since mid.disk new.disk → (g.counts mid.disk).failed_reads ≤ (g.counts new.disk).failed_reads → (g.counts mid.disk).write_faults ≤ (g.counts new.disk).write_faults
      → new.usable ≡ mid.usable → new.reads ≡ mid.reads → ((l : List ℕ) → state_in l new.next.gate new.next.spilled new.next.buffer.items new.usable ≡ state_in l mid.next.gate mid.next.spilled mid.next.buffer.items mid.usable)
      → (let result : Result T LogError = Ok said in Called g.tells states moments lefts counted old new count events begun result)
  called-then old mid new count events begun said c r failed faults usable reads same = record {
    usable = usable ∙ c.usable;
    opened = λ clear.
        ap (λ (s : LogState Entry). is_open s.pending) (same (g.seen new.disk))
        ∙ opens-by (g.seen new.disk) mid.next.gate mid.next.spilled mid.next.buffer.items ∙ sym (opens-by (g.seen mid.disk) mid.next.gate mid.next.spilled mid.next.buffer.items)
        ∙ c.opened clear;
    cause = record {
      failed_reads = le_trans c.cause.failed_reads failed;
      write_faults = le_trans c.cause.write_faults faults;
      read = λ is. cc;
      write = λ is. cc;
    };
    reads = reads ∙ c.reads;
    added = λ told. subst (λ (s : LogState Entry). Adds effect_of_entry (states old) (events said) s)
        (sym (same (g.seen new.disk) ∙ ap (λ (l : List ℕ). state_in l mid.next.gate mid.next.spilled mid.next.buffer.items mid.usable) (r.same told))) (c.added told);
    refused = λ _. tt;
    stop = λ told. let s = c.stop told in record {
      later = le_trans s.later (r.later told);
      each = λ pages left. s.each pages (left.0, r.nothing_else told (moments old) left.0 s.later left.1, left.2);
      before = λ t pages le left. s.before t pages le (left.0, r.nothing_else told t left.0 (le_trans le s.later) left.1, left.2);
      kept = λ t pages le left. let k = s.kept t pages le left in (k.0, r.kept told t k.0 (le_trans le s.later) k.1, k.2);
    };
    sound = λ told is. cc;
  }
