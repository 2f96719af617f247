-- What the steps do of which the calls of a log are made.
use Rattle.std.specs.Prelude.{◌≡◌, ◌≢◌, ◌≤◌, ◌<◌, ◌+◌, ◌==◌, ◌↔◌, ℕ, ℤ, true, List, [], ◌∷◌, length, if◌then◌else◌, Result, Ok, IfOk, IfErr, OnOk, IsErrOf}
use Rattle.std.specs.List.{AllByRecursion}
use Rattle.sled_base.specs.declared.kinds.MessageKind.{MessageKind}
use Rattle.sled_base.specs.declared.types.DiskPtr.{DiskPtr}
use Rattle.sled_log.specs.Calls.{Appends, Called, can_append}
use Rattle.sled_log.specs.Events.{Event, Seal, Cancel}
use Rattle.sled_log.specs.Limits.{head_size, size_limit}
use Rattle.sled_log.specs.LogState.{now}
use Rattle.sled_log.specs.Messages.{effect_of_entry, message}
use Rattle.sled_log.specs.Moves.{moves_with}
use Rattle.sled_log.specs.Pages.{IsSized}
use Rattle.sled_log.specs.declared.log.Log as log
use Rattle.sled_log.specs.declared.log.LogError.{LogError}
use Rattle.sled_log.specs.declared.log.LogError.TheVariants.{Full, WriteFault, Corruption}
use Rattle.sled_disk.specs.Crash.{BytesLeft}
use Rattle.sled_disk.specs.DiskReads.{Rests}
use Rattle.sled_disk.specs.LogContents.{events_in}
use Rattle.sled_disk.specs.Names.{moves_in}
use Rattle.sled_disk.specs.PendingFrame.{place_of, said_of, events_with, IsDue, IsFullFor}
use Rattle.sled_disk.specs.Reading.{chains_of, effect_of_head}
use Rattle.sled_disk.specs.RecoveredLog.{IsEither}
use Rattle.sled_disk.specs.declared.disk.Disk.{Ghosts}
use Rattle.sled_disk.specs.declared.log.DiskLog.{DiskLog}

-- the mark of a record that closes a batch, by its kind
abbrev pub closing_mark : {E : Type 0} → ℕ → Event E
closing_mark kind = if kind == 13 then Seal else Cancel

module _ {D : Type 0} {g : Ghosts D} where
  -- The log is the same except for its next frame.
  pub record OnlyNext (old new : DiskLog D g) : Type 0 where
    pub disk : new.disk ≡ old.disk
    pub segment_size : new.segment_size ≡ old.segment_size
    pub clean_every : new.clean_every ≡ old.clean_every
    pub pages : new.pages ≡ old.pages
    pub names : new.names ≡ old.names
    pub usable : new.usable ≡ old.usable
    pub reads : new.reads ≡ old.reads

  -- A record of that kind closes the open batch.
  abbrev pub ClosesBatch : log.Ghosts (DiskLog D g) → DiskLog D g → DiskLog D g → ℕ → Type 0
  ClosesBatch l old new kind =
      let closed : Result (Unit {0}) LogError = Ok tt in
      Called g.tells l.state l.moment l.left_since l.counts old new old.reads (λ _. closing_mark kind ∷ []) (closing_mark kind ∷ []) closed

  -- The log only reads its disk, to find the message that is to be named next: all else that it holds is the same.
  pub record LooksAhead (old new : DiskLog D g) : Type 0 where
    pub rests : Rests g.tells g.seen g.may_leave g.moment g.left_since old.disk new.disk
    pub failed_reads : (g.counts old.disk).failed_reads ≤ (g.counts new.disk).failed_reads
    pub write_faults : (g.counts old.disk).write_faults ≤ (g.counts new.disk).write_faults
    pub usable : new.usable ≡ true
    pub reads : new.reads ≡ old.reads
    pub segment_size : new.segment_size ≡ old.segment_size
    pub clean_every : new.clean_every ≡ old.clean_every
    pub pages : new.pages ≡ old.pages
    pub next : new.next ≡ old.next
    pub appended : new.names.appended ≡ old.names.appended

  -- A message of a page was added as `append` adds it, and written if a segment was full: the events of the log, what a crash leaves of its
  -- file, and the messages that it has still to name.
  pub record AddsMessage (l : log.Ghosts (DiskLog D g)) (old new : DiskLog D g) (kind : MessageKind) (pid : ℕ) (payload : List ℕ) (result : Result (ℤ × DiskPtr × ℕ) LogError) : Type 0 where
    pub called : Appends g.tells l.state l.moment l.left_since l.counts old new pid (message kind payload) result
    pub any_moment : g.tells → BytesLeft g.moment g.left_since old.disk new.disk (IsEither (events_in (g.seen old.disk)) (events_with (g.seen old.disk) old.next kind pid payload))
    pub sized : g.tells → OnOk result (AllByRecursion IsSized (now effect_of_entry (l.state new)))
    pub written : OnOk result (IsDue old.segment_size old.next (length payload) ↔ (l.to_write new ≡ 0))
    pub named : g.tells → OnOk result (0 < old.clean_every → moves_in (g.seen new.disk) new.next new.names ≡ moves_with (moves_in (g.seen old.disk) old.next old.names) ((pid, place_of old.next) ∷ []))

  -- What such a step answers, and what it leaves of the rest: no message was looked for, and nothing was read.
  pub record AnswersMessage (old new : DiskLog D g) (kind : MessageKind) (pid : ℕ) (payload : List ℕ) (result : Result (ℤ × DiskPtr × ℕ) LogError) : Type 0 where
    pub size : IfOk result (λ said. (said.2 ≡ head_size + length payload) × (said.2 < size_limit))
    pub full : IsErrOf result Full ↔ IsFullFor old.next (length payload)
    pub sound : can_append effect_of_head (chains_of old.pages.items) pid kind ≡ true → IsErrOf result Corruption → ⊥
    pub segment_size : new.segment_size ≡ old.segment_size
    pub clean_every : new.clean_every ≡ old.clean_every
    pub said : IfOk result (λ said. said ≡ said_of old.next payload)
    pub unnamed : g.tells → IfErr result (λ e. e ≢ WriteFault → moves_in (g.seen new.disk) new.next new.names ≡ moves_in (g.seen old.disk) old.next old.names)
    pub counted : OnOk result (0 < old.clean_every → new.names.appended ≡ old.names.appended + 1)
    pub kept : IfErr result (λ e. e ≢ WriteFault → new.names ≡ old.names)
    pub places : new.names ≡ record old.names { appended = new.names.appended }
    pub failed_reads : (g.counts old.disk).failed_reads ≤ (g.counts new.disk).failed_reads
    pub disk_reads : (g.counts new.disk).reads ≡ (g.counts old.disk).reads
