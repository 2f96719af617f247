-- What a call of a log does.
use Rattle.std.specs.Prelude.{ℤ, ◌∷◌, ◌≡◌, ◌⊎◌, ◌+◌, ◌<◌, ◌≤◌, ℕ, Bool, true, false, not, nat_lt, nat_le, ◌==◌, List, [], length, slice_index_or, Result, Ok, Err, IfOk, OnErr, IsErrOf, if◌then◌else◌, None}
use Rattle.sled_base.specs.declared.types.DiskPtr.{DiskPtr}
use Rattle.sled_base.specs.declared.kinds.LogKind.{LogKind}
use Rattle.sled_base.specs.declared.kinds.MessageKind.{MessageKind}
use Rattle.sled_base.specs.declared.kinds.MessageKind.TheVariants as kinds
use Rattle.sled_log.specs.Events.{is_open, open_after, Event, Change, Pin, Seal, Cancel}
use Rattle.sled_log.specs.Chains.{is_empty}
use Rattle.sled_log.specs.Limits.{most_count}
use Rattle.sled_log.specs.Messages.{Message, Entry, Messages, effect_of, effect_of_entry, placed_entry}
use Rattle.sled_log.specs.LogState.{LogState, Adds, IsLeft, unplaced_state, CrashesSinceLeave}
use Rattle.sled_log.specs.declared.log.LogError.{LogError}
use Rattle.sled_log.specs.declared.log.LogError.TheVariants.{Memory, Full, ReadFault, WriteFault, Corruption}
use Rattle.sled_base.specs.declared.types.Device.TheVariants.{Read, Write}
use Rattle.sled_base.specs.declared.types.Refusal.{Refusal}
use Rattle.sled_base.specs.declared.types.Refusal.TheVariants as refusals
use Rattle.sled_base.specs.declared.types.Why.TheVariants.{LogFull}

-- Whether a message of that kind may be appended for a page: one that puts a content if the page exists or is the next new one,
-- `Free` if the page exists, and a link if it has a content. No other kind may be appended: blobs and the rest are the log's own.
abbrev pub can_append : {E : Type 0} → (E → LogKind) → List (List E) → ℕ → MessageKind → Bool
can_append effect pages pid kinds.Free = nat_lt pid (length pages)
can_append effect pages pid kinds.Counter = nat_le pid (length pages)
can_append effect pages pid kinds.InlineMeta = nat_le pid (length pages)
can_append effect pages pid kinds.InlineNode = nat_le pid (length pages)
can_append effect pages pid kinds.InlineLink = not (is_empty effect (slice_index_or pages pid []))
can_append effect pages pid kind = false

-- The events of a call that a crash may find: none, if the call fails with an error other than WriteFault.
abbrev pub begun_by : {T : Type 0} → Result T LogError → List (Event Message) → List (Event Message)
begun_by (Ok _) events = events
begun_by (Err WriteFault) events = events
begun_by (Err Memory) events = []
begun_by (Err Full) events = []
begun_by (Err ReadFault) events = []
begun_by (Err Corruption) events = []

-- How often a log was read, how often a read failed, and how often a write or sync failed. Each count stops at the greatest u64.
pub record Counts : Type 0 where
  pub reads : ℕ
  pub failed_reads : ℕ
  pub write_faults : ℕ

-- one more, or the greatest u64
abbrev pub one_more : ℕ → ℕ
one_more n = if n == most_count then n else n + 1

-- the count grew, or has reached the greatest u64
abbrev pub HasGrown : ℕ → ℕ → Type 0
HasGrown old new = (old < new) ⊎ (new ≡ most_count)

-- A fault is reported only if its count grew, and no count decreases.
pub record HasCause {T : Type 0} (old new : Counts) (result : Result T LogError) : Type 0 where
  pub failed_reads : old.failed_reads ≤ new.failed_reads
  pub write_faults : old.write_faults ≤ new.write_faults
  pub read : IsErrOf result ReadFault → HasGrown old.failed_reads new.failed_reads
  pub write : IsErrOf result WriteFault → HasGrown old.write_faults new.write_faults

-- whether the call met a write fault
abbrev pub is_write_fault : {T : Type 0} → Result T LogError → Bool
is_write_fault (Ok _) = false
is_write_fault (Err Memory) = false
is_write_fault (Err Full) = false
is_write_fault (Err ReadFault) = false
is_write_fault (Err WriteFault) = true
is_write_fault (Err Corruption) = false

-- What a call does that adds these events if it returns Ok, and that begins these messages and marks.
--
-- Whatever the device does: a WriteFault makes the log unusable, and otherwise the marks that were begun determine whether a
-- batch is open; each fault has its cause; and the log's count of reads is `count` afterwards.
--
-- If the device tells its bytes: at Ok the events were added, and at an error other than WriteFault none was. A crash at any
-- moment of the call leaves what was durable, and a prefix, up to a fair cut, of what was pending and begun. Corruption is never
-- returned.
pub record Called {L T : Type 0} (tells : Type 0) (state : L → LogState Entry) (moment : L → ℕ) (left_since : L → ℕ → List Messages → Type 0) (counts : L → Counts) (old new : L) (count : ℕ) (events : T → List (Event Entry)) (begun : List (Event Message)) (result : Result T LogError) : Type 0 where
  pub usable : (state new).usable ≡ not (is_write_fault result)
  pub opened : is_write_fault result ≡ false → is_open (state new).pending ≡ open_after (is_open (state old).pending) (begun_by result begun)
  pub cause : HasCause (counts old) (counts new) result
  pub reads : (counts new).reads ≡ count
  pub added : tells → IfOk result (λ answer. Adds effect_of_entry (state old) (events answer) (state new))
  pub refused : tells → OnErr result (is_write_fault result ≡ false → Adds effect_of_entry (state old) [] (state new))
  pub stop : tells → CrashesSinceLeave moment left_since old new (IsLeft effect_of (unplaced_state (state old)) (begun_by result begun))
  pub sound : tells → IsErrOf result Corruption → ⊥

-- the refusal that a cache returns for an error of its log
abbrev pub refusal_of : LogError → Refusal
refusal_of Memory = refusals.OutOfMemory
refusal_of Full = refusals.Unsupported LogFull
refusal_of ReadFault = refusals.Io Read
refusal_of WriteFault = refusals.Io Write
refusal_of Corruption = refusals.Corruption None

-- ---- What each call of a log does.

module _ {L : Type 0} (tells : Type 0) (state : L → LogState Entry) (moment : L → ℕ) (left_since : L → ℕ → List Messages → Type 0) (counts : L → Counts) where
  -- one that adds a message of a page, and returns its place
  abbrev pub Appends : L → L → ℕ → Message → Result (ℤ × DiskPtr × ℕ) LogError → Type 0
  Appends old new pid message result =
      Called tells state moment left_since counts old new (counts old).reads (λ said. Change pid (placed_entry message said) ∷ []) (Change pid message ∷ []) result

  -- one that adds nothing, and counts as one read of the log
  abbrev pub ReadsOnce : {T : Type 0} → L → L → Result T LogError → Type 0
  ReadsOnce old new result = Called tells state moment left_since counts old new (one_more (counts old).reads) (λ _. []) [] result

  abbrev pub AddsNothing : {T : Type 0} → L → L → Result T LogError → Type 0
  AddsNothing old new result = Called tells state moment left_since counts old new (counts old).reads (λ _. []) [] result

  -- one that adds the mark of a batch
  abbrev pub Pins : L → L → Result (Unit {0}) LogError → Type 0
  Pins old new result = Called tells state moment left_since counts old new (counts old).reads (λ _. Pin ∷ []) (Pin ∷ []) result

  abbrev pub Seals : L → L → Result (Unit {0}) LogError → Type 0
  Seals old new result = Called tells state moment left_since counts old new (counts old).reads (λ _. Seal ∷ []) (Seal ∷ []) result

  abbrev pub Cancels : L → L → Result (Unit {0}) LogError → Type 0
  Cancels old new result = Called tells state moment left_since counts old new (counts old).reads (λ _. Cancel ∷ []) (Cancel ∷ []) result
