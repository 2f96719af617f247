-- A log in whose next frame a record was put behind the others.
use Rattle.std.proofs.Common.{◌≡◌, ◌⊎◌, inl, inr, ℕ, ◌+◌, ◌≤◌, ◌<◌, ◌^◌, Bool, true, false, List, ◌∷◌, [], ◌++◌, length, refl, ap, sym, ◌∙◌, subst}
use Rattle.std.specs.Prelude.{Option, ◌==◌}
use Rattle.sled_log.specs.Events.{Event, open_after}
use Rattle.sled_log.specs.Messages.{Message}
use Rattle.sled_disk.specs.declared.disk.Disk.{Ghosts}
use Rattle.sled_disk.specs.declared.format.next_frame.NextFrame.{NextFrame}
use Rattle.sled_disk.specs.declared.log.DiskLog.{DiskLog}
use Rattle.sled_disk.specs.declared.log.names.Names.{Names}
use Rattle.sled_disk.specs.declared.recovery.head.Head.{Head}
use Rattle.sled_disk.specs.CountedMessages.{IsLooked}
use Rattle.sled_disk.specs.Cursor.{IsAmong}
use Rattle.sled_disk.specs.Format.{Record, IsBytes, body, closing_record, is_closing}
use Rattle.sled_disk.specs.LogContents.{Stands, records_behind}
use Rattle.sled_disk.specs.LogSteps.{closing_mark}
use Rattle.sled_disk.specs.Pending.{is_own, pending_in, pending_event}
use Rattle.sled_disk.specs.PendingFrame.{place_of, batch_of}
use Rattle.sled_disk.specs.Reading.{chains_of}
use Rattle.sled_disk.specs.RecoveredHeads.{AllEndBy}
use Rattle.sled_disk.proofs.Chains.LogHeads.{all-later}
use Rattle.sled_disk.proofs.Frames.RecordAppend.{closing-stands, waiting-more}
use Rattle.sled_disk.proofs.Frames.WrittenFrame.{open-batch, closed-batch}
use Rattle.sled_disk.proofs.Moves.MovesAfterCalls.{among-more}
use Rattle.sled_disk.proofs.Moves.SearchProgress.{looked-more}

-- the record stands behind those that were pending
pub record IsMore (old new : NextFrame) (r : Record) : Type 0 where
  pub gate : new.gate ≡ old.gate
  pub spilled : new.spilled ≡ old.spilled
  pub records : records_behind new.buffer.items ≡ records_behind old.buffer.items ++ r ∷ []

module _ {old new : NextFrame} {r : Record} (m : IsMore old new r) (seen : List ℕ) where
  pub more-waits : (after : List ℕ) → after ≡ seen
      → pending_in after new.gate new.spilled new.buffer.items ≡ pending_in seen old.gate old.spilled old.buffer.items ++ pending_event ((old.gate + 9) + length (body (records_behind old.buffer.items))) r
  more-waits after same =
      ap (λ (l : List ℕ). pending_in l new.gate new.spilled new.buffer.items) same ∙ ap (λ n. pending_in seen n new.spilled new.buffer.items) m.gate ∙ ap (λ b. pending_in seen old.gate b new.buffer.items) m.spilled
      ∙ waiting-more seen old.gate old.spilled old.buffer.items new.buffer.items r m.records

  pub more-stands : (batch : Option ℕ) (heads : List (List Head)) → batch_of new ≡ batch → Stands seen old.gate old.spilled (records_behind new.buffer.items) batch heads → Stands seen new.gate new.spilled (records_behind new.buffer.items) (batch_of new) heads
  more-stands batch heads is s =
      subst (λ n. Stands seen n new.spilled (records_behind new.buffer.items) (batch_of new) heads) (sym m.gate)
      (subst (λ b. Stands seen old.gate b (records_behind new.buffer.items) (batch_of new) heads) (sym m.spilled)
      (subst (λ (b : Option ℕ). Stands seen old.gate old.spilled (records_behind new.buffer.items) b heads) (sym is) s))

  pub more-stood : (gate at : ℕ) → IsAmong seen (records_behind old.buffer.items) gate at → IsAmong seen (records_behind new.buffer.items) gate at
  more-stood gate at s = subst (λ (l : List Record). IsAmong seen l gate at) (sym m.records) (among-more seen (records_behind old.buffer.items) r gate at s)

  pub more-looked : (names : Names) → is_own r ≡ true → IsAmong seen (records_behind old.buffer.items) names.gate names.at → IsLooked seen (records_behind old.buffer.items) names → IsLooked seen (records_behind new.buffer.items) names
  more-looked names own s k = subst (λ (l : List Record). IsLooked seen l names) (sym m.records) (looked-more seen (records_behind old.buffer.items) r names own s k)

-- the batch was closed
pub closed-stands : {old new : NextFrame} (kind : ℕ) → IsMore old new (closing_record kind old.batch_place) → (seen : List ℕ) (heads : List (List Head))
    → IsBytes seen → is_closing kind ≡ true → kind == 14 ≡ false → old.batch ≡ true → old.batch_place < 2 ^ 64 → new.batch ≡ false
    → Stands seen old.gate old.spilled (records_behind old.buffer.items) (batch_of old) heads → Stands seen new.gate new.spilled (records_behind new.buffer.items) (batch_of new) heads
closed-stands {old = old} {new = new} kind m seen heads fits closing kept opened small closed s =
    more-stands m seen _ heads (closed-batch new closed) (closing-stands seen old.gate old.spilled old.buffer.items new.buffer.items (batch_of old) old.batch_place kind heads fits (open-batch old opened) small closing kept s m.records)

-- ---- a record that marks a batch

-- what a log keeps with that frame: its records end in it, and where it stands among them and has looked is the same
pub record StandsWith {D : Type 0} {g : Ghosts D} (log : DiskLog D g) (next : NextFrame) : Type 0 where
  pub ends : log.usable ≡ true → AllEndBy (place_of next) (chains_of log.pages.items)
  pub stood : g.tells → log.usable ≡ true → IsAmong (g.seen log.disk) (records_behind next.buffer.items) log.names.gate log.names.at
  pub looked : g.tells → log.usable ≡ true → IsLooked (g.seen log.disk) (records_behind next.buffer.items) log.names

pub marked : {D : Type 0} {g : Ghosts D} (log : DiskLog D g) (next : NextFrame) (r : Record) → IsMore log.next next r → is_own r ≡ true → place_of log.next ≤ place_of next → StandsWith log next
marked {g = g} log next r m own later = record {
  ends = λ usable. all-later (place_of log.next) (place_of next) (chains_of log.pages.items) later (log.ends usable);
  stood = λ told usable. more-stood m (g.seen log.disk) log.names.gate log.names.at (log.stood told usable);
  looked = λ told usable. more-looked m (g.seen log.disk) log.names own (log.stood told usable) (log.looked told usable);
}

-- one that closes it, of a kind that the log writes
pub record Closes (kind : ℕ) : Type 0 where
  pub closing : is_closing kind ≡ true
  pub kept : kind == 14 ≡ false
  pub own : (place : ℕ) → is_own (closing_record kind place) ≡ true
  pub event : (at place : ℕ) → pending_event at (closing_record kind place) ≡ closing_mark kind ∷ []
  pub shuts : (was : Bool) → (let mark : Event Message = closing_mark kind in open_after was (mark ∷ []) ≡ false)

pub closes : (kind : ℕ) → (kind ≡ 13) ⊎ (kind ≡ 1) → Closes kind
closes kind (inl sealed) = subst Closes (sym sealed) (record { closing = refl; kept = refl; own = λ place. refl; event = λ at place. refl; shuts = λ was. refl })
closes kind (inr cancelled) = subst Closes (sym cancelled) (record { closing = refl; kept = refl; own = λ place. refl; event = λ at place. refl; shuts = λ was. refl })
