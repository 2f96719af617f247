use Rattle.std.proofs.Common.{◌≡◌, ◌+◌, ℕ, List, [], ◌++◌, true, false, length, refl, ap, sym, ◌∙◌, subst, arith}
use Rattle.std.specs.Prelude.{Option, Some, None, Result, Ok, Err, OnOk}
use Rattle.std.specs.Global.{Vec}
use Rattle.std.proofs.lemmas.List.{append-nil}
use Rattle.sled_log.specs.Chains.{chains_after}
use Rattle.sled_log.specs.Events.{Event}
use Rattle.sled_log.specs.LogState.{LogState}
use Rattle.sled_log.specs.Messages.{Entry, effect_of_entry}
use Rattle.sled_disk.specs.declared.recovery.head.Head.{Head}
use Rattle.sled_disk.specs.declared.format.next_frame.NextFrame.{NextFrame}
use Rattle.sled_disk.specs.declared.reader.Reader.{Reader}
use Rattle.sled_disk.specs.Abandoned.{IsReadTo, place_of_begun, room_behind}
use Rattle.sled_disk.specs.AbandonedLaws.{file-described}
use Rattle.sled_disk.specs.Format.{Record}
use Rattle.sled_disk.specs.ReaderState.{begun_by, read_by}
use Rattle.sled_disk.specs.Names.{messages_in}
use Rattle.sled_disk.specs.RecoveredHeads.{AreRead, AllEndBy}
use Rattle.sled_disk.specs.Reading.{Read, chains_of}
use Rattle.sled_disk.specs.RecoveredLogLaws.{none-behind}
use Rattle.sled_disk.specs.LogContents.{Stands, events_in, records_behind}
use Rattle.sled_disk.specs.LogContentsLaws.{file-read}
use Rattle.sled_disk.specs.PendingFrame.{pending_of, place_of, batch_of}
use Rattle.sled_disk.proofs.Chains.LogHeads.{all-later}
use Rattle.sled_disk.proofs.Moves.SearchProgress.{looked-first}
use Rattle.sled_disk.proofs.LogCalls.UnchangedMeaning.{mean-after}
use Rattle.sled_disk.proofs.Moves.SearchSteps.{counted-all, frames-end}
use Rattle.sled_disk.proofs.Moves.MovesAfterCalls.{among-first, waiting-all}
use Rattle.sled_disk.proofs.Frames.WrittenFrame.{none-waits, closed-batch}
use Rattle.sled_disk.proofs.log.DiskLog.open_with.Goals as goal

begun-place : (begun : Option ℕ) (inside : List (ℕ × Head)) → place_of_begun (begun_by begun inside) ≡ begun
begun-place None inside = refl
begun-place (Some place) inside = refl

pub returns-in-Err-clause-corrupt : goal.returns-in-Err-clause-corrupt
returns-in-Err-clause-corrupt g c = λ told is. c.in-Err.ensures.corrupt told (ap (λ e. Err e) is)

-- an answer that is no error
not_err : {T E A : Type 0} (r : Result T E) → ((e : E) → r ≡ Err e → ⊥) → OnOk r A → A
not_err (Ok x) no_error a = a
not_err (Err e) no_error a = absurd (no_error e refl)

-- so far the file was read
read-to : (first seen : List ℕ) (gate : ℕ) (begun : Option ℕ) (reader : Reader) → seen ≡ first → AreRead first gate (read_by reader) → begun ≡ reader.begun → IsReadTo seen gate begun (read_by reader)
read-to first seen gate begun reader same are is = record {
  are = subst (λ (l : List ℕ). AreRead l gate (read_by reader)) (sym same) are;
  place = begun-place reader.begun reader.changes.items ∙ sym is;
}

-- the log of it stands
opened-stands : (first seen after : List ℕ) (gate : ℕ) (begun : Option ℕ) (reader : Reader) (next : NextFrame) (pages : Vec (Vec Head)) → seen ≡ first → AreRead first gate (read_by reader) → begun ≡ reader.begun
    → next.gate ≡ gate + room_behind begun → next.spilled ≡ false → next.batch ≡ false → length next.buffer.items ≡ 8 → pages ≡ reader.pages
    → ((read : Read) → IsReadTo seen gate begun read → Stands after (gate + room_behind begun) false [] None read.settled)
    → Stands after next.gate next.spilled (records_behind next.buffer.items) (batch_of next) (chains_of pages.items)
opened-stands first seen after gate begun reader next pages same are is place spilled batch long kept finished =
    subst (λ n. Stands after n next.spilled (records_behind next.buffer.items) (batch_of next) (chains_of pages.items)) (sym place)
    (subst (λ b. Stands after (gate + room_behind begun) b (records_behind next.buffer.items) (batch_of next) (chains_of pages.items)) (sym spilled)
    (subst (λ (rs : List Record). Stands after (gate + room_behind begun) false rs (batch_of next) (chains_of pages.items)) (sym (none-behind next.buffer.items (omega (arith, long))))
    (subst (λ (b : Option ℕ). Stands after (gate + room_behind begun) false [] b (chains_of pages.items)) (sym (closed-batch next batch))
    (subst (λ (p : Vec (Vec Head)). Stands after (gate + room_behind begun) false [] None (chains_of p.items)) (sym kept)
    (finished (read_by reader) (read-to first seen gate begun reader same are is))))))

pub returns-in-Err-finish-clause-left : goal.returns-in-Err-finish-clause-left
returns-in-Err-finish-clause-left g c = mean-after (λ disk left told may. g.met.D.Disk.left_now disk left told may) (λ disk t u left told le was. g.met.D.Disk.since_earlier disk t u left told le was) c.args.disk c.read.new.disk c.finish.new.disk c.in-Ok.ensures.rests c.in-Err-finish.ensures.stop

pub invariant_of-result-clause-stands : goal.invariant_of-result-clause-stands
invariant_of-result-clause-stands g c = λ told usable.
    let next = c.in-Ok-new.next in
    opened-stands (g.D.Disk.seen c.args.disk) (g.D.Disk.seen c.read.new.disk) (g.D.Disk.seen c.finish.new.disk) c.in-Ok.gate c.begun-begun.result c.read.new.self next c.into_pages-pages.result (c.in-Ok.ensures.rests.same told) (c.in-Ok.ensures.read told) c.begun-begun.ensures
    (c.in-Ok-new.ensures.gate ∙ c.gate_behind.ensures) c.in-Ok-new.ensures.spilled c.in-Ok-new.ensures.batch c.in-Ok-new.ensures.buffer c.into_pages-pages.ensures (not_err c.finish.result c.in_default-finish.not-Err (c.finish.ensures.stands told))

pub invariant_of-result-clause-ends : goal.invariant_of-result-clause-ends
invariant_of-result-clause-ends g c = λ usable.
    let next = c.in-Ok-new.next in
    let gate = c.in-Ok-new.ensures.gate ∙ c.gate_behind.ensures in
    subst (λ (p : Vec (Vec Head)). AllEndBy (place_of next) (chains_of p.items)) (sym c.into_pages-pages.ensures) (all-later c.in-Ok.gate (place_of next) (chains_of c.read.new.self.pages.items) (omega (arith, gate)) c.in-Ok.ensures.ends)

pub invariant_of-result-clause-stood : goal.invariant_of-result-clause-stood
invariant_of-result-clause-stood g c = λ told usable. among-first (g.D.Disk.seen c.finish.new.disk) (records_behind c.in-Ok-new.next.buffer.items) c.new-2.result.gate c.new-2.result.at c.new-2.ensures.gate c.new-2.ensures.at

pub invariant_of-result-clause-looked : goal.invariant_of-result-clause-looked
invariant_of-result-clause-looked g c = λ told usable.
    let next = c.in-Ok-new.next in
    let after = g.D.Disk.seen c.finish.new.disk in
    let long = c.in-Ok-new.ensures.buffer in
    let stands = opened-stands (g.D.Disk.seen c.args.disk) (g.D.Disk.seen c.read.new.disk) after c.in-Ok.gate c.begun-begun.result c.read.new.self next c.into_pages-pages.result (c.in-Ok.ensures.rests.same told) (c.in-Ok.ensures.read told) c.begun-begun.ensures
    (c.in-Ok-new.ensures.gate ∙ c.gate_behind.ensures) c.in-Ok-new.ensures.spilled c.in-Ok-new.ensures.batch c.in-Ok-new.ensures.buffer c.into_pages-pages.ensures (not_err c.finish.result c.in_default-finish.not-Err (c.finish.ensures.stands told)) in
    let ends = frames-end after next.gate next.spilled (records_behind next.buffer.items) (batch_of next) (chains_of c.into_pages-pages.result.items) (λ i. g.met.D.Disk.are_bytes c.finish.new.disk i told) stands in
    let own = c.new-2.ensures.own ∙ c.gate.ensures in
    looked-first after (records_behind next.buffer.items) c.new-2.result (none-behind next.buffer.items (omega (arith, long))) (omega (arith, ends, own)) c.new-2.ensures.at c.new-2.ensures.seeks

-- what a log is said to be by what its disk gives and what is pending
abbrev said : List (Event Entry) → List (Event Entry) → LogState Entry
said events pending = record { stable = chains_after effect_of_entry [] events; pending = pending; usable = true }

pub returns-clause-opened : goal.returns-clause-opened
returns-clause-opened g c = λ told.
    let seen = g.D.Disk.seen c.args.disk in
    let next = c.in-Ok-new.next in
    let are = c.in-Ok.ensures.read told in
    let after = g.D.Disk.seen c.finish.new.disk in
    let same = not_err c.finish.result c.in_default-finish.not-Err (c.finish.ensures.says told) ∙ ap (λ (l : List ℕ). events_in l) (c.in-Ok.ensures.rests.same told) in
    let long = c.in-Ok-new.ensures.buffer in
    let none = none-waits after next (omega (arith, long)) (sym next.batch_is ∙ c.in-Ok-new.ensures.batch) in (
      events_in seen,
      (c.in-Ok.gate, file-described seen c.in-Ok.gate (read_by c.read.new.self) (file-read seen c.in-Ok.gate (read_by c.read.new.self) (λ i. g.met.D.Disk.are_bytes c.args.disk i told) are.opens are.found)),
      ap (λ (l : List (Event Entry)). said l (pending_of after next)) same ∙ ap (said (events_in seen)) none,
    )

pub returns-clause-none : goal.returns-clause-none
returns-clause-none g c = let next = c.in-Ok-new.next in let long = c.in-Ok-new.ensures.buffer in none-waits (g.D.Disk.seen c.finish.new.disk) next (omega (arith, long)) (sym next.batch_is ∙ c.in-Ok-new.ensures.batch)

pub returns-clause-waiting : goal.returns-clause-waiting
returns-clause-waiting g c = λ told.
    let next = c.in-Ok-new.next in
    let after = g.D.Disk.seen c.finish.new.disk in
    let same = not_err c.finish.result c.in_default-finish.not-Err (c.finish.ensures.says told) ∙ ap (λ (l : List ℕ). events_in l) (c.in-Ok.ensures.rests.same told) in
    let long = c.in-Ok-new.ensures.buffer in
    let none = none-waits after next (omega (arith, long)) (sym next.batch_is ∙ c.in-Ok-new.ensures.batch) in
    let stands = opened-stands (g.D.Disk.seen c.args.disk) (g.D.Disk.seen c.read.new.disk) (g.D.Disk.seen c.finish.new.disk) c.in-Ok.gate c.begun-begun.result c.read.new.self next c.into_pages-pages.result (c.in-Ok.ensures.rests.same told) (c.in-Ok.ensures.read told) c.begun-begun.ensures
    (c.in-Ok-new.ensures.gate ∙ c.gate_behind.ensures) c.in-Ok-new.ensures.spilled c.in-Ok-new.ensures.batch c.in-Ok-new.ensures.buffer c.into_pages-pages.ensures (not_err c.finish.result c.in_default-finish.not-Err (c.finish.ensures.stands told)) in
    let counts = counted-all after next.gate next.spilled next.buffer.items (batch_of next) (chains_of c.into_pages-pages.result.items) (λ i. g.met.D.Disk.are_bytes c.finish.new.disk i told) stands next.own
    ∙ ap (λ (l : List (Event Entry)). messages_in (events_in after ++ l)) none ∙ ap messages_in (append-nil (events_in after)) in
    waiting-all after next c.new-2.result c.new-2.ensures.at c.new-2.ensures.read counts none ∙ ap messages_in same

pub returns-clause-any_moment : goal.returns-clause-any_moment
returns-clause-any_moment g c = mean-after (λ disk left told may. g.met.D.Disk.left_now disk left told may) (λ disk t u left told le was. g.met.D.Disk.since_earlier disk t u left told le was) c.args.disk c.read.new.disk c.finish.new.disk c.in-Ok.ensures.rests c.finish.ensures.stop
