use Rattle.std.proofs.Common.{◌≡◌, ℕ, ◌+◌, ◌<◌, Bool, true, List, [], ◌∷◌, ◌++◌, drop, length, sym, ◌∙◌, ap, subst, arith}
use Rattle.std.specs.Prelude.{Option, is_ok}
use Rattle.sled_disk.specs.declared.recovery.head.Head.{Head}
use Rattle.sled_disk.specs.declared.format.next_frame.NextFrame.{NextFrame}
use Rattle.sled_disk.specs.Crash.{IsShutOrOpened, IsWhole}
use Rattle.sled_disk.specs.Format.{IsBytes}
use Rattle.sled_disk.specs.Pending.{frame_in}
use Rattle.sled_disk.specs.Reading.{chains_of, frames_of}
use Rattle.sled_disk.specs.RecoveredLog.{IsEither}
use Rattle.sled_disk.specs.LogContents.{or_none, Stands, records_behind, events_in}
use Rattle.sled_disk.specs.PendingFrame.{place_of, batch_of, events_of}
use Rattle.sled_disk.proofs.Chains.LogHeads.{all-later}
use Rattle.sled_disk.specs.CountedMessages.{counted_messages}
use Rattle.sled_disk.specs.RecoveredLogLaws.{none-behind}
use Rattle.sled_disk.proofs.Moves.SearchProgress.{looked-written, placed-written}
use Rattle.sled_disk.proofs.Moves.SearchSteps.{counted-all}
use Rattle.sled_disk.proofs.Moves.MovesAfterCalls.{among-written}
use Rattle.sled_disk.proofs.Frames.WrittenFrame.{on_ok_by, written-frames, on_ok, on_ok_map, written-stands, written-says, before-or-after, closes, left-so, open-by-batch, open-is, room-small}
use Rattle.sled_disk.proofs.log.DiskLog.write_next.Goals.{After-write-wrote}
use Rattle.sled_disk.proofs.log.DiskLog.write_next.Goals as goal

pub write-wrote-requires-clause-closed : goal.write-wrote-requires-clause-closed
write-wrote-requires-clause-closed g c = λ told.
    let log = c.args.self.now in
    closes (g.D.Disk.seen log.disk) log.next.gate log.next.spilled (records_behind log.next.buffer.items) (batch_of log.next) (chains_of log.pages.items) (λ i. g.met.D.Disk.are_bytes log.disk i told) (log.stands told c.requires.usable)

pub returns-clause-stable : goal.returns-clause-stable
returns-clause-stable g c = λ told.
    let log = c.args.self.now in
    on_ok_map c.write-wrote.result
    (written-says (g.D.Disk.seen log.disk) log.next.gate log.next.spilled log.next.buffer.items (batch_of log.next) (chains_of log.pages.items) (λ i. g.met.D.Disk.are_bytes log.disk i told) (log.stands told c.requires.usable) log.next.are_bytes log.next.parsed c.requires.some (room-small log.next (log.next.fits c.requires.some)) (g.D.Disk.seen c.write-wrote.new.disk))
    (c.write-wrote.ensures.written told)

pub returns-clause-any_moment : goal.returns-clause-any_moment
returns-clause-any_moment g c = λ told.
    let log = c.args.self.now in
    left-so (IsShutOrOpened log.next.gate (frame_in log.next.buffer.items) (g.D.Disk.seen log.disk)) (IsEither (events_in (g.D.Disk.seen log.disk)) (events_of (g.D.Disk.seen log.disk) log.next))
    (before-or-after (g.D.Disk.seen log.disk) log.next.gate log.next.spilled log.next.buffer.items (batch_of log.next) (chains_of log.pages.items) (λ i. g.met.D.Disk.are_bytes log.disk i told) (log.stands told c.requires.usable) log.next.are_bytes log.next.parsed c.requires.some (room-small log.next (log.next.fits c.requires.some)))
    (c.write-wrote.ensures.stop told)

pub returns-clause-batch : goal.returns-clause-batch
returns-clause-batch g c =
    let log = c.args.self.now in
    let next = c.write-wrote.new.self in
    open-by-batch log.next next c.write-wrote.ensures.batch c.write-wrote.ensures.batch_place

-- what was written stands
stands-then : (seen after : List ℕ) (old next : NextFrame) (heads : List (List Head)) → IsBytes seen → Stands seen old.gate old.spilled (records_behind old.buffer.items) (batch_of old) heads → 8 < length old.buffer.items → next.gate ≡ old.gate + 1 + length old.buffer.items
    → length next.buffer.items ≡ 8 → next.batch ≡ old.batch → next.batch_place ≡ old.batch_place → next.spilled ≡ old.batch → IsWhole old.gate (frame_in old.buffer.items) seen after → Stands after next.gate next.spilled (records_behind next.buffer.items) (batch_of next) heads
stands-then seen after old next heads fits stood some gate long batch place spilled whole =
    let same = open-by-batch old next batch place in
    let opened = spilled ∙ sym (open-is old) in
    subst (λ n. Stands after n next.spilled (records_behind next.buffer.items) (batch_of next) heads) (sym gate)
    (subst (λ (b : Option ℕ). Stands after (old.gate + 1 + length old.buffer.items) next.spilled (records_behind next.buffer.items) b heads) (sym same)
    (subst (λ (b : Bool). Stands after (old.gate + 1 + length old.buffer.items) b (records_behind next.buffer.items) (batch_of old) heads) (sym opened)
    (written-stands seen old.gate old.spilled old.buffer.items (batch_of old) heads fits stood old.are_bytes old.parsed some (room-small old (old.fits some)) after next.buffer.items (omega (arith, long)) whole)))

pub invariant_of-self-clause-stands : goal.invariant_of-self-clause-stands
invariant_of-self-clause-stands g c = λ told usable.
    let log = c.args.self.now in
    let ok = sym c.is_ok-self.ensures.value ∙ usable in
    stands-then (g.D.Disk.seen log.disk) (g.D.Disk.seen c.write-wrote.new.disk) log.next c.write-wrote.new.self (chains_of log.pages.items) (λ i. g.met.D.Disk.are_bytes log.disk i told) (log.stands told c.requires.usable) c.requires.some
    (on_ok c.write-wrote.result c.write-wrote.ensures.gate ok) c.write-wrote.ensures.buffer c.write-wrote.ensures.batch c.write-wrote.ensures.batch_place c.write-wrote.ensures.spilled (on_ok c.write-wrote.result (c.write-wrote.ensures.written told) ok)

pub invariant_of-self-clause-durable : goal.invariant_of-self-clause-durable
invariant_of-self-clause-durable g c = λ told usable. on_ok c.write-wrote.result (c.write-wrote.ensures.durable told) (sym c.is_ok-self.ensures.value ∙ usable)

pub invariant_of-self-clause-ends : goal.invariant_of-self-clause-ends
invariant_of-self-clause-ends g c = λ usable.
    let log = c.args.self.now in
    let next = c.write-wrote.new.self in
    let ok = sym c.is_ok-self.ensures.value ∙ usable in
    let gate : next.gate ≡ log.next.gate + 1 + length log.next.buffer.items = on_ok c.write-wrote.result c.write-wrote.ensures.gate ok in
    all-later (place_of log.next) (place_of next) (chains_of log.pages.items) (omega (arith, gate)) (log.ends c.requires.usable)

-- the frames of the file, where it was written
frames : (g : _) (c : After-write-wrote g) → g.D.Disk.tells → is_ok c.write-wrote.result ≡ true
    → (let rs = records_behind c.args.self.now.next.buffer.items in or_none (frames_of (drop 8 (g.D.Disk.seen c.write-wrote.new.disk))) ≡ or_none (frames_of (drop 8 (g.D.Disk.seen c.args.self.now.disk))) ++ record { gate = 1; records = rs } ∷ [])
frames g c told ok =
    let log = c.args.self.now in
    written-frames (g.D.Disk.seen log.disk) log.next.gate log.next.spilled log.next.buffer.items (batch_of log.next) (chains_of log.pages.items) (λ i. g.met.D.Disk.are_bytes log.disk i told) (log.stands told c.requires.usable) log.next.are_bytes log.next.parsed c.requires.some
    (room-small log.next (log.next.fits c.requires.some)) (g.D.Disk.seen c.write-wrote.new.disk) (on_ok c.write-wrote.result (c.write-wrote.ensures.written told) ok)

-- nothing waits
empty : (g : _) (c : After-write-wrote g) → records_behind c.write-wrote.new.self.buffer.items ≡ []
empty g c = let long = c.write-wrote.ensures.buffer in none-behind c.write-wrote.new.self.buffer.items (omega (arith, long))

pub invariant_of-self-clause-stood : goal.invariant_of-self-clause-stood
invariant_of-self-clause-stood g c = λ told usable.
    let log = c.args.self.now in
    let at = (goal.at.invariant_of-self-clause-stood g c).After-write-wrote in
    among-written (g.D.Disk.seen log.disk) (g.D.Disk.seen c.write-wrote.new.disk) (records_behind log.next.buffer.items) _ log.names.gate log.names.at (empty g at) (frames g at told (sym c.is_ok-self.ensures.value ∙ usable)) (log.stood told c.requires.usable)

pub invariant_of-self-clause-looked : goal.invariant_of-self-clause-looked
invariant_of-self-clause-looked g c = λ told usable.
    let log = c.args.self.now in
    let at = (goal.at.invariant_of-self-clause-looked g c).After-write-wrote in
    looked-written (g.D.Disk.seen log.disk) (g.D.Disk.seen c.write-wrote.new.disk) (records_behind log.next.buffer.items) _ log.names (empty g at) (frames g at told (sym c.is_ok-self.ensures.value ∙ usable)) (log.looked told c.requires.usable)

pub returns-clause-messages : goal.returns-clause-messages
returns-clause-messages g c = λ told.
    let log = c.args.self.now in
    let next = c.write-wrote.new.self in
    let seen = g.D.Disk.seen log.disk in
    let after = g.D.Disk.seen c.write-wrote.new.disk in
    let at = (goal.at.returns-clause-messages g c).After-write-wrote in
    let rs = records_behind log.next.buffer.items in
    on_ok_by c.write-wrote.result (λ ok.
    sym (counted-all after next.gate next.spilled next.buffer.items (batch_of next) (chains_of log.pages.items) (λ i. g.met.D.Disk.are_bytes c.write-wrote.new.disk i told)
    (stands-then seen after log.next next (chains_of log.pages.items) (λ i. g.met.D.Disk.are_bytes log.disk i told) (log.stands told c.requires.usable) c.requires.some (on_ok c.write-wrote.result c.write-wrote.ensures.gate ok) c.write-wrote.ensures.buffer c.write-wrote.ensures.batch c.write-wrote.ensures.batch_place
    c.write-wrote.ensures.spilled (on_ok c.write-wrote.result (c.write-wrote.ensures.written told) ok)) next.own)
    ∙ ap (counted_messages true) (placed-written seen after rs (records_behind next.buffer.items) (empty g at) (frames g at told ok))
    ∙ counted-all seen log.next.gate log.next.spilled log.next.buffer.items (batch_of log.next) (chains_of log.pages.items) (λ i. g.met.D.Disk.are_bytes log.disk i told) (log.stands told c.requires.usable) log.next.own)
