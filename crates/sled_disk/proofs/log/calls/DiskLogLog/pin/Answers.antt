use Rattle.std.proofs.Common.{◌≡◌, arith, ◌++◌, ◌∷◌, [], ℕ, List, false, inl, inr, refl, sym, ◌∙◌, ap}
use Rattle.std.proofs.lemmas.Result.{err_from_is_err_and}
use Rattle.sled_log.specs.declared.log.LogError.TheVariants.{Memory, Full}
use Rattle.sled_disk.specs.Format.{begin_record}
use Rattle.sled_disk.specs.Reading.{chains_of}
use Rattle.sled_disk.specs.LogContents.{records_behind}
use Rattle.sled_disk.proofs.Frames.RecordAppend.{pin-stands}
use Rattle.sled_disk.specs.PendingFrame.{batch_of}
use Rattle.sled_disk.proofs.LogCalls.CallOutcomes.{batch-now, called-refused, called-waits, rests-same}
use Rattle.sled_disk.proofs.Frames.PendingBuffer.{place-is}
use Rattle.sled_disk.proofs.Frames.WrittenFrame.{open-batch, closed-batch, flag-of}
use Rattle.sled_disk.proofs.Moves.MovesAfterCalls.{moves-marked}
use Rattle.sled_disk.proofs.LogCalls.OneMore.{IsMore, StandsWith, marked, more-waits, more-stands}
use Rattle.sled_disk.proofs.log.calls.DiskLogLog.pin.Goals.{In_ok-make_room, After-pin}
use Rattle.sled_disk.proofs.log.calls.DiskLogLog.pin.Goals as goal

pub returns-then-is_full-clause-called : goal.returns-then-is_full-clause-called
returns-then-is_full-clause-called g c =
    let log = c.args.self.now in
    called-refused g.D.Disk (λ disk left told was. g.met.D.Disk.only_now disk left told was) (λ disk told i. g.met.D.Disk.are_bytes disk i told)
    log log _ _ Full (inr (inl refl)) (λ told is. cc) (rests-same g.D.Disk.seen g.D.Disk.may_leave g.D.Disk.moment g.D.Disk.left_since g.D.Disk.tells log.disk) refl c.requires.usable refl (record { gate = refl; spilled = refl; records = refl })
    c.requires.usable

pub returns-in_err-make_room-clause-called : goal.returns-in_err-make_room-clause-called
returns-in_err-make_room-clause-called g c =
    let log = c.args.self.now in
    let p = err_from_is_err_and c.from_residual.result c.from_residual.ensures.1 in
    rw p.1 (rw (p.2 ∙ c.in_err-make_room.ensures.only)
    (called-refused g.D.Disk (λ disk left told was. g.met.D.Disk.only_now disk left told was) (λ disk told i. g.met.D.Disk.are_bytes disk i told)
    log _ _ _ Memory (inl refl) (λ told is. cc) c.make_room.ensures.rests c.make_room.ensures.counts c.make_room.ensures.usable c.make_room.ensures.reads
    (record { gate = c.make_room.ensures.gate; spilled = c.make_room.ensures.spilled; records = ap records_behind c.make_room.ensures.buffer })
    c.requires.usable))

-- no batch is open once there is room
closed : (g : _) (c : In_ok-make_room g) → c.make_room.new.self.next.batch ≡ false
closed g c = flag-of c.make_room.new.self.next c.args.self.now.next c.make_room.ensures.batch ∙ batch-now c.args.self.now false c.requires.closed

pub pin-requires-clause-closed : goal.pin-requires-clause-closed
pin-requires-clause-closed g c = closed g (goal.at.pin-requires-clause-closed g c).In_ok-make_room

-- the record that begins the batch waits
more : (g : _) (c : After-pin g) → IsMore c.make_room.new.self.next c.pin.new.self begin_record
more g c = let e = c.pin.ensures in record { gate = e.gate; spilled = e.spilled; records = e.records }

pub invariant_of-self-clause-stands : goal.invariant_of-self-clause-stands
invariant_of-self-clause-stands g c = λ told usable.
    let mid = c.make_room.new.self in
    let next = c.pin.new.self in
    let closed = closed g (goal.at.invariant_of-self-clause-stands g c).In_ok-make_room in
    let at = c.pin.ensures.batch_place ∙ place-is mid.next.gate mid.next.buffer.items mid.next.are_bytes mid.next.front mid.next.parsed in
    more-stands (more g c) (g.D.Disk.seen mid.disk) _ (chains_of mid.pages.items) (open-batch next c.pin.ensures.batch)
    (pin-stands (g.D.Disk.seen mid.disk) mid.next.gate mid.next.spilled mid.next.buffer.items next.buffer.items (batch_of mid.next) next.batch_place (chains_of mid.pages.items) (λ i. g.met.D.Disk.are_bytes mid.disk i told) (closed-batch mid.next closed) at (mid.stands told usable) c.pin.ensures.records)

pub returns-clause-called : goal.returns-clause-called
returns-clause-called g c =
    let log = c.args.self.now in
    let room = c.make_room.ensures in
    let e = c.pin.ensures in
    let more : IsMore log.next c.pin.new.self begin_record = record { gate = e.gate ∙ room.gate; spilled = e.spilled ∙ room.spilled; records = e.records ∙ ap (λ (l : List ℕ). records_behind l ++ begin_record ∷ []) room.buffer } in
    called-waits g.D.Disk (λ disk left told was. g.met.D.Disk.only_now disk left told was) (λ disk told i. g.met.D.Disk.are_bytes disk i told)
    log _ _ _ tt room.rests room.counts room.usable room.reads
    (λ told. more-waits more (g.D.Disk.seen log.disk) _ (room.rests.same told)) (sym c.pin.new.self.batch_is ∙ e.batch) c.requires.usable

stands : (g : _) (c : After-pin g) → StandsWith c.make_room.new.self c.pin.new.self
stands g c = marked c.make_room.new.self c.pin.new.self begin_record (more g c) refl (omega (arith, c.pin.ensures.gate, c.pin.ensures.len))

pub invariant_of-self-clause-ends : goal.invariant_of-self-clause-ends
invariant_of-self-clause-ends g c = (stands g c).ends

pub invariant_of-self-clause-stood : goal.invariant_of-self-clause-stood
invariant_of-self-clause-stood g c = (stands g c).stood

pub invariant_of-self-clause-looked : goal.invariant_of-self-clause-looked
invariant_of-self-clause-looked g c = (stands g c).looked

pub returns-clause-unnamed : goal.returns-clause-unnamed
returns-clause-unnamed g c = λ told.
    let log = c.args.self.now in
    let mid = c.make_room.new.self in
    moves-marked (g.D.Disk.seen log.disk) (g.D.Disk.seen mid.disk) log.next c.pin.new.self log.names mid.names begin_record c.make_room.ensures.names (c.make_room.ensures.rests.same told)
    (c.pin.ensures.gate ∙ c.make_room.ensures.gate) (c.pin.ensures.spilled ∙ c.make_room.ensures.spilled)
    (c.pin.ensures.records ∙ ap (λ (l : List ℕ). records_behind l ++ begin_record ∷ []) c.make_room.ensures.buffer) (λ place. refl)
