use Rattle.std.proofs.Common.{◌+◌, true, List, ◌++◌, length, refl, sym, ◌∙◌, ap, arith}
use Rattle.sled_log.specs.Events.{Event}
use Rattle.sled_log.specs.Messages.{Entry}
use Rattle.sled_disk.specs.Format.{body, closing_record}
use Rattle.sled_disk.specs.LogContents.{records_behind}
use Rattle.sled_disk.specs.PendingFrame.{pending_of}
use Rattle.sled_disk.specs.Reading.{chains_of}
use Rattle.sled_disk.proofs.LogCalls.CallOutcomes.{batch-now, called-waits, rests-same}
use Rattle.sled_disk.proofs.LogCalls.OneMore.{IsMore, StandsWith, closed-stands, closes, marked, more-waits}
use Rattle.sled_disk.proofs.Moves.CountedMessages.{closing-none}
use Rattle.sled_disk.proofs.Moves.MovesAfterCalls.{moves-marked}
use Rattle.sled_disk.proofs.log.DiskLog.close_batch.Goals.{After-end}
use Rattle.sled_disk.proofs.log.DiskLog.close_batch.Goals as goal

pub end-requires-clause-opened : goal.end-requires-clause-opened
end-requires-clause-opened g c = batch-now c.args.self.now true c.requires.opened

-- the record that closes the batch waits
more : (g : _) (c : After-end g) → (let next = c.args.self.now.next in IsMore next c.end.new.self (closing_record c.args.kind next.batch_place))
more g c = let e = c.end.ensures in record { gate = e.gate; spilled = e.spilled; records = e.records }

stands : (g : _) (c : After-end g) → StandsWith c.args.self.now c.end.new.self
stands g c =
    let log = c.args.self.now in
    marked log c.end.new.self (closing_record c.args.kind log.next.batch_place) (more g c) ((closes c.args.kind c.requires.kind).own log.next.batch_place) (omega (arith, c.end.ensures.gate, c.end.ensures.len))

pub invariant_of-self-clause-ends : goal.invariant_of-self-clause-ends
invariant_of-self-clause-ends g c = (stands g c).ends

pub invariant_of-self-clause-stood : goal.invariant_of-self-clause-stood
invariant_of-self-clause-stood g c = (stands g c).stood

pub invariant_of-self-clause-looked : goal.invariant_of-self-clause-looked
invariant_of-self-clause-looked g c = (stands g c).looked

pub invariant_of-self-clause-stands : goal.invariant_of-self-clause-stands
invariant_of-self-clause-stands g c = λ told usable.
    let log = c.args.self.now in
    let e = c.end.ensures in
    let kind = closes c.args.kind c.requires.kind in
    closed-stands c.args.kind (more g c) (g.D.Disk.seen log.disk) (chains_of log.pages.items) (λ i. g.met.D.Disk.are_bytes log.disk i told) kind.closing kind.kept (batch-now log true c.requires.opened) e.small e.batch (log.stands told usable)

pub returns-clause-called : goal.returns-clause-called
returns-clause-called g c =
    let log = c.args.self.now in
    let next = log.next in
    let seen = g.D.Disk.seen log.disk in
    let kind = closes c.args.kind c.requires.kind in
    called-waits g.D.Disk (λ disk left told was. g.met.D.Disk.only_now disk left told was) (λ disk told i. g.met.D.Disk.are_bytes disk i told) log _ _ _ tt
    (rests-same g.D.Disk.seen g.D.Disk.may_leave g.D.Disk.moment g.D.Disk.left_since g.D.Disk.tells log.disk) refl c.requires.usable refl
    (λ told. more-waits (more g (goal.at.returns-clause-called g c).After-end) seen _ refl ∙ ap (λ (l : List (Event Entry)). pending_of seen next ++ l) (kind.event ((next.gate + 9) + length (body (records_behind next.buffer.items))) next.batch_place))
    (sym c.end.new.self.batch_is ∙ c.end.ensures.batch ∙ sym (kind.shuts _)) c.requires.usable

pub returns-clause-unnamed : goal.returns-clause-unnamed
returns-clause-unnamed g c = λ told.
    let log = c.args.self.now in
    let seen = g.D.Disk.seen log.disk in
    let e = c.end.ensures in
    let place = log.next.batch_place in
    moves-marked seen seen log.next c.end.new.self log.names log.names (closing_record c.args.kind place) refl refl e.gate e.spilled e.records (λ at. closing-none at (closing_record c.args.kind place) (closes c.args.kind c.requires.kind).closing)
