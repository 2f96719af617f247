use Rattle.std.proofs.Common.{rules, ◌≡◌, List, ℕ, refl}
use Rattle.sled_disk.specs.declared.reader.Reader.{Reader}
use Rattle.sled_disk.specs.ReaderState.{GoesOn, read_by}
use Rattle.sled_disk.proofs.Readers.ReaderSteps.{Behind, goes-unread, goes-met, goes-missed}
use Rattle.sled_disk.proofs.reader.Reader.take_record.Goals.{After-reach}
use Rattle.sled_disk.proofs.reader.Reader.take_record.Goals as goal

pub returns-in_default-clause-corrupt : goal.returns-in_default-clause-corrupt
returns-in_default-clause-corrupt g c = λ told is.
    goes-unread (g.D.Disk.seen c.args.disk.now) c.args.self.now (c.requires.goes_on told) c.in_ok-head.head c.in_default.is (c.in_ok-head.ensures.head told) c.requires.body

-- the places that name the record are met
met : (g : _) (c : After-reach g) → g.D.Disk.tells → {new : Reader} {after : List ℕ} → after ≡ g.D.Disk.seen c.args.disk.now
    → Behind (g.D.Disk.seen c.args.disk.now) c.args.self.now new c.args.self.now.at c.reach.new.self → read_by new ≡ read_by c.args.self.now → GoesOn after new
met g c told =
    goes-met (g.D.Disk.seen c.args.disk.now) c.args.self.now (c.requires.goes_on told) c.in_ok-head.head c.in-Some.raw c.in-Some.len c.in-Some.is (c.in_ok-head.ensures.head told) c.in_ok-head.ensures.has c.reach.new.self c.reach.ensures.reached

pub returns-then-not-reach-clause-goes_on : goal.returns-then-not-reach-clause-goes_on
returns-then-not-reach-clause-goes_on g c = λ told.
    met g (goal.at.returns-then-not-reach-clause-goes_on g c).After-reach told refl (record { end = refl; shows = c.in_ok-head.ensures.shows told; at = refl; body_end = refl; targets = refl }) refl

pub returns-then-not-reach-clause-corrupt : goal.returns-then-not-reach-clause-corrupt
returns-then-not-reach-clause-corrupt g c = λ told is.
    goes-missed (g.D.Disk.seen c.args.disk.now) c.args.self.now (c.requires.goes_on told) c.in_ok-head.head c.in-Some.raw c.in-Some.len c.in-Some.is (c.in_ok-head.ensures.head told) c.in_ok-head.ensures.has c.reach.new.self c.reach.ensures.reached
    (c.reach.ensures.missed c.if-not-reach.true)

pub take_outside-requires-clause-next : goal.take_outside-requires-clause-next
take_outside-requires-clause-next g c = record {
  on = λ told. met g (goal.at.take_outside-requires-clause-next g c).After-reach told (c.in_ok-head.ensures.rests.same told) (record { end = refl; shows = c.in_ok-head.ensures.shows told; at = refl; body_end = refl; targets = refl }) refl;
  head = search rules;
  has = search rules;
  ahead = search rules;
}

pub take_inside-requires-clause-next : goal.take_inside-requires-clause-next
take_inside-requires-clause-next g c = record {
  on = λ told. met g (goal.at.take_inside-requires-clause-next g c).After-reach told (c.in_ok-head.ensures.rests.same told) (record { end = refl; shows = c.in_ok-head.ensures.shows told; at = refl; body_end = refl; targets = refl }) refl;
  head = search rules;
  has = search rules;
  ahead = search rules;
}
