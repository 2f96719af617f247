use Rattle.std.proofs.Common.{◌≡◌, ◌+◌, ℕ, List, length, subst, arith}
use Rattle.std.proofs.lemmas.Bool.{eqb-true, eqb-false}
use Rattle.sled_disk.specs.DiskReads.{BodyOnDisk, HasBody}
use Rattle.sled_disk.specs.Reading.{chains_of}
use Rattle.sled_disk.proofs.Readers.ReaderSteps.{goes-awaited, goes-ended, goes-closed, goes-far, goes-torn, goes-opened, shows-still}
use Rattle.sled_disk.proofs.Chains.ChainHeads.{heads-later}
use Rattle.sled_disk.proofs.Readers.BatchChanges.{waiting-later}
use Rattle.sled_disk.proofs.reader.Reader.pass_gate.Goals.{Else-not-is_empty}
use Rattle.sled_disk.proofs.reader.Reader.pass_gate.Goals as goal

pub returns-then-not-is_empty-clause-corrupt : goal.returns-then-not-is_empty-clause-corrupt
returns-then-not-is_empty-clause-corrupt g c = λ told is.
    let self = c.args.self.now in
    goes-awaited (g.D.Disk.seen c.args.disk.now) self (c.requires.goes_on told) c.requires.gate (eqb-false (length self.targets) 0 (let h = c.if-not-is_empty.true in let e = c.is_empty.ensures in cc))

-- each place that was named is met
met : (g : _) (c : Else-not-is_empty g) → length c.args.self.now.targets ≡ 0
met g c = eqb-true (length c.args.self.now.targets) 0 (let h = c.if-not-is_empty.false in let e = c.is_empty.ensures in cc)

pub returns-then-self-clause-corrupt : goal.returns-then-self-clause-corrupt
returns-then-self-clause-corrupt g c = λ told is.
    let self = c.args.self.now in
    goes-ended (g.D.Disk.seen c.args.disk.now) self (c.requires.goes_on told) c.requires.gate (met g (goal.at.returns-then-self-clause-corrupt g c).Else-not-is_empty) c.if-self.true

pub returns-then-self-greatest-clause-corrupt : goal.returns-then-self-greatest-clause-corrupt
returns-then-self-greatest-clause-corrupt g c = λ told is.
    let self = c.args.self.now in
    goes-far (g.D.Disk.seen c.args.disk.now) self (c.requires.goes_on told) c.requires.gate (met g (goal.at.returns-then-self-greatest-clause-corrupt g c).Else-not-is_empty)
    c.if-self.false c.in_ok-gate_on.field-0 (c.in_ok-gate_on.ensures.gate told) c.if-branch-eq0.true (omega (arith, c.if-self-greatest.true, c.greatest_gate-greatest.ensures))

pub returns-then-branch-eq0-clause-closed : goal.returns-then-branch-eq0-clause-closed
returns-then-branch-eq0-clause-closed g c = λ told is.
    let self = c.args.self.now in
    goes-closed (g.D.Disk.seen c.args.disk.now) self (c.requires.goes_on told) c.requires.gate (met g (goal.at.returns-then-branch-eq0-clause-closed g c).Else-not-is_empty)
    c.if-self.false c.in_ok-gate_on.field-0 (c.in_ok-gate_on.ensures.gate told) c.if-branch-eq0.true (omega (arith, c.if-self-greatest.false, c.greatest_gate-greatest.ensures))

pub returns-in_default-clause-corrupt : goal.returns-in_default-clause-corrupt
returns-in_default-clause-corrupt g c = λ told is.
    let self = c.args.self.now in
    let body = subst (λ (l : List ℕ). BodyOnDisk l (self.at + 1) c.in_ok-len.field-0) (c.in_ok-gate_on.ensures.rests.same told) (c.in_ok-len.ensures.body told) in
    goes-torn (g.D.Disk.seen c.args.disk.now) self (c.requires.goes_on told) c.requires.gate (met g (goal.at.returns-in_default-clause-corrupt g c).Else-not-is_empty)
    c.if-self.false c.in_ok-gate_on.field-0 (c.in_ok-gate_on.ensures.gate told) c.in_ok-len.field-0 c.in_default.is body c.if-branch-eq0.false

pub invariant_of-self-2 : goal.invariant_of-self-2
invariant_of-self-2 g c =
    let self = c.args.self.now in
    let has = subst (HasBody (self.at + 1) self.end) c.in-Some.is c.in_ok-len.ensures.has in
    let all = has.1 in
    record {
      none = self.none;
      waiting = waiting-later self.at (self.at + 9) self.changes.items (omega arith) self.waiting;
      within = omega arith;
      inside = omega arith;
      heads = heads-later self.at (self.at + 9) (chains_of self.pages.items) (omega arith) self.heads;
    }

pub returns-clause-goes_on : goal.returns-clause-goes_on
returns-clause-goes_on g c = λ told.
    let seen = g.D.Disk.seen c.args.disk.now in
    let self = c.args.self.now in
    let on = c.requires.goes_on told in
    let same = c.in_ok-gate_on.ensures.rests.same told in
    let body = subst (λ (l : List ℕ). BodyOnDisk l (self.at + 1) c.in_ok-len.field-0) same (c.in_ok-len.ensures.body told) in
    record {
      opens = on.opens;
      end = on.end;
      shows = shows-still c.body_on.new.window (g.D.Disk.seen c.gate_on.new.disk) seen same (c.in_ok-len.ensures.shows told);
      left = goes-opened seen self on c.requires.gate (met g (goal.at.returns-clause-goes_on g c).Else-not-is_empty)
          c.if-self.false c.in_ok-gate_on.field-0 (c.in_ok-gate_on.ensures.gate told) c.in_ok-len.field-0 c.in-Some.len c.in-Some.is body c.in_ok-len.ensures.has c.if-branch-eq0.false
          (λ i. g.met.D.Disk.are_bytes c.args.disk.now i told);
    }
