use Rattle.std.proofs.Common.{rules, ◌≡◌, ⊎_elim, inl, inr, refl, sym, ◌∙◌, ap, subst, arith}
use Rattle.std.specs.Prelude.{ℕ, List}
use Rattle.sled_log.specs.Moves.{Moves}
use Rattle.sled_disk.specs.Names.{moves_in}
use Rattle.sled_disk.proofs.LogCalls.CallOutcomes.{rests-same}
use Rattle.sled_disk.proofs.Moves.SearchSteps.{grown-later}
use Rattle.sled_disk.proofs.Moves.MovesAfterCalls.{steps-none, steps-more}
use Rattle.sled_disk.proofs.log.DiskLog.read_name.Goals as goal

pub loop-init : goal.loop-init
loop-init g c = record {
  looks = record {
    rests = rests-same g.D.Disk.seen g.D.Disk.may_leave g.D.Disk.moment g.D.Disk.left_since g.D.Disk.tells c.args.self.now.disk;
    failed_reads = omega arith;
    write_faults = omega arith;
    usable = c.requires.usable;
    reads = refl;
    segment_size = refl;
    clean_every = refl;
    pages = refl;
    next = refl;
    appended = refl;
  };
  unread = c.is_awaited.ensures.unread c.if-not-is_awaited.false;
  disk_reads = omega arith;
  moves = λ told. refl;
  further = λ told. steps-none c.args.self.now.names;
}

pub returns-then-not-step-clause-read : goal.returns-then-not-step-clause-read
returns-then-not-step-clause-read g c = λ told lt.
    let log = c.args.self.now in
    let mid = c.loop.self in
    let seen = g.D.Disk.seen in
    let counts = g.D.Disk.counts in
    let moves = ap (λ (l : List ℕ). moves_in l mid.next mid.names) (c.loop.invariant.looks.rests.same told) ∙ c.loop.invariant.moves told in
    ⊎_elim (λ some. inl (inl some))
    (⊎_elim (λ none. inl (inr (inl (ap (λ (m : Moves). m.waiting) (sym moves) ∙ none))))
    (λ grown. inl (inr (inr (grown-later (counts log.disk).failed_reads (counts mid.disk).failed_reads (counts c.step.new.self.disk).failed_reads c.loop.invariant.looks.failed_reads grown)))))
    (c.step.ensures.ended told c.if-not-step.true)

pub loop-preserved : goal.loop-preserved
loop-preserved g c = record {
  looks = search rules;
  unread = c.step.ensures.unread c.if-not-step.false;
  disk_reads = search rules;
  moves = λ told. subst (λ (l : List ℕ). moves_in l c.step.new.self.next c.step.new.self.names ≡ moves_in l c.loop.self.next c.loop.self.names) (c.loop.invariant.looks.rests.same told) (c.step.ensures.moves told) ∙ c.loop.invariant.moves told;
  further = λ told. steps-more c.loop.counter c.args.self.now.names c.loop.self.names c.step.new.self.names (c.loop.invariant.further told) (c.step.ensures.further told c.if-not-step.false);
}
