use Rattle.std.proofs.Common.{◌≡◌, ◌+◌, ◌^◌, ◌≤◌, ◌<◌, ℕ, List, inl, inr, ⊎_elim, refl, sym, ◌∙◌, ap, subst, arith}
use Rattle.std.specs.Prelude.{Err}
use Rattle.sled_log.specs.declared.log.LogError.TheVariants.{ReadFault, Corruption}
use Rattle.sled_disk.specs.declared.log.names.Names.{Names}
use Rattle.sled_disk.specs.CountedMessages.{placed_in}
use Rattle.sled_disk.specs.LogContents.{records_behind}
use Rattle.sled_disk.specs.Names.{looks_at, frame_of, behind_record, one_or_none, IsStep}
use Rattle.sled_disk.proofs.Moves.SearchProgress.{passed_by}
use Rattle.sled_disk.proofs.Moves.SearchSteps.{IsEnd, IsHead, Keeps, kept, small, durable-end, enough, record-steps, gate-steps, end-keeps, none-waits, unread, grown-later}
use Rattle.sled_disk.proofs.log.DiskLog.step.Goals.{In-Ok-head_of, After-end, After-enter}
use Rattle.sled_disk.proofs.log.DiskLog.step.Goals as goal

pub returns-in_default-clause-ended : goal.returns-in_default-clause-ended
returns-in_default-clause-ended g c = λ told stopped.
    let log = c.args.self.now in
    let k = kept log told c.requires.usable (λ i. g.met.D.Disk.are_bytes log.disk i told) in
    inr (inr (unread (g.D.Disk.counts log.disk) (g.D.Disk.counts c.frame_end.new.disk) c.frame_end.result c.frame_end.ensures.faults c.frame_end.ensures.only
    (λ is.
    let e = rw c.gate.ensures at c.frame_end.ensures.corrupt told is in
    let ends = durable-end k e.0 in
    let most = small k in
    let far = e.1 in
    omega (arith, ends, most, far))
    c.in_default.not-Ok))

-- a record is gone over
taken : (g : _) (c : In-Ok-head_of g) → g.D.Disk.tells → (new : Names)
    → (let names = c.args.self.now.names in let raw = c.in-Ok-head_of.raw in let len = c.in-Ok-head_of.len in let seen = g.D.Disk.seen c.args.self.now.disk in let next = c.args.self.now.next in (looks_at names + (17 + len) < 2 ^ 64 → new ≡ record (behind_record names raw.kind len) { read = new.read })
    → one_or_none new.read ≡ passed_by (placed_in seen (records_behind next.buffer.items)) names raw.kind raw.page → Keeps seen (g.D.Disk.seen c.head_of.new.disk) next names new × IsStep names new)
taken g c told =
    let log = c.args.self.now in
    let first = c.in-Ok.ensures.rests.same told in
    record-steps log told c.requires.usable (λ i. g.met.D.Disk.are_bytes log.disk i told) c.requires.unread c.gate.result c.at-at.result c.in-Ok.end c.gate.ensures c.at-at.ensures (c.in-Ok.ensures.durable told, c.in-Ok.ensures.pending)
    (g.D.Disk.seen c.head_of.new.disk) (c.in-Ok-head_of.ensures.rests.same told ∙ first) c.if-at-end.true c.in-Ok-head_of.raw c.in-Ok-head_of.len
    (subst (λ (l : List ℕ). IsHead l log.next.gate log.next.buffer.items c.at-at.result c.in-Ok-head_of.raw c.in-Ok-head_of.len) first (c.in-Ok-head_of.ensures.durable told, c.in-Ok-head_of.ensures.pending))

pub invariant_of-self-in-Ok-head_of-clause-stood : goal.invariant_of-self-in-Ok-head_of-clause-stood
invariant_of-self-in-Ok-head_of-clause-stood g c = λ told usable. (taken g (goal.at.invariant_of-self-in-Ok-head_of-clause-stood g c).In-Ok-head_of told c.pass.new.self c.pass.ensures.places c.pass.ensures.read).0.stood

pub invariant_of-self-in-Ok-head_of-clause-looked : goal.invariant_of-self-in-Ok-head_of-clause-looked
invariant_of-self-in-Ok-head_of-clause-looked g c = λ told usable. (taken g (goal.at.invariant_of-self-in-Ok-head_of-clause-looked g c).In-Ok-head_of told c.pass.new.self c.pass.ensures.places c.pass.ensures.read).0.looked

pub returns-in-Ok-head_of-clause-moves : goal.returns-in-Ok-head_of-clause-moves
returns-in-Ok-head_of-clause-moves g c = λ told. (taken g (goal.at.returns-in-Ok-head_of-clause-moves g c).In-Ok-head_of told c.pass.new.self c.pass.ensures.places c.pass.ensures.read).0.moves

pub returns-in-Ok-head_of-clause-further : goal.returns-in-Ok-head_of-clause-further
returns-in-Ok-head_of-clause-further g c = λ told none. (taken g (goal.at.returns-in-Ok-head_of-clause-further g c).In-Ok-head_of told c.pass.new.self c.pass.ensures.places c.pass.ensures.read).1

pub returns-in-Err-clause-ended : goal.returns-in-Err-clause-ended
returns-in-Err-clause-ended g c = λ told stopped.
    let log = c.args.self.now in
    let next = log.next in
    let names = log.names in
    let seen = g.D.Disk.seen log.disk in
    let k = kept log told c.requires.usable (λ i. g.met.D.Disk.are_bytes log.disk i told) in
    let is_end : IsEnd seen next.gate next.buffer.items (frame_of names) c.in-Ok.end = subst (λ n. IsEnd seen next.gate next.buffer.items n c.in-Ok.end) c.gate.ensures (c.in-Ok.ensures.durable told, c.in-Ok.ensures.pending) in
    let before : looks_at names < c.in-Ok.end = subst (λ n. n < c.in-Ok.end) c.at-at.ensures c.if-at-end.true in
    let rests = c.in-Ok.ensures.faults.failed_reads in
    let e = c.in-Err.field-0 in
    let grown = ⊎_elim (λ (is : e ≡ ReadFault). c.in-Err.ensures.faults.read (ap (λ e. Err e) is))
    (λ (is : e ≡ Corruption). let few = rw c.at-at.ensures at c.in-Err.ensures.corrupt (ap (λ e. Err e) is) in absurd (enough k c.in-Ok.end is_end before few.0 few.1))
    c.in-Err.ensures.only in
    inr (inr (grown-later (g.D.Disk.counts log.disk).failed_reads (g.D.Disk.counts c.frame_end.new.disk).failed_reads (g.D.Disk.counts c.head_of.new.disk).failed_reads rests grown))

pub returns-then-end-gate-clause-ended : goal.returns-then-end-gate-clause-ended
returns-then-end-gate-clause-ended g c = λ told stopped.
    let log = c.args.self.now in
    let last : log.next.gate < c.in-Ok.end = subst (λ n. n < c.in-Ok.end) c.gate-2.ensures c.if-end-gate.true in
    inr (inl (none-waits log told c.requires.usable (λ i. g.met.D.Disk.are_bytes log.disk i told) c.requires.unread c.gate.result c.at-at.result c.in-Ok.end c.gate.ensures c.at-at.ensures (c.in-Ok.ensures.durable told, c.in-Ok.ensures.pending)
    (g.D.Disk.seen c.frame_end.new.disk) (c.in-Ok.ensures.rests.same told) c.if-at-end.false last (sym c.end.ensures.sought ∙ stopped)))

-- there is no further frame
ended : (g : _) (c : After-end g) → g.D.Disk.tells
    → (let log = c.args.self.now in Keeps (g.D.Disk.seen log.disk) (g.D.Disk.seen c.frame_end.new.disk) log.next log.names c.end.new.self)
ended g c told =
    let log = c.args.self.now in
    let last : log.next.gate < c.in-Ok.end = subst (λ n. n < c.in-Ok.end) c.gate-2.ensures c.if-end-gate.true in
    end-keeps log told c.requires.usable (λ i. g.met.D.Disk.are_bytes log.disk i told) c.requires.unread c.gate.result c.at-at.result c.in-Ok.end c.gate.ensures c.at-at.ensures (c.in-Ok.ensures.durable told, c.in-Ok.ensures.pending)
    (g.D.Disk.seen c.frame_end.new.disk) (c.in-Ok.ensures.rests.same told) c.if-at-end.false last c.end.new.self c.end.ensures.kept

pub invariant_of-self-then-end-gate-clause-stood : goal.invariant_of-self-then-end-gate-clause-stood
invariant_of-self-then-end-gate-clause-stood g c = λ told usable. (ended g c told).stood

pub invariant_of-self-then-end-gate-clause-looked : goal.invariant_of-self-then-end-gate-clause-looked
invariant_of-self-then-end-gate-clause-looked g c = λ told usable. (ended g c told).looked

pub returns-then-end-gate-clause-moves : goal.returns-then-end-gate-clause-moves
returns-then-end-gate-clause-moves g c = λ told. (ended g (goal.at.returns-then-end-gate-clause-moves g c).After-end told).moves

pub returns-then-end-gate-clause-further : goal.returns-then-end-gate-clause-further
returns-then-end-gate-clause-further g c = λ told went.
    let names = c.args.self.now.names in
    subst (λ (n : Names). IsStep names n) (sym c.end.ensures.kept) (inr (refl, sym c.end.ensures.sought ∙ went, inr refl))

-- the next frame is entered
entered : (g : _) (c : After-enter g) → g.D.Disk.tells
    → (let log = c.args.self.now in Keeps (g.D.Disk.seen log.disk) (g.D.Disk.seen c.frame_end.new.disk) log.next log.names c.enter.new.self × IsStep log.names c.enter.new.self)
entered g c told =
    let log = c.args.self.now in
    let le : c.in-Ok.end ≤ log.next.gate = subst (λ n. c.in-Ok.end ≤ n) c.gate-2.ensures c.if-end-gate.false in
    gate-steps log told c.requires.usable (λ i. g.met.D.Disk.are_bytes log.disk i told) c.requires.unread c.gate.result c.at-at.result c.in-Ok.end c.gate.ensures c.at-at.ensures (c.in-Ok.ensures.durable told, c.in-Ok.ensures.pending)
    (g.D.Disk.seen c.frame_end.new.disk) (c.in-Ok.ensures.rests.same told) c.if-at-end.false le c.enter.new.self c.enter.ensures

pub invariant_of-self-2-clause-stood : goal.invariant_of-self-2-clause-stood
invariant_of-self-2-clause-stood g c = λ told usable. (entered g c told).0.stood

pub invariant_of-self-2-clause-looked : goal.invariant_of-self-2-clause-looked
invariant_of-self-2-clause-looked g c = λ told usable. (entered g c told).0.looked

pub returns-clause-moves : goal.returns-clause-moves
returns-clause-moves g c = λ told. (entered g (goal.at.returns-clause-moves g c).After-enter told).0.moves

pub returns-clause-further : goal.returns-clause-further
returns-clause-further g c = λ told none. (entered g (goal.at.returns-clause-further g c).After-enter told).1
