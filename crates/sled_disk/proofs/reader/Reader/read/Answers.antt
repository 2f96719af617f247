use Rattle.std.proofs.Common.{◌∙◌, ℕ, List, drop, ap, sym, arith}
use Rattle.sled_log.specs.declared.log.LogError.TheVariants.{Corruption}
use Rattle.sled_disk.specs.RecoveredHeads.{AreRead}
use Rattle.sled_disk.specs.ReaderState.{read_by}
use Rattle.sled_disk.specs.Reading.{chains_of, start, found_at}
use Rattle.sled_disk.specs.WholeLaws.{described-found, read-holds}
use Rattle.sled_disk.proofs.Readers.ReaderSteps.{handed-on}
use Rattle.sled_disk.proofs.Chains.ChainHeads.{all-end, heads-placed}
use Rattle.sled_disk.proofs.reader.Reader.read.Goals as goal

pub returns-in_err-take_record-clause-corrupt : goal.returns-in_err-take_record-clause-corrupt
returns-in_err-take_record-clause-corrupt g c = λ told is events described.
    let none = c.take_record.ensures.corrupt told (handed-on c.take_record.result c.from_residual.result c.in_err-take_record.field-0.0 Corruption c.in_err-take_record.was c.from_residual.ensures.1 is) in
    described-found (g.D.Disk.seen c.args.disk.now) events described (ap (λ (l : List ℕ). found_at 8 start (drop 8 l)) (sym (c.loop-self.invariant.rests.same told)) ∙ none)

pub returns-in_err-pass_gate-clause-corrupt : goal.returns-in_err-pass_gate-clause-corrupt
returns-in_err-pass_gate-clause-corrupt g c = λ told is events described.
    let none = c.pass_gate.ensures.corrupt told (handed-on c.pass_gate.result c.from_residual-in_err-pass_gate.result c.in_err-pass_gate.field-0.0 Corruption c.in_err-pass_gate.was c.from_residual-in_err-pass_gate.ensures.1 is) in
    described-found (g.D.Disk.seen c.args.disk.now) events described (ap (λ (l : List ℕ). found_at 8 start (drop 8 l)) (sym (c.loop-self.invariant.rests.same told)) ∙ none)

pub returns-then-not-branch-clause-heads : goal.returns-then-not-branch-clause-heads
returns-then-not-branch-clause-heads g c =
    let self = c.pass_gate.new.self in
    let small = c.in_ok-pass_gate.ensures.small c.if-not-branch.true in
    heads-placed self.at (chains_of self.pages.items) (omega (arith, small)) self.heads

pub returns-then-not-branch-clause-ends : goal.returns-then-not-branch-clause-ends
returns-then-not-branch-clause-ends g c =
    let self = c.pass_gate.new.self in
    all-end self.at (chains_of self.pages.items) self.heads

pub returns-then-not-branch-clause-holds : goal.returns-then-not-branch-clause-holds
returns-then-not-branch-clause-holds g c = λ told.
    let self = c.pass_gate.new.self in
    let read : AreRead (g.D.Disk.seen c.args.disk.now) self.at (read_by self) = record { opens = (c.loop-self.invariant.goes_on told).opens; found = ap (λ (l : List ℕ). found_at 8 start (drop 8 l)) (sym (c.loop-self.invariant.rests.same told)) ∙ c.in_ok-pass_gate.ensures.closed told c.if-not-branch.true } in
    read-holds (g.D.Disk.seen c.args.disk.now) self.at (read_by self) (λ i. g.met.D.Disk.are_bytes c.args.disk.now i told) read
