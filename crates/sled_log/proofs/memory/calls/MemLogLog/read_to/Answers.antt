use Rattle.sled_log.proofs.Names.{[], ◌∙◌, Entry, IsReadAs, err_from_is_err_and}
use Rattle.sled_log.proofs.KeptEntries.{each-is, one-is}
use Rattle.sled_log.proofs.MemCalls.{called_memory, called_same}
use Rattle.sled_log.proofs.memory.calls.MemLogLog.read_to.Goals as goal

-- the log holds such a message, so it is found
pub returns-in_default-clause-called : goal.returns-in_default-clause-called
returns-in_default-clause-called c =
    absurd (one-is c.args.self.now c.count_read.new.self c.count_read.ensures.kept c.args.pid c.args.lsn c.args.pointer (λ _. ⊥) c.in_default.ensures c.requires.known).1

pub returns-in_default-clause-only : goal.returns-in_default-clause-only
returns-in_default-clause-only c =
    absurd (one-is c.args.self.now c.count_read.new.self c.count_read.ensures.kept c.args.pid c.args.lsn c.args.pointer (λ _. ⊥) c.in_default.ensures c.requires.known).1

pub returns-clause-called : goal.returns-clause-called
returns-clause-called c = called_same c.args.self.now _ c.count_read.ensures.clock c.count_read.ensures.kept _ _ c.count_read.ensures.reads

pub returns-clause-found : goal.returns-clause-found
returns-clause-found c = λ k d lt at.
    let is =
    each-is c.args.self.now c.count_read.new.self c.count_read.ensures.kept c.args.pid c.args.lsn c.args.pointer (λ (entry : Entry). IsReadAs entry c.in-Some.kind c.in-Some.payload.now) c.in-Some.ensures k d lt at in
    (is.0, c.in_ok-put.ensures.put ∙ is.1)

pub returns-in_err-put-clause-called : goal.returns-in_err-put-clause-called
returns-in_err-put-clause-called c =
    let p = err_from_is_err_and c.from_residual.result c.from_residual.ensures.1 in
    rw (p.1, p.2) (called_memory c.args.self.now c.count_read.new.self c.count_read.ensures.clock c.count_read.ensures.kept _ _ [] c.count_read.ensures.reads)
