use Rattle.sled_log.proofs.Names.{◌≤◌, ◌+◌, ◌^◌, ℕ, refl, subst}
use Rattle.sled_log.specs.declared.tests.eager.EagerLog.{EagerLog}
use Rattle.sled_log.proofs.Eager.{called_settled}
use Rattle.sled_log.proofs.tests.eager.EagerLogLog.recover.Goals as goal

pub returns-clause-called : goal.returns-clause-called
returns-clause-called c = called_settled (λ (log : EagerLog). log.log) c.args.self.now _ _ c.settle.ensures.adds c.settle.ensures.stop c.settle.ensures.counts _ _ _ _ (λ said. refl) c.recover-pages.ensures.called

pub returns-clause-room : goal.returns-clause-room
returns-clause-room c = λ n full. c.recover-pages.ensures.room n (subst (λ (k : ℕ). 2 ^ 63 ≤ k + 17 + n) c.settle.ensures.size full)
