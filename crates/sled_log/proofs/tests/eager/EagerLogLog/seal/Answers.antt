use Rattle.sled_log.proofs.Names.{refl}
use Rattle.sled_log.specs.declared.tests.eager.EagerLog.{EagerLog}
use Rattle.sled_log.proofs.Eager.{called_settled}
use Rattle.sled_log.proofs.tests.eager.EagerLogLog.seal.Goals as goal

pub returns-clause-called : goal.returns-clause-called
returns-clause-called c = called_settled (λ (log : EagerLog). log.log) c.args.self.now _ _ c.settle.ensures.adds c.settle.ensures.stop c.settle.ensures.counts _ _ _ _ (λ said. refl) c.seal-sealed.ensures.called
