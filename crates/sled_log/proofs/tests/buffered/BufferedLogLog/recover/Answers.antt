use Rattle.sled_log.proofs.Names.{refl}
use Rattle.sled_log.proofs.Buffered.{called_buffered}
use Rattle.sled_log.proofs.tests.buffered.BufferedLogLog.recover.Goals as goal

pub returns-clause-called : goal.returns-clause-called
returns-clause-called c = called_buffered (λ log. log.log) c.args.self.now _ _ _ _ c.recover.result (λ _. refl) c.recover.ensures.called c.recover.ensures.past
