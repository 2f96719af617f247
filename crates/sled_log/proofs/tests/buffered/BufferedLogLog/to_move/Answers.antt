use Rattle.sled_log.proofs.Names.{Ok, refl}
use Rattle.sled_log.proofs.Buffered.{called_buffered}
use Rattle.sled_log.proofs.tests.buffered.BufferedLogLog.to_move.Goals as goal

pub returns-clause-called : goal.returns-clause-called
returns-clause-called c = called_buffered (λ log. log.log) c.args.self.now _ _ _ _ (Ok c.to_move.result) (λ _. refl) c.to_move.ensures.called c.to_move.ensures.past
