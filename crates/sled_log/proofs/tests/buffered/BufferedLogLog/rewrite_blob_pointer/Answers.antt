use Rattle.sled_log.proofs.Names.{refl}
use Rattle.sled_log.proofs.Buffered.{called_buffered}
use Rattle.sled_log.proofs.tests.buffered.BufferedLogLog.rewrite_blob_pointer.Goals as goal

pub returns-clause-called : goal.returns-clause-called
returns-clause-called c = called_buffered (λ log. log.log) c.args.self.now _ _ _ _ c.rewrite_blob_pointer.result (λ _. refl) c.rewrite_blob_pointer.ensures.called c.rewrite_blob_pointer.ensures.past
