use Rattle.sled_log.proofs.Names.{arith}
use Rattle.sled_log.specs.declared.tests.faulty.FaultyLog.{FaultyLog}
use Rattle.sled_log.proofs.Faulty.{called_over}
use Rattle.sled_log.proofs.tests.faulty.FaultyLogLog.read.Goals as goal

pub returns-clause-called : goal.returns-clause-called
returns-clause-called c = called_over (λ (log : FaultyLog). log.log) _ c.args.self.now _ _ _ _ _ c.read.result c.requires.usable c.read.ensures.called (omega arith) (omega arith) c.is_next.ensures
