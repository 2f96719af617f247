use Rattle.sled_pagecache.proofs.Names.{refl, arith, called_over}
use Rattle.sled_pagecache_testing.specs.declared.failing.FailingLog.{FailingLog}
use Rattle.sled_pagecache_testing.proofs.failing.FailingLogLog.recover.Goals as goal

pub returns-clause-called : goal.returns-clause-called
returns-clause-called c = called_over (λ (log : FailingLog). log.log) _ c.args.self.now _ _ _ _ _ c.recover.result c.requires.usable c.recover.ensures.called (omega arith) (omega arith) refl
