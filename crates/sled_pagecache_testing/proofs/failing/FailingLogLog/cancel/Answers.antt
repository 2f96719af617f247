use Rattle.sled_pagecache.proofs.Names.{refl, arith, called_over, called_unwritten}
use Rattle.sled_pagecache_testing.specs.declared.failing.FailingLog.{FailingLog}
use Rattle.sled_pagecache_testing.proofs.failing.FailingLogLog.cancel.Goals as goal

pub returns-then-is_next-clause-called : goal.returns-then-is_next-clause-called
returns-then-is_next-clause-called c = called_unwritten (λ (log : FailingLog). log.log) _ c.args.self.now _ _ _ _ c.requires.usable refl c.one_more-self.ensures refl refl

pub returns-clause-called : goal.returns-clause-called
returns-clause-called c = called_over (λ (log : FailingLog). log.log) _ c.args.self.now _ _ _ _ _ c.cancel.result c.requires.usable c.cancel.ensures.called (omega arith) (omega arith) refl
