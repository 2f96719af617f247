use Rattle.sled_pagecache.proofs.Names.{refl, arith, called_over, called_unread}
use Rattle.sled_pagecache_testing.specs.declared.failing.FailingLog.{FailingLog}
use Rattle.sled_pagecache_testing.proofs.failing.FailingLogLog.read.Goals as goal

pub returns-then-is_next-clause-called : goal.returns-then-is_next-clause-called
returns-then-is_next-clause-called c = called_unread (λ (log : FailingLog). log.log) _ c.args.self.now _ _ _ _ refl c.requires.usable c.one_more-self.ensures refl c.is_next.ensures

pub returns-clause-called : goal.returns-clause-called
returns-clause-called c = called_over (λ (log : FailingLog). log.log) _ c.args.self.now _ _ _ _ _ c.read.result c.requires.usable c.read.ensures.called (omega arith) (omega arith) c.is_next.ensures
