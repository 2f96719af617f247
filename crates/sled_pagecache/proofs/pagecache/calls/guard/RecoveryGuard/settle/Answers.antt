use Rattle.sled_pagecache.proofs.Names.{rules}
use Rattle.sled_pagecache.proofs.pagecache.calls.guard.RecoveryGuard.settle.Goals as goal

-- A wrong body is refused at this answer, so that no offers are printed.
pub returns-in-Err-clause-cancelled : goal.returns-in-Err-clause-cancelled
returns-in-Err-clause-cancelled c = search rules
