use Rattle.sled_pagecache.proofs.Names.{rules}
use Rattle.sled_pagecache.proofs.pagecache.calls.guard.RecoveryGuard.seal_batch.Goals as goal

-- A wrong body is refused at this answer, so that no offers are printed.
pub returns : goal.returns
returns c = search rules
