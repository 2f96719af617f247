use Rattle.sled_pagecache.proofs.Names.{◌≡◌}
use Rattle.sled_pagecache_testing.proofs.disks.all_change.Given as goal

abbrev pub invariant-loop-step : goal.invariant-loop-step
invariant-loop-step g l = l.cache.batch ≡ l.initial.cache.batch
