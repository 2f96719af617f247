use Rattle.sled_pagecache.proofs.Names.{◌≡◌, length}
use Rattle.sled_pagecache_testing.proofs.tables.table_of.Given as goal

abbrev pub invariant-loop-pid : goal.invariant-loop-pid
invariant-loop-pid l = length l.table.pages ≡ l.pid
