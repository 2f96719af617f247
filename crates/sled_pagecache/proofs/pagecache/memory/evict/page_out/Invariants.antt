use Rattle.sled_pagecache.proofs.Names.{take, AreOut}
use Rattle.sled_pagecache.proofs.pagecache.memory.evict.page_out.Given as goal

-- those so far are out
abbrev pub invariant-loop-pid : goal.invariant-loop-pid
invariant-loop-pid l = AreOut (take l.pid-index l.pids) l.fn.pages.pages l.pages.pages
