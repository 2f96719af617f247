use Rattle.sled_pagecache.proofs.Names.{take, take_more}
use Rattle.sled_pagecache.proofs.Memory.Eviction.{out-last}
use Rattle.sled_pagecache.proofs.pagecache.memory.evict.page_out.Goals as goal

pub loop-pid-preserved : goal.loop-pid-preserved
loop-pid-preserved c =
    rw (take_more c.args.pids.now c.loop-pid.pid-index 0 c.loop-pid-test.true)
    (out-last (take c.loop-pid.pid-index c.args.pids.now) _ c.args.pages.now.pages c.loop-pid.pages.pages c.page_out_at.new.pages.pages c.loop-pid.invariant c.page_out_at.ensures)
