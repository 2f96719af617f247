use Rattle.sled_pagecache.proofs.Names.{arith}
use Rattle.sled_pagecache.proofs.Sizes.LiveSizes.{next-live}
use Rattle.sled_pagecache.proofs.pagecache.memory.page_sizes.live_size.Goals as goal

pub loop-pid-preserved : goal.loop-pid-preserved
loop-pid-preserved c =
    let next = next-live c.args.pages.now.pages c.loop-pid.pid c.in-Some.page.now c.in-Some.ensures in
    omega (arith, next, c.loop-pid.invariant, c.page_live.ensures)
