use Rattle.sled_pagecache.proofs.Names.{rules}
use Rattle.sled_pagecache.proofs.Memory.Eviction.{out-last}
use Rattle.sled_pagecache.proofs.pagecache.memory.evict.evict.Goals as goal

pub returns-in-Some-lost : goal.returns-in-Some-lost
returns-in-Some-lost c =
    let out = out-last c.in-Some.dropped.now c.in-Some-lost.pid c.args.pages.now.pages c.page_out.new.pages.pages c.page_out_at.new.pages.pages c.page_out.ensures c.page_out_at.ensures in
    rw (c.in-Some.ensures, c.in-Some-lost.is) (search (rules, out))
