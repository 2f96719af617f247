use Rattle.sled_pagecache.proofs.Names.{refl, slice_get_past, arith}
use Rattle.sled_pagecache.proofs.pagecache.memory.evict.page_out_at.Goals as goal

pub returns-then-pid-len : goal.returns-then-pid-len
returns-then-pid-len c = rw c.get_mut.ensures.page (c.page_out.new.self, c.page_out.ensures, refl)

pub returns-else-pid-len : goal.returns-else-pid-len
returns-else-pid-len c = rw (slice_get_past c.args.pages.now.pages c.args.pid (omega (arith, c.if-pid-len.false, c.len.ensures.number))) refl
