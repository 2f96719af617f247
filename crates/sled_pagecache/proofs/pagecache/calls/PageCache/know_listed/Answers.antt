use Rattle.sled_pagecache.proofs.pagecache.calls.PageCache.know_listed.Goals as goal

pub returns : goal.returns
returns g c = rw (← c.self.view_is) c.self.invariant.bounded
