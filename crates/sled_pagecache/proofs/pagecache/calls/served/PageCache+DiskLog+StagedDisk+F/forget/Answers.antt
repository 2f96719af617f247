use Rattle.sled_pagecache.proofs.CacheLog.ServedCaches.{settled-over}
use Rattle.sled_pagecache.proofs.pagecache.calls.served.PageCache+DiskLog+StagedDisk+F.forget.Goals as goal

pub invariant_of-self : goal.invariant_of-self
invariant_of-self g c = settled-over _ _ _ _ c.self.inside.writer.sticky_log _ _ _ _ c.forget.ensures.stays c.self.invariant
