use Rattle.std.proofs.Common.{rules}
use Rattle.sled_pagecache.proofs.CacheLog.ServedCaches.{settled-over, stays-seen}
use Rattle.sled_pagecache.proofs.pagecache.calls.served.PageCache+DiskLog+StagedDisk+F.next_task.Goals as goal

pub invariant_of-self : goal.invariant_of-self
invariant_of-self g c = settled-over _ _ _ _ c.self.inside.writer.sticky_log _ _ _ _ c.next_task.ensures.stays c.self.invariant

pub returns-clause-served : goal.returns-clause-served
returns-clause-served g c = record { same = search rules; stays = stays-seen _ _ _ _ c.self.view_is c.next_task.ensures.stays }
