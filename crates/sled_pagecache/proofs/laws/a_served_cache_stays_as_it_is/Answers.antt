use Rattle.sled_pagecache.proofs.CacheLog.ServedCaches.{stays-as-it-is}
use Rattle.sled_pagecache.proofs.laws.a_served_cache_stays_as_it_is.Goals as goal

pub returns : goal.returns
returns g c = stays-as-it-is g.L.Log
