use Rattle.sled_pagecache.proofs.Names.{◌≡◌, ◌<◌, ◌++◌, drop, AllByRecursion, free_ids}
use Rattle.sled_pagecache.proofs.pagecache.open.recovered_pages.free_of.Given as goal

abbrev pub invariant-loop-pid : goal.invariant-loop-pid
invariant-loop-pid l = AllByRecursion (λ id. id < l.pid) l.free.ids.keys × (l.free.ids.keys ++ free_ids l.pid (drop l.pid l.pages.pages) ≡ free_ids 0 l.pages.pages)
