use Rattle.sled_pagecache.proofs.Names.{◌≡◌, ◌^◌, ◌-◌, take, min, sum_by}
use Rattle.sled_pagecache.proofs.pagecache.memory.page_sizes.live_size.Given as goal
use Rattle.sled_pagecache.specs.Inside.Measurements.{page_live}

-- what the pages so far take
abbrev pub invariant-loop-pid : goal.invariant-loop-pid
invariant-loop-pid l = l.total ≡ min (sum_by page_live (take l.pid l.pages.pages)) (2 ^ 64 - 1)
