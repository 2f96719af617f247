use Rattle.sled_pagecache.proofs.Names.{◌≡◌, ◌-◌, ◌^◌, take, sum_by, min}
use Rattle.sled_pagecache.proofs.pagecache.table.page_entry.total_size.Given as goal

abbrev pub invariant-loop-info : goal.invariant-loop-info
invariant-loop-info l = l.total ≡ min (sum_by (λ info. info.log_size) (take l.info-index l.infos)) (2 ^ 64 - 1)
