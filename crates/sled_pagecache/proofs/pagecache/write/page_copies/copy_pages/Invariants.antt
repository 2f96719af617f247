use Rattle.sled_pagecache.proofs.Names.{None, Ok, Refusal, Result, effect_of_entry, now, sum_by, take}
use Rattle.sled_pagecache.proofs.pagecache.write.page_copies.copy_pages.Given as goal
use Rattle.sled_pagecache.specs.Inside.PageCopies.{AreCopied}
use Rattle.sled_pagecache.specs.Inside.Measurements.{ReadsLog, messages_to_read}

-- how often the log was read for the pages so far, and what was written of them
abbrev pub invariant-loop-pid : goal.invariant-loop-pid
invariant-loop-pid g l = record {
  read : (let ok : Result (Unit {0}) Refusal = Ok tt in ReadsLog g.L.Log l.fn.sticky_log l.sticky_log (sum_by messages_to_read (take l.pid l.pages.pages)) ok);
  copied : AreCopied g.L.Log g.M.Log (now effect_of_entry (g.L.Log.state l.fn.sticky_log.log)) l.pid l.fn.copy l.copy None;
}
