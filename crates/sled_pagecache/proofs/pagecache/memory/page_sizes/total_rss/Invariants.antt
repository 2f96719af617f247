use Rattle.sled_pagecache.proofs.Names.{◌≤◌, ◌*◌, ◌^◌, take, Ok, Result, Refusal, effect_of_entry, now, sum_by}
use Rattle.sled_pagecache.proofs.pagecache.memory.page_sizes.total_rss.Given as goal
use Rattle.sled_pagecache.specs.Inside.Measurements.{ReadsLog, Weighs, messages_to_read}

-- what the pages so far take, and how often the log was read for them
abbrev pub invariant-loop-pid : goal.invariant-loop-pid
invariant-loop-pid g l = record {
  read : (let ok : Result (Unit {0}) Refusal = Ok tt in ReadsLog g.L.Log l.fn.sticky_log l.sticky_log (sum_by messages_to_read (take l.pid l.pages.pages)) ok);
  weighs : g.L.Log.tells → Weighs (take l.pid (now effect_of_entry (g.L.Log.state l.fn.sticky_log.log))) l.total;
  few : l.total ≤ l.pid * 2 ^ 64;
}
