use Rattle.sled_pagecache.proofs.Names.{◌+◌, ℕ, IfErr, Ok, Result, Refusal, chain_at}
use Rattle.sled_pagecache.proofs.Memory.Pulls.{IsJudged, MakesSoFar}
use Rattle.sled_pagecache.proofs.pagecache.memory.chain.read_node.Given as goal
use Rattle.sled_pagecache.specs.Inside.Measurements.{ReadsLog}

-- how often the log was read, and what the messages so far make
abbrev pub invariant-loop-info : goal.invariant-loop-info
invariant-loop-info g l = record {
  read : (let ok : Result (Unit {0}) Refusal = Ok tt in ReadsLog g.L.Log l.fn.sticky_log l.sticky_log (l.info-index + 1) ok);
  made : g.L.Log.tells → MakesSoFar (chain_at (g.L.Log.state l.fn.sticky_log.log) l.fn.pid) (l.info-index + 1) l.made;
  judged : IfErr l.made IsJudged;
  as_full : (n : ℕ) → g.L.Log.is_full l.sticky_log.log n → g.L.Log.is_full l.fn.sticky_log.log n;
}
