-- What drawing ids from a cache over a log is, in the words of the theorem on ids.
use Rattle.std.specs.Prelude.{[], ◌∷◌, Ok}
use Rattle.sled_log.specs.contracts.memory.calls.MemLogLog.TheImpl as mem
use Rattle.sled_log.specs.declared.memory.MemLog.{MemLog}
use Rattle.sled_pagecache.specs.Cache.{Cache}
use Rattle.sled_pagecache.specs.Openings.{Crashed, Leaves, Starts}
use Rattle.sled_pagecache.specs.Rows.{AreMade}
use Rattle.sled_pagecache.specs.declared.pagecache.handles.call.Answer.TheVariants.{Generated}
use Rattle.sled_pagecache.specs.declared.pagecache.handles.call.Call.TheVariants.{GenerateId}
use Rattle.example_ids.specs.declared.Drawn.{Drawn}
use Rattle.example_ids.specs.declared.TheConstants.{CONFIG}

-- a cache was opened over the log, returned the two ids, and then a crash left the log `left`
pub record IsDrawn (log : MemLog) (drawn : Drawn) : Type 0 where
  pub opened : Cache MemLog
  pub last : Cache MemLog
  pub starts : Starts mem.ghosts log CONFIG (Ok opened)
  pub made : AreMade mem.ghosts opened ((GenerateId, Generated (Ok drawn.first)) ∷ (GenerateId, Generated (Ok drawn.second)) ∷ []) last
  pub leaves : Leaves mem.ghosts last Crashed drawn.left
