-- A cache between two of its calls, while its caller reads and writes for its log.
use Rattle.std.specs.Prelude.{◌≡◌}
use Rattle.sled_log.specs.declared.log.Log.{Ghosts}
use Rattle.sled_disk.specs.Served.{StaysALog}
use Rattle.sled_pagecache.specs.Cache.{Cache, Represents}
use Rattle.sled_pagecache.specs.Logged.{Logged}
use Rattle.sled_pagecache.specs.State.{State}

-- The cache stays in its state, whichever that is, and its log holds what it held.
abbrev pub StaysAsItIs : {L : Type 0} → Ghosts L → Cache L → Cache L → Type 0
StaysAsItIs g old new = (held : Logged) (s : State) → Represents g old held s → Represents g new held s

-- The cache is the same except for its log, which stays in its state: so what its caller does for the log between two calls doesn't change
-- it.
pub record IsServed {L : Type 0} (g : Ghosts L) (old new : Cache L) : Type 0 where
  pub same : new ≡ record old { log = new.log }
  pub stays : StaysALog g old.log new.log
