-- What a snapshot of a cache holds.
use Rattle.std.specs.Prelude.{◌≡◌, length, Some, None}
use Rattle.std.specs.List.{AllZip}
use Rattle.sled_log.specs.LogState.{now}
use Rattle.sled_log.specs.Messages.{effect_of_entry}
use Rattle.sled_log.specs.Pages.{IsPageState}
use Rattle.sled_log.specs.declared.log.Log.{Ghosts}
use Rattle.sled_pagecache.specs.Cache.{Cache}
use Rattle.sled_pagecache.specs.declared.pagecache.handles.snapshot.Snapshot.{Snapshot}

-- How far the log is durable, no segment, and one entry for each page, which describes its chain if the device tells its bytes.
pub record IsSnapshot {L : Type 0} (g : Ghosts L) (cache : Cache L) (snapshot : Snapshot) : Type 0 where
  pub stable : snapshot.stable_lsn ≡ Some (g.stable_bytes cache.log)
  pub segment : snapshot.active_segment ≡ None
  pub many : length snapshot.pt.items ≡ length cache.stamps
  pub pages : g.tells → AllZip IsPageState (now effect_of_entry (g.state cache.log)) snapshot.pt.items
