-- What the program does over the log of a disk.
use Rattle.std.specs.Prelude.{◌≡◌, ◌⊎◌, ℕ, false, List, [], ◌∷◌, ◌++◌, Option, Result, Ok, Err}
use Rattle.sled_base.specs.Order.{Bytes}
use Rattle.sled_log.specs.declared.log.Log.{Ghosts}
use Rattle.sled_disk.specs.Format.{opening}
use Rattle.sled_disk.specs.RecoveredLog.{IsLogOf}
use Rattle.sled_pagecache.specs.Cache.{Cache}
use Rattle.sled_pagecache.specs.Reopening.{Started}
use Rattle.sled_pagecache.specs.declared.pagecache.handles.config.Config.{Config}
use Rattle.sled_script.specs.Runs.{Serves}
use Rattle.sled_script.specs.declared.program.Fault.{Fault}
use Rattle.sled_script.specs.declared.program.Fault.TheVariants.{Opening, Run}
use Rattle.sled_script.specs.declared.run.RunError.TheVariants.{Memory}

-- the bytes of a disk once it has a log: its own, or those of a log that holds nothing if it is empty
abbrev pub with_log : List ℕ → List ℕ
with_log [] = opening ++ 0 ∷ []
with_log (byte ∷ bytes) = byte ∷ bytes

module _ {L : Type 0} (g : Ghosts L) where
  -- The cache was opened, as `start` opens one, over a log of everything that these bytes of a disk describe, durable.
  pub record IsOpenedOver (config : Config) (bytes : List ℕ) (cache : Cache L) : Type 0 where
    pub log : L
    pub holds : IsLogOf (with_log bytes) (g.state log)
    pub started : Started g log config (Ok cache)
    pub closed : cache.batch ≡ false

  -- The script was run over this cache. If there was no memory for that, nothing was written.
  abbrev pub RunsOver : Cache L → Option Bytes → Option Bytes → Option Bytes → Result Unit Fault → Type 0
  RunsOver cache input old new (Ok done) = (after : Cache L) × Serves g cache input old new (Ok done) after
  RunsOver cache input old new (Err (Run e)) = ((after : Cache L) × Serves g cache input old new (Err e) after) ⊎ ((e ≡ Memory) × (new ≡ old))
  RunsOver cache input old new (Err (Opening e)) = ⊥

  -- The script was run over a cache that was opened over the contents of the disk. If none was opened, nothing was written.
  abbrev pub ServesOver : Config → List ℕ → Option Bytes → Option Bytes → Option Bytes → Result Unit Fault → Type 0
  ServesOver config bytes input old new (Ok done) = (cache : Cache L) × IsOpenedOver config bytes cache × RunsOver cache input old new (Ok done)
  ServesOver config bytes input old new (Err (Run e)) = (cache : Cache L) × IsOpenedOver config bytes cache × RunsOver cache input old new (Err (Run e))
  ServesOver config bytes input old new (Err (Opening e)) = new ≡ old
