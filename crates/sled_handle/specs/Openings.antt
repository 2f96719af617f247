-- Opening a cache over a new log in memory in a handle.
use Rattle.std.specs.Prelude.{◌≡◌, ℕ, false, [], Option, None, Some}
use Rattle.sled_base.specs.declared.types.Error.{Error}
use Rattle.sled_base.specs.declared.types.Error.TheVariants.{Unsupported}
use Rattle.sled_base.specs.declared.types.Why.{Why}
use Rattle.sled_log.specs.contracts.memory.calls.MemLogLog.TheImpl as mem
use Rattle.sled_log.specs.declared.memory.MemLog.{MemLog}
use Rattle.sled_pagecache.specs.Cache.{Cache, Represents}
use Rattle.sled_pagecache.specs.Logged.{Logged}
use Rattle.sled_pagecache.specs.Opening.{RefusesOpening, fault_of, opened_state}
use Rattle.sled_pagecache.specs.declared.pagecache.handles.config.Config.{Config}
use Rattle.sled_log.specs.declared.log.Log.{Ghosts}
use Rattle.sled_disk.specs.declared.disk.Disk as disks
use Rattle.sled_disk.specs.declared.disk.callers_file.CallersFile as callers
use Rattle.sled_disk.specs.declared.disk.staged.StagedDisk.{StagedDisk}
use Rattle.sled_handle.specs.Handles.{FileLog, StoreOver}
use Rattle.sled_handle.specs.Numbers as number
use Rattle.sled_handle.specs.Numbers.{number_of_error}
use Rattle.sled_handle.specs.declared.settings.Settings.{Settings}
use Rattle.sled_handle.specs.declared.store.Store.TheVariants.{Memory}

abbrev pub config_of : Settings → Config
config_of settings = record { cache_capacity = settings.cache_capacity; idgen_persist_interval = settings.idgen_persist_interval; segment_size = settings.segment_size }

-- The cache is new, with these settings, none of which is invalid: its pages are those that every cache has, they are durable, and no batch is open.
pub record IsNew (config : Config) (cache : Cache MemLog) : Type 0 where
  pub faultless : fault_of config ≡ None
  pub settings : cache.config ≡ config
  pub held : Logged
  pub is : Represents mem.ghosts cache held (opened_state config [])
  pub stable : held.pending ≡ []
  pub closed : cache.batch ≡ false

abbrev pub IsNewStore : {F : Type 0} {f : callers.Ghosts F} {d : disks.Ghosts (StagedDisk F f)} {l : Ghosts (FileLog d)} → Settings → StoreOver l → Type 0
IsNewStore settings (Memory cache) = IsNew (config_of settings) cache
IsNewStore settings store = ⊥

-- An invalid setting is reported, and otherwise what kept the cache from being opened over an empty log.
pub record TellsWhy (settings : Settings) (status : ℕ) : Type 0 where
  pub error : Error
  pub why : RefusesOpening (config_of settings) [] error
  pub is : status ≡ number_of_error error
  pub settings_first : (fault : Why) → fault_of (config_of settings) ≡ Some fault → error ≡ Unsupported fault

-- A closed handle is opened, or stays closed. An open one stays as it is.
abbrev pub OpenHandle : {F : Type 0} {f : callers.Ghosts F} {d : disks.Ghosts (StagedDisk F f)} {l : Ghosts (FileLog d)} → Settings → Option (StoreOver l) → Option (StoreOver l) → ℕ → Type 0
OpenHandle settings (Some old) new status = (status ≡ number.already_open) × (new ≡ Some old)
OpenHandle settings None (Some new) status = (status ≡ number.ok) × IsNewStore settings new
OpenHandle settings None None status = TellsWhy settings status
