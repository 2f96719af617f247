-- Opening a cache over a file whose bytes the program reads and hands in.
use Rattle.std.specs.Prelude.{◌≡◌, ◌⊎◌, ℕ, ⊤, false, List, [], ◌∷◌, ◌++◌, Option, None, Some, Ok, Err}
use Rattle.sled_base.specs.declared.types.Error.{Error}
use Rattle.sled_base.specs.declared.types.Error.TheVariants.{Unsupported}
use Rattle.sled_base.specs.declared.types.Why.{Why}
use Rattle.sled_disk.specs.Format as format
use Rattle.sled_disk.specs.RecoveredLog.{IsLogOf}
use Rattle.sled_disk.specs.Served.{StaysALog}
use Rattle.sled_disk.specs.Staged.{Forgets, seen_of}
use Rattle.sled_log.specs.declared.log.Log.{Ghosts}
use Rattle.sled_disk.specs.declared.disk.Disk as disks
use Rattle.sled_disk.specs.declared.disk.callers_file.CallersFile as callers
use Rattle.sled_disk.specs.declared.disk.staged.StagedDisk.{StagedDisk}
use Rattle.sled_pagecache.specs.Cache.{Cache}
use Rattle.sled_pagecache.specs.Opening.{fault_of}
use Rattle.sled_pagecache.specs.Reopening.{Started}
use Rattle.sled_pagecache.specs.declared.pagecache.handles.config.Config.{Config}
use Rattle.sled_handle.specs.Files.{OpeningOver, StepOver}
use Rattle.sled_handle.specs.Handles.{FileLog, IsBut, StoreOver}
use Rattle.sled_handle.specs.Numbers as number
use Rattle.sled_handle.specs.Numbers.{number_of_error}
use Rattle.sled_handle.specs.declared.settings.FileSettings.{FileSettings}
use Rattle.sled_handle.specs.declared.opening.Step.TheVariants.{Unread, Reading, Unsynced, Read}
use Rattle.sled_handle.specs.declared.opening.read_log.ReadLog.{ReadLog}
use Rattle.sled_handle.specs.declared.store.Store.TheVariants.{Memory, File, Begun}

-- the status is that of an error
abbrev pub IsFailure : ℕ → Type 0
IsFailure status = (error : Error) × (status ≡ number_of_error error)

-- A cache was opened with these settings, none of which is invalid, and no batch is open.
pub record IsOpened {L : Type 0} (config : Config) (cache : Cache L) : Type 0 where
  pub faultless : fault_of config ≡ None
  pub closed : cache.batch ≡ false

abbrev pub config_of : FileSettings → Config
config_of settings = record { cache_capacity = settings.cache_capacity; idgen_persist_interval = settings.idgen_persist_interval; segment_size = settings.segment_size }

-- if a setting is invalid, the status says which one
abbrev pub TellsFault : Config → ℕ → Type 0
TellsFault config status = (why : Why) → fault_of config ≡ Some why → status ≡ number_of_error (Unsupported why)

-- the number of bytes in the file of a log that holds nothing
abbrev pub new_size : ℕ
new_size = 9

-- the bytes of a file once it has a log: its own, or those of a log that holds nothing if it is empty
abbrev pub with_log : List ℕ → List ℕ
with_log [] = format.opening ++ 0 ∷ []
with_log (byte ∷ bytes) = byte ∷ bytes

module _ {F : Type 0} {f : callers.Ghosts F} {d : disks.Ghosts (StagedDisk F f)} (l : Ghosts (FileLog d)) where
  -- nothing was ever made durable in the log, and it holds no page
  abbrev pub IsUnused : FileLog d → Type 0
  IsUnused log = (l.bytes log ≡ new_size) × (log.pages.items ≡ [])

module _ {F : Type 0} {f : callers.Ghosts F} {d : disks.Ghosts (StagedDisk F f)} {l : Ghosts (FileLog d)} where
  -- An opening with these settings continues: bytes are needed, or the cache is open, or the handle is closed and the status is that of the failure.
  abbrev pub GoesOn : Config → Option (StoreOver l) → ℕ → Type 0
  GoesOn config (Some (Begun opening)) status = (status ≡ number.needs) × (opening.config ≡ config)
  GoesOn config (Some (File cache)) status = (status ≡ number.ok) × IsOpened config cache
  GoesOn config (Some (Memory cache)) status = ⊥
  GoesOn config None status = IsFailure status

  -- a store with these settings over which nothing is open yet
  abbrev pub IsBegun : Config → StoreOver l → Type 0
  IsBegun config (Begun opening) = opening.config ≡ config
  IsBegun config store = ⊥

  abbrev pub IsBeingOpened : StoreOver l → Type 0
  IsBeingOpened (Begun opening) = ⊤
  IsBeingOpened store = ⊥

  -- the same of a store that stays in its handle
  abbrev pub GoesOnIn : StoreOver l → StoreOver l → ℕ → Type 0
  GoesOnIn (Begun opening) new status = GoesOn opening.config (Some new) status
  GoesOnIn old new status = (status ≡ number.already_open) × (new ≡ old)

  -- An opening is begun, or one that was begun continues. An invalid setting is reported first, and the handle stays closed. An open handle stays as
  -- it is.
  abbrev pub OpenFile : FileSettings → Option (StoreOver l) → Option (StoreOver l) → ℕ → Type 0
  OpenFile settings None None status = IsFailure status × TellsFault (config_of settings) status
  OpenFile settings None (Some new) status = (fault_of (config_of settings) ≡ None) × GoesOn (config_of settings) (Some new) status
  OpenFile settings (Some (Begun opening)) new status = GoesOn opening.config new status
  OpenFile settings (Some (Memory old)) new status = (status ≡ number.already_open) × (new ≡ Some (Memory old))
  OpenFile settings (Some (File old)) new status = (status ≡ number.already_open) × (new ≡ Some (File old))

  -- the log of the file was read, and no cache is open over it yet
  abbrev pub IsRead : OpeningOver l → FileLog d → Type 0
  IsRead opening log = (read : ReadLog (FileLog d) l) × (opening.step ≡ Some (Read read)) × (read.log ≡ log)

  abbrev pub HasRead : OpeningOver l → Type 0
  HasRead opening = (log : FileLog d) × IsRead opening log

  -- this log was read, and is unused
  abbrev pub IsNewLog : OpeningOver l → FileLog d → Type 0
  IsNewLog opening log = IsRead opening log × IsUnused l log

  -- no log was read that is unused
  abbrev pub IsNotNew : OpeningOver l → Type 0
  IsNotNew opening = (log : FileLog d) → IsRead opening log → ¬ IsUnused l log

  -- An opening with these settings continues until its log is read: bytes are needed, or it is read, or the handle is closed and the status is that
  -- of the failure.
  abbrev pub ReadsOn : Config → Option (StoreOver l) → ℕ → Type 0
  ReadsOn config (Some (Begun opening)) status = (opening.config ≡ config) × ((status ≡ number.needs) ⊎ ((status ≡ number.ok) × HasRead opening))
  ReadsOn config (Some store) status = ⊥
  ReadsOn config None status = IsFailure status

  -- the same of a store that stays in its handle
  abbrev pub ReadsOnIn : StoreOver l → StoreOver l → ℕ → Type 0
  ReadsOnIn (Begun opening) new status = ReadsOn opening.config (Some new) status
  ReadsOnIn old new status = (status ≡ number.already_open) × (new ≡ old)

  -- The log of a file is begun, or an opening that was begun continues, and no cache is opened. An invalid setting is reported first, and the handle
  -- stays closed. An open handle stays as it is.
  abbrev pub OpenLog : FileSettings → Option (StoreOver l) → Option (StoreOver l) → ℕ → Type 0
  OpenLog settings None None status = IsFailure status × TellsFault (config_of settings) status
  OpenLog settings None (Some new) status = (fault_of (config_of settings) ≡ None) × ReadsOn (config_of settings) (Some new) status
  OpenLog settings (Some (Begun opening)) new status = ReadsOn opening.config new status
  OpenLog settings (Some (Memory old)) new status = (status ≡ number.already_open) × (new ≡ Some (Memory old))
  OpenLog settings (Some (File old)) new status = (status ≡ number.already_open) × (new ≡ Some (File old))

-- ---- which bytes of a file that is

module _ {F : Type 0} {f : callers.Ghosts F} {d : disks.Ghosts (StagedDisk F f)} (l : Ghosts (FileLog d)) where
  -- The log has everything that the bytes describe. Attempts to open a cache over it may have failed because bytes of the file were needed, the last
  -- one first in the list, and may have added pages of the cache's own.
  abbrev pub IsTried : Config → List ℕ → List (FileLog d) → FileLog d → Type 0
  IsTried config bytes [] log = IsLogOf bytes (l.state log)
  IsTried config bytes (before ∷ earlier) log =
      IsTried config bytes earlier before × ((refused : Error × FileLog d) × Started l before config (Err refused) × StaysALog l refused.1 log)

  pub record IsLogOver (config : Config) (bytes : List ℕ) (log : FileLog d) : Type 0 where
    pub tried : List (FileLog d)
    pub is : IsTried config bytes tried log

  -- The cache was opened, as `start` opens one, over a log of everything that these bytes describe.
  pub record IsOpenedOver (config : Config) (bytes : List ℕ) (cache : Cache (FileLog d)) : Type 0 where
    pub log : FileLog d
    pub over : IsLogOver config bytes log
    pub first : Cache (FileLog d)
    pub started : Started l log config (Ok first)
    pub same : IsBut l Forgets first cache

module _ {F : Type 0} {f : callers.Ghosts F} {d : disks.Ghosts (StagedDisk F f)} {l : Ghosts (FileLog d)} where
  -- An opening at this step is over these bytes: a read of its disk returns them, or its log has what they describe.
  abbrev pub IsStepOver : Config → List ℕ → Option (StepOver l) → Type 0
  IsStepOver config bytes None = ⊥
  IsStepOver config bytes (Some (Unread disk)) = seen_of disk ≡ bytes
  IsStepOver config bytes (Some (Reading part)) = seen_of part.disk ≡ bytes
  IsStepOver config bytes (Some (Unsynced part)) = seen_of part.disk ≡ bytes
  IsStepOver config bytes (Some (Read read)) = IsLogOver l config bytes read.log

  abbrev pub IsOpeningOver : List ℕ → OpeningOver l → Type 0
  IsOpeningOver bytes opening = IsStepOver opening.config bytes opening.step

  -- The store was made from these bytes, with these settings: an opening, or a cache that was opened.
  abbrev pub IsStoreOver : Config → List ℕ → StoreOver l → Type 0
  IsStoreOver config bytes (Memory cache) = ⊥
  IsStoreOver config bytes (File cache) = IsOpenedOver l config bytes cache
  IsStoreOver config bytes (Begun opening) = (opening.config ≡ config) × IsOpeningOver bytes opening
