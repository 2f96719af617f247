-- Rewriting a cache into the log of another file, and one in memory into a new log on which it continues.
use Rattle.std.specs.Prelude.{◌≡◌, ◌⊎◌, ℕ, true, false, [], Option, None, Some, Result, Ok, Err, IfOk, IfErr}
use Rattle.std.specs.Global.{Box}
use Rattle.std.specs.Option.{option_map}
use Rattle.sled_base.specs.declared.types.Device.TheVariants.{Write}
use Rattle.sled_base.specs.declared.types.Error.{Error}
use Rattle.sled_base.specs.declared.types.Error.TheVariants.{Unsupported, Io}
use Rattle.sled_base.specs.declared.types.Why.{Why}
use Rattle.sled_base.specs.declared.types.Why.TheVariants.{BatchOpen, LogFull}
use Rattle.sled_log.specs.Calls.{HasGrown}
use Rattle.sled_log.specs.LogState.{now, unplaced_state}
use Rattle.sled_log.specs.Messages.{effect_of_entry}
use Rattle.sled_log.specs.declared.log.Log.{Ghosts}
use Rattle.sled_log.specs.declared.memory.MemLog.{MemLog}
use Rattle.sled_log.specs.contracts.memory.calls.MemLogLog.TheImpl as mem
use Rattle.sled_log.specs.MemLog.State.{state_of}
use Rattle.sled_pagecache.specs.Answers.{HasNoName}
use Rattle.sled_pagecache.specs.Cache.{Cache, chain_at}
use Rattle.sled_pagecache.specs.Damage.{LeavesPages, ReportsSomeWrong}
use Rattle.sled_pagecache.specs.Logged.{Logged, IsLogged}
use Rattle.sled_pagecache.specs.Memory.{KeepsMemory}
use Rattle.sled_pagecache.specs.Opening.{IsBlamedOpening, Opens, RefusesOpening, fault_of}
use Rattle.sled_pagecache.specs.Rewriting.{IsBlamedRewriting, IsFullFor, IsRewritten, StaysInState}
use Rattle.sled_pagecache.specs.declared.pagecache.handles.config.Config.{Config}
use Rattle.sled_disk.specs.Staged.{seen_of}
use Rattle.sled_disk.specs.declared.disk.Disk as disks
use Rattle.sled_disk.specs.declared.disk.callers_file.CallersFile as callers
use Rattle.sled_disk.specs.declared.disk.staged.StagedDisk.{StagedDisk}
use Rattle.sled_handle.specs.FileOpenings.{IsNewLog, IsNotNew, IsOpeningOver, IsRead}
use Rattle.sled_handle.specs.Handles.{FileLog, StoreOver}
use Rattle.sled_handle.specs.Numbers as number
use Rattle.sled_handle.specs.Numbers.{number_of_error}
use Rattle.sled_handle.specs.Openings.{config_of}
use Rattle.sled_handle.specs.declared.settings.Settings.{Settings}
use Rattle.sled_handle.specs.declared.store.Store.TheVariants.{Memory, File, Begun}

-- What `rewrite_into` returns for a cache that is given this log, and what it leaves of the cache.
pub record IsAnswered {L M : Type 0} (g : Ghosts L) (h : Ghosts M) (old new : Cache L) (given : M) (answer : Result M (Error × M)) : Type 0 where
  pub stuck : old.fault ≡ true → (answer ≡ Err (Io Write, given)) × (new ≡ old)
  pub in_batch : old.fault ≡ false → old.batch ≡ true → (answer ≡ Err (Unsupported BatchOpen, given)) × (new ≡ old)
  pub rewritten : IfOk answer (IsRewritten g h old)
  pub step : StaysInState g old new
  pub left : old.fault ≡ false → LeavesPages g old new
  pub same : KeepsMemory old new
  pub fault : old.fault ≡ false → new.fault ≡ true → IfErr answer (λ e. e.0 ≡ Io Write) × HasGrown (g.counts old.log).write_faults (g.counts new.log).write_faults
  pub blame : old.fault ≡ false → IsBlamedRewriting g h old new given answer
  pub refused : g.tells → h.tells → old.fault ≡ false → old.batch ≡ false → IfErr answer (λ e. (e.0 ≡ Unsupported LogFull) ⊎ ReportsSomeWrong (chain_at (g.state old.log)) e.0)
  pub full : g.tells → h.tells → old.fault ≡ false → IfErr answer (λ e. e.0 ≡ Unsupported LogFull → IsFullFor g h old given)
  pub unnamed : IfErr answer (λ e. HasNoName e.0)

-- the contents of a box, if there is one
abbrev pub stored : {S : Type 0} → Option (Box S) → Option S
stored boxed = option_map (λ b. b.value) boxed

-- nothing is done
abbrev pub IsLeft : {L S : Type 0} → Cache L → Cache L → Option S → Option S → Type 0
IsLeft old new before after = (new ≡ old) × (after ≡ before)

module _ {F : Type 0} {f : callers.Ghosts F} {d : disks.Ghosts (StagedDisk F f)} {l : Ghosts (FileLog d)} where
  -- The handle has the log that was returned, over which a cache can be opened with the same settings, as over everything that the bytes of its file
  -- describe. Or the handle is closed, and the status is that of the error.
  abbrev pub TellsRewritten : Config → Result (FileLog d) (Error × FileLog d) → Option (StoreOver l) → ℕ → Type 0
  TellsRewritten config (Ok log) (Some (Begun opening)) status = (status ≡ number.ok) × (opening.config ≡ config) × IsRead opening log × (f.tells → IsOpeningOver (seen_of log.disk) opening)
  TellsRewritten config (Ok log) into status = ⊥
  TellsRewritten config (Err refused) into status = (status ≡ number_of_error refused.0) × (into ≡ None)

  -- A cache is rewritten into the new log of the other handle. That has none if it is closed, or has a cache, or a log that isn't new.
  abbrev pub Rewrites : {L : Type 0} → Ghosts L → Cache L → Cache L → Option (StoreOver l) → Option (StoreOver l) → ℕ → Type 0
  Rewrites g old new None into status = (status ≡ number.closed) × IsLeft old new None into
  Rewrites g old new (Some (Memory other)) into status = (status ≡ number.already_open) × IsLeft old new (Some (Memory other)) into
  Rewrites g old new (Some (File other)) into status = (status ≡ number.already_open) × IsLeft old new (Some (File other)) into
  Rewrites g old new (Some (Begun opening)) into status =
      ((status ≡ number.closed) × IsNotNew opening × IsLeft old new (Some (Begun opening)) into)
      ⊎ ((given : FileLog d) × IsNewLog opening given × ((answer : Result (FileLog d) (Error × FileLog d)) × IsAnswered g l old new given answer × TellsRewritten opening.config answer into status))

-- What `start` returns for this log.
pub record IsStarted (log : MemLog) (config : Config) (answer : Result (Cache MemLog) (Error × MemLog)) : Type 0 where
  pub opens : (held : Logged) → IsLogged (unplaced_state (mem.ghosts.state log)) held → Opens mem.ghosts log config held answer
  pub refused : IfErr answer (λ e. RefusesOpening config (now effect_of_entry (mem.ghosts.state log)) e.0)
  pub blame : IsBlamedOpening mem.ghosts log answer
  pub unnamed : IfErr answer (λ e. HasNoName e.0)
  pub closed : IfOk answer (λ cache. cache.batch ≡ false)

-- The cache that was opened replaces the one before. Or the status is that of the error, and the one before stays.
abbrev pub TellsStarted : Result (Cache MemLog) (Error × MemLog) → Cache MemLog → Cache MemLog → ℕ → Type 0
TellsStarted (Ok cache) old new status = (status ≡ number.ok) × (new ≡ cache)
TellsStarted (Err refused) old new status = (status ≡ number_of_error refused.0) × (new ≡ old)

-- A cache is opened over the log that was returned, or the status is that of the error.
abbrev pub GoesOnOver : Config → Result MemLog (Error × MemLog) → Cache MemLog → Cache MemLog → ℕ → Type 0
GoesOnOver config (Ok log) old new status = (answer : Result (Cache MemLog) (Error × MemLog)) × IsStarted log config answer × TellsStarted answer old new status
GoesOnOver config (Err refused) old new status = (status ≡ number_of_error refused.0) × (new ≡ old)

-- the log is empty
abbrev pub IsEmpty : MemLog → Type 0
IsEmpty log = state_of log ≡ record { stable = []; pending = []; usable = true }

-- The cache is rewritten into a new log, and replaced by one that is opened over that log with these settings.
pub record IsCompacted (settings : Settings) (old new : Cache MemLog) (status : ℕ) : Type 0 where
  pub faultless : fault_of (config_of settings) ≡ None
  pub given : MemLog
  pub empty : IsEmpty given
  pub left : Cache MemLog
  pub answer : Result MemLog (Error × MemLog)
  pub is : IsAnswered mem.ghosts mem.ghosts old left given answer
  pub goes_on : GoesOnOver (config_of settings) answer left new status

-- An invalid setting is reported first.
abbrev pub Compacts : Settings → Cache MemLog → Cache MemLog → ℕ → Type 0
Compacts settings old new status =
    ((why : Why) × (fault_of (config_of settings) ≡ Some why) × (status ≡ number_of_error (Unsupported why)) × (new ≡ old)) ⊎ IsCompacted settings old new status
