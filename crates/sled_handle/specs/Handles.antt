-- What a handle owns of the store that its pointer points to, and what a call through it does.
use Rattle.std.specs.Prelude.{◌≡◌, ◌≢◌, ◌⊎◌, ℕ, Bool, true, false, Option, None, Some}
use base.Fml.{Fml, feq, fsep, fex}
use denote.RattleType.{RattleType}
use denote.RawPtr.{Ptr}
use Rattle.std_alloc.specs.Box.Ownership.{box_owns}
use Rattle.std.specs.declared.alloc.Global.{Global}
use Rattle.std.specs.contracts.impls.GlobalAllocator.TheImpl.{ghosts}
use Rattle.sled_log.specs.declared.log.Log.{Ghosts}
use Rattle.sled_log.specs.declared.memory.MemLog.{MemLog}
use Rattle.sled_log.specs.contracts.memory.calls.MemLogLog.TheImpl as mem
use Rattle.sled_disk.specs.Served.{OnlyDisk}
use Rattle.sled_disk.specs.Staged.{Forgets, failed}
use Rattle.sled_disk.specs.declared.disk.Disk as disks
use Rattle.sled_disk.specs.declared.disk.callers_file.CallersFile as callers
use Rattle.sled_disk.specs.declared.disk.staged.StagedDisk.{StagedDisk}
use Rattle.sled_disk.specs.declared.log.DiskLog.{DiskLog}
use Rattle.sled_pagecache.specs.Cache.{Cache}
use Rattle.sled_pagecache.specs.Served.{IsServed}
use Rattle.sled_handle.specs.Numbers as number
use Rattle.sled_handle.specs.declared.store.Store.{Store}
use Rattle.sled_handle.specs.declared.store.Store.TheVariants.{Memory, File, Begun}

-- A closed handle owns nothing, and an open one owns a value on the heap.
abbrev pub handle_owns : (R : RattleType) → Ptr → Bool → Option R.Denot → Fml
handle_owns R at is_open None = feq Bool is_open false
handle_owns R at is_open (Some x) = fsep (feq Bool is_open true) (fex Global (λ heap. box_owns (ghosts.dealloc_token heap) R at x))

-- What a call does with a cache, over any log, and its status.
abbrev pub Does : Type 1
Does = (L : Type 0) → Ghosts L → Cache L → Cache L → ℕ → Type 0

-- the log in a caller's file, whatever is known of the file and of its disk
abbrev pub FileLog : {F : Type 0} {f : callers.Ghosts F} → disks.Ghosts (StagedDisk F f) → Type 0
FileLog {F} {f} d = DiskLog (StagedDisk F f) d

-- the store of a handle, over such a log
abbrev pub StoreOver : {F : Type 0} {f : callers.Ghosts F} {d : disks.Ghosts (StagedDisk F f)} → Ghosts (FileLog d) → Type 0
StoreOver {F} {f} {d} l = Store F (FileLog d) f l

module _ {F : Type 0} {f : callers.Ghosts F} {d : disks.Ghosts (StagedDisk F f)} where
  -- A write or a sync of the file failed before, so nothing is done.
  abbrev pub HasFailed : Cache (FileLog d) → Cache (FileLog d) → ℕ → Type 0 → Type 0
  HasFailed old new status stays = (failed old.log.disk ≡ true) × (status ≡ number.write) × (new ≡ old) × stays

module _ {F : Type 0} {f : callers.Ghosts F} {d : disks.Ghosts (StagedDisk F f)} (l : Ghosts (FileLog d)) where
  -- The cache is the same except for the disk of its file, of which this holds.
  pub record IsBut (holds : StagedDisk F f → StagedDisk F f → Type 0) (old new : Cache (FileLog d)) : Type 0 where
    pub served : IsServed l old new
    pub disk : OnlyDisk holds old.log new.log

  -- The status of a call over a file, from the call's own: NEEDS, with everything unchanged, if a read of the file failed because bytes of it are
  -- needed; otherwise the call's own, and the bytes that were handed in are dropped.
  abbrev pub IsTold : Cache (FileLog d) → Cache (FileLog d) → ℕ → ℕ → Type 0
  IsTold then new own status =
      ((own ≡ number.read) × (then.log.disk.stage.needs ≢ None) × (status ≡ number.needs) × (new ≡ then))
      ⊎ ((own ≡ number.read → then.log.disk.stage.needs ≡ None) × (status ≡ own) × IsBut Forgets then new)

  -- No write or sync failed before: the cache does this with its own status, from which the status of the call is made.
  pub record DoesOver (old new : Cache (FileLog d)) (status : ℕ) (does : Cache (FileLog d) → Cache (FileLog d) → ℕ → Type 0) : Type 0 where
    pub works : failed old.log.disk ≡ false
    pub then : Cache (FileLog d)
    pub own : ℕ
    pub done : does old then own
    pub told : IsTold then new own status

module _ {F : Type 0} {f : callers.Ghosts F} {d : disks.Ghosts (StagedDisk F f)} {l : Ghosts (FileLog d)} where
  -- The cache of a store does this with its own status. A store that is being opened stays as it is: the status says that no cache is open, and what
  -- the call would write to stays unchanged.
  abbrev pub ThroughStore : StoreOver l → StoreOver l → ℕ → Type 0 → Does → Type 0
  ThroughStore (Memory old) (Memory new) status stays does = does MemLog mem.ghosts old new status
  ThroughStore (File old) (File new) status stays does = HasFailed old new status stays ⊎ DoesOver l old new status (does (FileLog d) l)
  ThroughStore (Begun old) (Begun new) status stays does = (status ≡ number.closed) × (new ≡ old) × stays
  ThroughStore old new status stays does = ⊥

  -- The same of a call that isn't available over a file.
  abbrev pub InMemory : StoreOver l → StoreOver l → ℕ → Type 0 → (Cache MemLog → Cache MemLog → ℕ → Type 0) → Type 0
  InMemory (Memory old) (Memory new) status stays does = does old new status
  InMemory (File old) (File new) status stays does =
      HasFailed old new status stays ⊎ ((failed old.log.disk ≡ false) × (status ≡ number.not_over_file) × (new ≡ old) × stays)
  InMemory (Begun old) (Begun new) status stays does = (status ≡ number.closed) × (new ≡ old) × stays
  InMemory old new status stays does = ⊥

  -- The store of an open handle does this, and the handle stays open. A closed handle stays closed, and what the call would write to stays unchanged.
  abbrev pub Through : Option (StoreOver l) → Option (StoreOver l) → ℕ → Type 0 → Does → Type 0
  Through None None status stays does = (status ≡ number.closed) × stays
  Through (Some old) (Some new) status stays does = ThroughStore old new status stays does
  Through old new status stays does = ⊥

  abbrev pub ThroughMemory : Option (StoreOver l) → Option (StoreOver l) → ℕ → Type 0 → (Cache MemLog → Cache MemLog → ℕ → Type 0) → Type 0
  ThroughMemory None None status stays does = (status ≡ number.closed) × stays
  ThroughMemory (Some old) (Some new) status stays does = InMemory old new status stays does
  ThroughMemory old new status stays does = ⊥

  -- The handle is closed afterwards.
  abbrev pub CloseHandle : Option (StoreOver l) → Option (StoreOver l) → ℕ → Type 0
  CloseHandle None new status = (new ≡ None) × (status ≡ number.closed)
  CloseHandle (Some old) new status = (new ≡ None) × (status ≡ number.ok)
