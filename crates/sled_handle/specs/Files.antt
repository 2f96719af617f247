-- The disk of a file: what it needs, and what the program gives it.
use Rattle.std.specs.Prelude.{◌≡◌, ◌⊎◌, ℕ, Bool, true, false, List, Option, None, Some, IfSome}
use Rattle.sled_disk.specs.StagedReads.{StandsAt}
use Rattle.sled_disk.specs.Served.{OnlyDisk, StaysALog}
use Rattle.sled_disk.specs.Staged.{HandsOut, StaysTheSame, TakesIn, failed, holds}
use Rattle.sled_log.specs.declared.log.Log.{Ghosts}
use Rattle.sled_disk.specs.declared.disk.Disk as disks
use Rattle.sled_disk.specs.declared.disk.callers_file.CallersFile as callers
use Rattle.sled_disk.specs.declared.disk.staged.StagedDisk.{StagedDisk}
use Rattle.sled_disk.specs.declared.disk.staged.tasks.Task.{Task}
use Rattle.sled_disk.specs.declared.disk.staged.tasks.Task.TheVariants.{Write, Sync}
use Rattle.sled_handle.specs.Handles.{FileLog, IsBut, StoreOver}
use Rattle.sled_handle.specs.Numbers as number
use Rattle.sled_handle.specs.declared.through.device.FileTask.{FileTask}
use Rattle.sled_handle.specs.declared.opening.Opening.{Opening}
use Rattle.sled_handle.specs.declared.opening.Step.{Step}
use Rattle.sled_handle.specs.declared.opening.Step.TheVariants.{Unread, Reading, Unsynced, Read}
use Rattle.sled_handle.specs.declared.store.Store.TheVariants.{Memory, File, Begun}

abbrev pub nothing_to_do : FileTask
nothing_to_do = record { kind = 0; at = 0; len = 0 }

-- a task as the program reads it
abbrev pub told_task : Option Task → FileTask
told_task None = nothing_to_do
told_task (Some (Write at len)) = record { kind = 1; at = at; len = len }
told_task (Some Sync) = record { kind = 2; at = 0; len = 0 }

-- both are 0 if no bytes are needed
abbrev pub TellsNeeds : Option (ℕ × ℕ) → ℕ → ℕ → Type 0
TellsNeeds None at len = (at ≡ 0) × (len ≡ 0)
TellsNeeds (Some needed) at len = (at ≡ needed.0) × (len ≡ needed.1)

-- an opening over a caller's file, and its step
abbrev pub OpeningOver : {F : Type 0} {f : callers.Ghosts F} {d : disks.Ghosts (StagedDisk F f)} → Ghosts (FileLog d) → Type 0
OpeningOver {F} {f} {d} l = Opening F (FileLog d) f l

abbrev pub StepOver : {F : Type 0} {f : callers.Ghosts F} {d : disks.Ghosts (StagedDisk F f)} → Ghosts (FileLog d) → Type 0
StepOver {F} {f} {d} l = Step F (FileLog d) f l

module _ {F : Type 0} {f : callers.Ghosts F} where
  -- This holds of the disk. A read returns the same bytes as before, and a crash may leave the same.
  abbrev pub DiskIsBut : (StagedDisk F f → StagedDisk F f → Type 0) → StagedDisk F f → StagedDisk F f → Type 0
  DiskIsBut told old new = told old new × StaysTheSame old new

  -- whether a write or a sync of a disk failed, if there is one
  abbrev pub has_failed : Option (StagedDisk F f) → Bool
  has_failed None = false
  has_failed (Some disk) = failed disk

  -- The file has these bytes at this place, once every task that was handed out is done.
  abbrev pub AreIn : ℕ → List ℕ → Option (StagedDisk F f) → Type 0
  AreIn at bytes disk = IfSome disk (λ d. StandsAt at bytes (holds d))

module _ {F : Type 0} {f : callers.Ghosts F} {d : disks.Ghosts (StagedDisk F f)} {l : Ghosts (FileLog d)} where
  -- The step of an opening is the same except for its disk, of which this holds, and whose bytes stay.
  abbrev pub StepIsBut : (StagedDisk F f → StagedDisk F f → Type 0) → Option (StepOver l) → Option (StepOver l) → Type 0
  StepIsBut told None new = new ≡ None
  StepIsBut told (Some (Unread old)) (Some (Unread new)) = DiskIsBut told old new
  StepIsBut told (Some (Reading old)) (Some (Reading new)) = (new.reader ≡ old.reader) × DiskIsBut told old.disk new.disk
  StepIsBut told (Some (Unsynced old)) (Some (Unsynced new)) = (new.reader ≡ old.reader) × DiskIsBut told old.disk new.disk
  StepIsBut told (Some (Read old)) (Some (Read new)) = OnlyDisk told old.log new.log × StaysALog l old.log new.log
  StepIsBut told old new = ⊥

  abbrev pub OpeningIsBut : (StagedDisk F f → StagedDisk F f → Type 0) → OpeningOver l → OpeningOver l → Type 0
  OpeningIsBut told old new = (new ≡ record old { step = new.step }) × StepIsBut told old.step new.step

  -- The store is the same except for the disk of its file, of which this holds.
  abbrev pub StoreIsBut : (StagedDisk F f → StagedDisk F f → Type 0) → StoreOver l → StoreOver l → Type 0
  StoreIsBut told (Memory old) new = new ≡ Memory old
  StoreIsBut told (File old) (File new) = IsBut l told old new
  StoreIsBut told (Begun old) (Begun new) = OpeningIsBut told old new
  StoreIsBut told old new = ⊥

  -- the disk of an opening, if it has one
  abbrev pub disk_at : Option (StepOver l) → Option (StagedDisk F f)
  disk_at None = None
  disk_at (Some (Unread disk)) = Some disk
  disk_at (Some (Reading part)) = Some part.disk
  disk_at (Some (Unsynced part)) = Some part.disk
  disk_at (Some (Read read)) = Some read.log.disk

  -- the disk of a store, if it has one
  abbrev pub disk_in : StoreOver l → Option (StagedDisk F f)
  disk_in (Memory cache) = None
  disk_in (File cache) = Some cache.log.disk
  disk_in (Begun opening) = disk_at opening.step

  -- the place and the number of the bytes of the file that are needed, if any are
  abbrev pub needed_in : StoreOver l → Option (ℕ × ℕ)
  needed_in (Memory cache) = None
  needed_in (File cache) = cache.log.disk.stage.needs
  needed_in (Begun opening) = opening.needs

  -- The task of the file that was handed out is written, or that there is none.
  abbrev pub HandsTask : FileTask → List ℕ → StoreOver l → StoreOver l → Type 0
  HandsTask told buffer old new = (task : Option Task) × (told ≡ told_task task) × StoreIsBut (HandsOut task buffer) old new

  -- The answer about a file is written; or a write or a sync of it failed, and then everything stays. A cache in memory has no file, so there is
  -- nothing to report.
  abbrev pub AsksStore : StoreOver l → StoreOver l → ℕ → Type 0 → Type 0 → (StoreOver l → StoreOver l → Type 0) → Type 0
  AsksStore (Memory old) new status stays nothing told = (new ≡ Memory old) × (status ≡ number.ok) × nothing
  AsksStore old new status stays nothing told =
      ((has_failed (disk_in old) ≡ true) × (status ≡ number.write) × (new ≡ old) × stays)
      ⊎ ((has_failed (disk_in old) ≡ false) × (status ≡ number.ok) × told old new)

  -- Bytes of the file are handed in at a place, likewise: an allocation may fail, or a write or a sync may have failed before.
  abbrev pub HandsInStore : ℕ → List ℕ → StoreOver l → StoreOver l → ℕ → Type 0
  HandsInStore at bytes (Memory old) new status = (new ≡ Memory old) × (status ≡ number.ok)
  HandsInStore at bytes old new status =
      ((has_failed (disk_in old) ≡ true) × (status ≡ number.write) × (new ≡ old))
      ⊎ ((has_failed (disk_in old) ≡ false) × ((status ≡ number.ok) ⊎ (status ≡ number.memory)) × StoreIsBut (TakesIn at bytes) old new)

  -- The same of the store of a handle: a closed handle stays closed.
  abbrev pub Asks : Option (StoreOver l) → Option (StoreOver l) → ℕ → Type 0 → Type 0 → (StoreOver l → StoreOver l → Type 0) → Type 0
  Asks None new status stays nothing told = (new ≡ None) × (status ≡ number.closed) × stays
  Asks (Some old) (Some new) status stays nothing told = AsksStore old new status stays nothing told
  Asks (Some old) None status stays nothing told = ⊥

  abbrev pub HandsIn : ℕ → List ℕ → Option (StoreOver l) → Option (StoreOver l) → ℕ → Type 0
  HandsIn at bytes None new status = (new ≡ None) × (status ≡ number.closed)
  HandsIn at bytes (Some old) (Some new) status = HandsInStore at bytes old new status
  HandsIn at bytes (Some old) None status = ⊥

  -- The disk of the file is changed in this way. Nothing else changes.
  abbrev pub Tells : (StagedDisk F f → StagedDisk F f → Type 0) → Option (StoreOver l) → Option (StoreOver l) → ℕ → Type 0
  Tells told None new status = (new ≡ None) × (status ≡ number.closed)
  Tells told (Some old) (Some new) status = (status ≡ number.ok) × StoreIsBut told old new
  Tells told (Some old) None status = ⊥
