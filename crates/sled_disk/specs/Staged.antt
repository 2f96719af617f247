-- A disk whose caller does the reading and writing.
use Rattle.std.specs.Prelude.{◌≡◌, ◌⊎◌, ℕ, Bool, true, false, List, [], ◌∷◌, ◌++◌, Option, None, Some, length}
use Rattle.sled_log.specs.Calls.{Counts}
use Rattle.sled_disk.specs.CallersFile.{bytewise, held_after}
use Rattle.sled_disk.specs.Disk.{LeavesNoMore, overlaid}
use Rattle.sled_disk.specs.StagedReads.{AreWithin, ArePieces, StandOver, StandsAt, after_task, seen_in}
use Rattle.sled_disk.specs.Journal.{DiskCall, Again, Image, MayLeave, WasLeft, after_calls}
use Rattle.sled_disk.specs.DiskReads.{Rests}
use Rattle.sled_disk.specs.Tasks.{IsHandedOut, tasks_in}
use Rattle.sled_disk.specs.declared.disk.Disk as disk
use Rattle.sled_disk.specs.declared.disk.callers_file.CallersFile.{Ghosts}
use Rattle.sled_disk.specs.declared.disk.staged.stage.Stage.{Stage}
use Rattle.sled_disk.specs.declared.disk.staged.tasks.Task.{Task}
use Rattle.sled_disk.specs.declared.disk.staged.StagedDisk.{StagedDisk}

-- Nothing was handed out. Either no task is queued or one has failed, and everything is unchanged; or this task fails, if one may.
abbrev pub HandsNone : Type 0 → Stage → Stage → Type 0
HandsNone may_fail old new = (((tasks_in old.tasks ≡ []) ⊎ (old.failed ≡ true)) × (new ≡ old)) ⊎ (may_fail × (old.failed ≡ false) × (new ≡ record old { failed = true }))

module _ {F : Type 0} {g : Ghosts F} where
  -- how often a disk was read, and how often its caller failed to read or write
  abbrev pub counts_of : StagedDisk F g → Counts
  counts_of disk = record { reads = disk.reads; failed_reads = disk.failed_reads; write_faults = disk.write_faults }

  -- the tasks that are queued for the caller, in order
  abbrev pub waiting : StagedDisk F g → List DiskCall
  waiting disk = tasks_in disk.stage.tasks

  -- whether nothing was written since the last sync
  abbrev pub synced : StagedDisk F g → Bool
  synced disk = disk.stage.tasks.is_synced

  -- whether a write or a sync of its caller failed
  abbrev pub failed : StagedDisk F g → Bool
  failed disk = disk.stage.failed

  -- The same tasks are queued, and no others: none was added, done or lost, none was applied to the file, and no sync is needed that was
  -- not.
  pub record StillWaits (old new : StagedDisk F g) : Type 0 where
    pub file : new.file ≡ old.file
    pub waiting : waiting new ≡ waiting old
    pub synced : synced new ≡ synced old
    pub failed : failed new ≡ failed old

  -- One byte is written again at a place.
  abbrev pub WritesByte : ℕ → StagedDisk F g → StagedDisk F g → Type 0
  WritesByte at old new = (byte : List ℕ) × (length byte ≡ 1) × (waiting new ≡ waiting old ++ Again at byte ∷ [])

  -- The disk is the same except for the bytes that were handed in, and what is needed.
  pub record IsFed (old new : StagedDisk F g) : Type 0 where
    pub tasks : new.stage.tasks ≡ old.stage.tasks
    pub failed : failed new ≡ failed old
    pub file : new.file ≡ old.file
    pub len : new.len ≡ old.len
    pub counts : counts_of new ≡ counts_of old

  -- The disk is the same except for the queued tasks, and the file, to which a task was applied.
  pub record IsWorkedOff (old new : StagedDisk F g) : Type 0 where
    pub synced : synced new ≡ synced old
    pub pieces : new.stage.pieces ≡ old.stage.pieces
    pub needs : new.stage.needs ≡ old.stage.needs
    pub failed : failed new ≡ failed old
    pub len : new.len ≡ old.len
    pub counts : counts_of new ≡ counts_of old

  -- A task of the caller failed: none is handed out from then on, and none is queued later. The disk is otherwise the same.
  pub record Fails (old new : StagedDisk F g) : Type 0 where
    pub stage : new.stage ≡ record old.stage { failed = true }
    pub file : new.file ≡ old.file
    pub len : new.len ≡ old.len
    pub counts : counts_of new ≡ counts_of old

  -- The first queued task was handed out, or a part of it; or nothing was.
  abbrev pub HandsOut : Option Task → List ℕ → StagedDisk F g → StagedDisk F g → Type 0
  HandsOut (Some task) buffer old new = (failed old ≡ false) × IsHandedOut task buffer (waiting old) (waiting new) × IsWorkedOff old new
  HandsOut None buffer old new = HandsNone g.may_fail old.stage new.stage × (new.len ≡ old.len) × (counts_of new ≡ counts_of old)

  -- Bytes of a file were handed in at a place: if the file had all pieces at their places, it has them with these bytes too. The disk is
  -- otherwise the same.
  pub record TakesIn (at : ℕ) (bytes : List ℕ) (old new : StagedDisk F g) : Type 0 where
    pub fed : IsFed old new
    pub pieces : (file : List ℕ) → AreWithin file (waiting old) → StandsAt at bytes file
        → ArePieces old.stage.pieces (seen_in file old.stage.tasks) → ArePieces new.stage.pieces (seen_in file old.stage.tasks)

  -- All pieces were dropped, and so was what is needed. The disk is otherwise the same.
  pub record Forgets (old new : StagedDisk F g) : Type 0 where
    pub fed : IsFed old new
    pub pieces : new.stage.pieces.pieces.items ≡ []
    pub needs : new.stage.needs ≡ None

  -- what a read must return if the tasks of the disk are still to be done to the file
  abbrev pub seen_over : List ℕ → StagedDisk F g → List ℕ
  seen_over file disk = seen_in file disk.stage.tasks

  -- The disk agrees with this file.
  abbrev pub IsOver : List ℕ → StagedDisk F g → Type 0
  IsOver file disk = StandOver file disk.stage disk.len

  -- It still does after a call, and a read must return the same.
  pub record StaysOver (file : List ℕ) (old new : StagedDisk F g) : Type 0 where
    pub over : IsOver file new
    pub seen : seen_over file new ≡ seen_over file old

  -- A read returned these bytes of it at a place.
  abbrev pub ReadsOver : List ℕ → StagedDisk F g → ℕ → List ℕ → Type 0
  ReadsOver file disk at bytes = StandsAt at bytes (seen_over file disk)

  -- It has these bytes at a place after a write.
  pub record WritesOver (file : List ℕ) (at : ℕ) (bytes : List ℕ) (old new : StagedDisk F g) : Type 0 where
    pub over : IsOver file new
    pub written : seen_over file new ≡ overlaid (seen_over file old) at bytes

  -- A task was done to the file, and the disk agrees with the result.
  pub record HandsOver (file : List ℕ) (task : Task) (buffer : List ℕ) (old new : StagedDisk F g) : Type 0 where
    pub over : IsOver (after_task file task buffer) new
    pub seen : seen_over (after_task file task buffer) new ≡ seen_over file old

  -- ---- the caller's own file

  -- what it holds once all tasks that were handed out are done
  abbrev pub holds : StagedDisk F g → List ℕ
  holds disk = held_after (g.first disk.file) (g.done disk.file)

  -- what was done to it, and what is queued, byte by byte
  abbrev pub calls_of : StagedDisk F g → List DiskCall
  calls_of disk = g.done disk.file ++ bytewise (waiting disk)

  -- its image once the queued tasks are done
  abbrev pub image_of : StagedDisk F g → Image
  image_of disk = after_calls (g.first disk.file) (calls_of disk)

  -- what a read returns then
  abbrev pub seen_of : StagedDisk F g → List ℕ
  seen_of disk = seen_over (holds disk) disk

  -- the crash states of the current moment, and those since a moment
  abbrev pub may_leave_of : StagedDisk F g → List ℕ → Type 0
  may_leave_of disk left = MayLeave (image_of disk) left

  abbrev pub might_have_left : StagedDisk F g → ℕ → List ℕ → Type 0
  might_have_left disk since left = WasLeft (g.first disk.file) (calls_of disk) since left

  abbrev pub clock_of : StagedDisk F g → ℕ
  clock_of disk = length (calls_of disk)

  -- A disk has done all tasks that were handed out: its reads return what the caller's file holds, and its crash states are among those of
  -- that file.
  pub record IsDoneOn {D : Type 0} (d : disk.Ghosts D) (staged : StagedDisk F g) (other : D) : Type 0 where
    pub seen : d.seen other ≡ holds staged
    pub may : LeavesNoMore (MayLeave (after_calls (g.first staged.file) (g.done staged.file))) (d.may_leave other)

  -- A read must return the same, and the crash states are the same.
  abbrev pub StaysTheSame : StagedDisk F g → StagedDisk F g → Type 0
  StaysTheSame old new = Rests g.tells seen_of may_leave_of clock_of might_have_left old new

  -- The disk has `size` bytes, and nothing was done since it was made.
  pub record IsBegun (size : ℕ) (disk : StagedDisk F g) : Type 0 where
    pub len : disk.len ≡ size
    pub none : waiting disk ≡ []
    pub unsynced : synced disk ≡ false
    pub works : failed disk ≡ false
    pub counts : counts_of disk ≡ record { reads = 0; failed_reads = 0; write_faults = 0 }
    pub over : (bytes : List ℕ) → length bytes ≡ size → IsOver bytes disk
