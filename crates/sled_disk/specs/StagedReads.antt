-- Pieces of a file that were handed in, and what a read must return.
use Rattle.std.specs.Prelude.{◌≡◌, ◌⊎◌, ◌≤◌, ◌<◌, ◌+◌, ⊤, ℕ, Bool, true, false, nat_le, ◌||◌, List, [], ◌∷◌, ◌++◌, length, take, drop, get_or}
use Rattle.std.specs.List.{All}
use Rattle.sled_disk.specs.Disk.{Follows, LeavesNoMore, Only, Torn, overlaid}
use Rattle.sled_disk.specs.Journal.{DiskCall, Write, Again, Sync}
use Rattle.sled_disk.specs.CallersFile.{bytewise}
use Rattle.sled_disk.specs.Tasks.{tasks_in, write_if}
use Rattle.sled_disk.specs.declared.disk.staged.pieces.Piece.{Piece}
use Rattle.sled_disk.specs.declared.disk.staged.pieces.Pieces.{Pieces}
use Rattle.sled_disk.specs.declared.disk.staged.stage.Stage.{Stage}
use Rattle.sled_disk.specs.declared.disk.staged.tasks.Task.{Task}
use Rattle.sled_disk.specs.declared.disk.staged.tasks.Task.TheVariants as task
use Rattle.sled_disk.specs.declared.disk.staged.tasks.Tasks.{Tasks}

-- the file has these bytes at a place
abbrev pub StandsAt : ℕ → List ℕ → List ℕ → Type 0
StandsAt at bytes file = (i : ℕ) → i < length bytes → get_or bytes i 0 ≡ get_or file (at + i) 0

-- the file has the bytes of each piece at its place
abbrev pub ArePieces : Pieces → List ℕ → Type 0
ArePieces pieces file = All (λ piece. StandsAt piece.at piece.bytes.items file) pieces.pieces.items

-- whether a piece has no bytes from one place up to another
abbrev pub is_outside : ℕ → ℕ → Piece → Bool
is_outside from to piece = nat_le to piece.at || nat_le (piece.at + length piece.bytes.items) from

-- all bytes are the same before one place, and from another on
abbrev pub SameOutside : ℕ → ℕ → List ℕ → List ℕ → Type 0
SameOutside from to old new = (i : ℕ) → (i < from) ⊎ (to ≤ i) → get_or new i 0 ≡ get_or old i 0

-- a file after these tasks are done
abbrev pub after_tasks : List ℕ → List DiskCall → List ℕ
after_tasks file [] = file
after_tasks file (Write at bytes ∷ later) = after_tasks (overlaid file at bytes) later
after_tasks file (Again at bytes ∷ later) = after_tasks file later
after_tasks file (Sync ∷ later) = after_tasks file later

-- a file after its caller has done a task, the bytes of which are at the front of a buffer
abbrev pub after_task : List ℕ → Task → List ℕ → List ℕ
after_task file (task.Write at len) buffer = overlaid file at (take len buffer)
after_task file task.Sync buffer = file

-- what a read must return if these tasks are still to be done to the file
abbrev pub seen_in : List ℕ → Tasks → List ℕ
seen_in file tasks = after_tasks file (tasks_in tasks)

-- bytes that are at a place of a file
abbrev pub IsThere : ℕ → List ℕ → List ℕ → Type 0
IsThere at bytes file = take (length bytes) (drop at file) ≡ bytes

-- each write begins within the file or at its end, and what is written again is there already
abbrev pub AreWithin : List ℕ → List DiskCall → Type 0
AreWithin file [] = ⊤
AreWithin file (Write at bytes ∷ later) = (at ≤ length file) × AreWithin (overlaid file at bytes) later
AreWithin file (Again at bytes ∷ later) = IsThere at bytes file × AreWithin file later
AreWithin file (Sync ∷ later) = AreWithin file later

-- A write was done to a file with these bytes: what it adds to what was done, byte by byte. Bytes that are written again are there already,
-- and at most one.
pub record AddsWrite (file : List ℕ) (at : ℕ) (bytes : List ℕ) (old new : List DiskCall) : Type 0 where
  pub again : Bool
  pub done : new ≡ old ++ bytewise (write_if again at bytes ∷ [])
  pub begins : again ≡ false → at ≤ length file
  pub there : again ≡ true → IsThere at bytes file
  pub alone : again ≡ true → length bytes ≤ 1

-- a task was done, the bytes of which are at the front of a buffer
abbrev pub AddsTask : List ℕ → Task → List ℕ → List DiskCall → List DiskCall → Type 0
AddsTask file (task.Write at len) buffer old new = AddsWrite file at (take len buffer) old new
AddsTask file task.Sync buffer old new = new ≡ old ++ Sync ∷ []

-- its bytes fit into the buffer
abbrev pub FitsIn : Task → List ℕ → Type 0
FitsIn (task.Write at len) buffer = len ≤ length buffer
FitsIn task.Sync buffer = ⊤

-- What a crash may leave of a disk with these bytes after a write, done or not: what it might have left before, torn; and if the write is
-- of a byte that is there already, nothing more.
pub record LeavesWrite (at : ℕ) (bytes file : List ℕ) (old new : List ℕ → Type 0) : Type 0 where
  pub torn : Follows (Torn at (length bytes)) old new
  pub again : length bytes ≤ 1 → IsThere at bytes file → LeavesNoMore old new

-- the same for a task
abbrev pub LeavesTask : Task → List ℕ → List ℕ → (List ℕ → Type 0) → (List ℕ → Type 0) → Type 0
LeavesTask (task.Write at len) buffer file old new = LeavesWrite at (take len buffer) file old new
LeavesTask task.Sync buffer file old new = LeavesNoMore old new

-- what a sync does that succeeded
abbrev pub SettlesTask : Task → List ℕ → (List ℕ → Type 0) → Type 0
SettlesTask (task.Write at len) file new = ⊤
SettlesTask task.Sync file new = Only file new

-- a task that changes no byte from one place up to another
abbrev pub LeavesBetween : ℕ → ℕ → DiskCall → Type 0
LeavesBetween from to (Write at bytes) = (at + length bytes ≤ from) ⊎ (to ≤ at)
LeavesBetween from to (Again at bytes) = ⊤
LeavesBetween from to Sync = ⊤

-- The file with which these tasks and pieces agree, once all that was handed out is done: each queued task is within it, the pieces are
-- bytes that a read must return, and `size` is the length after the queued tasks.
pub record StandOver (file : List ℕ) (stage : Stage) (size : ℕ) : Type 0 where
  pub within : AreWithin file (tasks_in stage.tasks)
  pub pieces : ArePieces stage.pieces (seen_in file stage.tasks)
  pub len : size ≡ length (seen_in file stage.tasks)
