-- The tasks of the caller of a staged disk.
use Rattle.std.specs.Prelude.{◌≡◌, ◌⊎◌, ◌≤◌, ◌<◌, ◌+◌, ℕ, Bool, true, false, List, [], ◌∷◌, ◌++◌, length, take, drop, vec_len, vec_capacity}
use Rattle.std.specs.VecDeque.{deque_len, deque_capacity}
use Rattle.sled_disk.specs.Journal.{DiskCall, Write, Again, Sync}
use Rattle.sled_disk.specs.declared.disk.staged.tasks.Task.{Task}
use Rattle.sled_disk.specs.declared.disk.staged.tasks.Task.TheVariants as task
use Rattle.sled_disk.specs.declared.disk.staged.tasks.WaitingWrite.{WaitingWrite}
use Rattle.sled_disk.specs.declared.disk.staged.tasks.Tasks.{Tasks}

-- a sync, if one is queued
abbrev pub sync_if : Bool → List DiskCall
sync_if true = Sync ∷ []
sync_if false = []

-- a write, or one of bytes that are there already
abbrev pub write_if : Bool → ℕ → List ℕ → DiskCall
write_if false at bytes = Write at bytes
write_if true at bytes = Again at bytes

-- writes whose bytes are stored end to end
abbrev pub writes_in : List WaitingWrite → List ℕ → List DiskCall
writes_in [] bytes = []
writes_in (first ∷ later) bytes = sync_if first.sync_before ++ write_if first.again first.at (take first.len bytes) ∷ writes_in later (drop first.len bytes)

abbrev pub tasks_in : Tasks → List DiskCall
tasks_in tasks = writes_in tasks.writes.items (drop tasks.handed_out tasks.bytes.items) ++ sync_if tasks.sync_last

-- whether `len` more bytes, in `count` writes, need no memory
pub record HasRoom (tasks : Tasks) (len count : ℕ) : Type 0 where
  pub bytes : vec_len tasks.bytes + len ≤ vec_capacity tasks.bytes
  pub writes : deque_len tasks.writes + count ≤ deque_capacity tasks.writes

-- Part of a write was handed out, as much as the buffer has room for, and the rest is still queued.
pub record IsPart (again : Bool) (at len : ℕ) (buffer : List ℕ) (old new : List DiskCall) : Type 0 where
  pub rest : List ℕ
  pub later : List DiskCall
  pub whole : old ≡ write_if again at (take len buffer ++ rest) ∷ later
  pub left : new ≡ write_if again (at + len) rest ∷ later
  pub some : 0 < length rest
  pub full : len ≡ length buffer

-- The first of these was a write, and it or a part of it was handed out, its bytes at the front of a buffer.
pub record IsWritten (at len : ℕ) (buffer : List ℕ) (old new : List DiskCall) : Type 0 where
  pub fits : len ≤ length buffer
  pub again : Bool
  pub out : (old ≡ write_if again at (take len buffer) ∷ new) ⊎ IsPart again at len buffer old new

-- The first task was handed out, or a part of it.
abbrev pub IsHandedOut : Task → List ℕ → List DiskCall → List DiskCall → Type 0
IsHandedOut (task.Write at len) buffer old new = IsWritten at len buffer old new
IsHandedOut task.Sync buffer old new = old ≡ Sync ∷ new
