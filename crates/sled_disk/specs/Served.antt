-- A log of which only the disk changes.
use Rattle.std.specs.Prelude.{◌≡◌, ◌≤◌, ℕ, List}
use Rattle.sled_log.specs.Events.{is_open}
use Rattle.sled_log.specs.Messages.{Messages}
use Rattle.sled_log.specs.declared.log.Log as log
use Rattle.sled_disk.specs.declared.disk.Disk.{Ghosts}
use Rattle.sled_disk.specs.declared.log.DiskLog.{DiskLog}

-- The log is the same except for its disk, for which `holds` is true.
pub record OnlyDisk {D : Type 0} {g : Ghosts D} (holds : D → D → Type 0) (old new : DiskLog D g) : Type 0 where
  pub disk : holds old.disk new.disk
  pub segment_size : new.segment_size ≡ old.segment_size
  pub clean_every : new.clean_every ≡ old.clean_every
  pub pages : new.pages ≡ old.pages
  pub names : new.names ≡ old.names
  pub next : new.next ≡ old.next
  pub usable : new.usable ≡ old.usable
  pub reads : new.reads ≡ old.reads

-- The log stays in its state, whatever its device does. If the device tells its bytes, no crash state was added and none is forgotten.
pub record StaysALog {L : Type 0} (g : log.Ghosts L) (old new : L) : Type 0 where
  pub usable : (g.state new).usable ≡ (g.state old).usable
  pub opened : is_open (g.state new).pending ≡ is_open (g.state old).pending
  pub counts : g.counts new ≡ g.counts old
  pub state : g.tells → g.state new ≡ g.state old
  pub later : g.tells → g.moment old ≤ g.moment new
  pub nothing_else : g.tells → (t : ℕ) (pages : List Messages) → t ≤ g.moment old → g.left_since new t pages → g.left_since old t pages
  pub kept : g.tells → (t : ℕ) (pages : List Messages) → t ≤ g.moment old → g.left_since old t pages → g.left_since new t pages
