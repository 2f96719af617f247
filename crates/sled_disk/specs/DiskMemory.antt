-- The disk in memory as the definitions of a disk see it.
use Rattle.std.specs.Prelude.{ℕ, ◌+◌, ◌==◌, Bool, ◌&&◌, not, nat_le, nat_lt, List, length, take}
use Rattle.sled_log.specs.Calls.{Counts}
use Rattle.sled_disk.specs.Journal.{DiskCall, Image, calls_in, all_synced, after_calls, MayLeave, WasLeft}
use Rattle.sled_disk.specs.declared.disk.memory.MemDisk.{MemDisk}

-- the writes and syncs that it made
abbrev pub calls_of : MemDisk → List DiskCall
calls_of disk = calls_in disk.written.items disk.calls.items

abbrev pub clock_of : MemDisk → ℕ
clock_of disk = length (calls_of disk)

-- its image after its first `moment` calls
abbrev pub image_at : ℕ → MemDisk → Image
image_at moment disk = after_calls (all_synced disk.start.items) (take moment (calls_of disk))

-- its image now
abbrev pub image_now : MemDisk → Image
image_now disk = after_calls (all_synced disk.start.items) (calls_of disk)

abbrev pub bytes_of : MemDisk → List ℕ
bytes_of disk = disk.bytes.items

-- the crash states of the current moment, and those since a moment
abbrev pub may_leave_of : MemDisk → List ℕ → Type 0
may_leave_of disk left = MayLeave (image_now disk) left

abbrev pub might_have_left : MemDisk → ℕ → List ℕ → Type 0
might_have_left disk since left = WasLeft (all_synced disk.start.items) (calls_of disk) since left

abbrev pub counts_of : MemDisk → Counts
counts_of disk = record { reads = disk.reads; failed_reads = disk.failed_reads; write_faults = disk.write_faults }

-- how many bytes may still be written, and how many writes and syncs made
abbrev pub room_of : MemDisk → ℕ × ℕ
room_of disk = (disk.bytes_left, disk.calls_left)

-- which read from now fails, and which write or sync; 0 for none
abbrev pub faults_of : MemDisk → ℕ × ℕ
faults_of disk = (disk.read_to_fail, disk.write_to_fail)

-- whether it can read its length, read n bytes at a place, sync, and write n bytes at a place
abbrev pub can_measure : MemDisk → Bool
can_measure disk = not (disk.read_to_fail == 1)

abbrev pub can_read : MemDisk → ℕ → ℕ → Bool
can_read disk at n = can_measure disk && nat_le (at + n) (length (bytes_of disk))

abbrev pub can_sync : MemDisk → Bool
can_sync disk = not (disk.write_to_fail == 1) && nat_lt 0 disk.calls_left

abbrev pub can_write : MemDisk → ℕ → ℕ → Bool
can_write disk at n = can_sync disk && (nat_le at (length (bytes_of disk)) && nat_le n disk.bytes_left)
