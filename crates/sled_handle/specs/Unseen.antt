-- The store of a handle over a file that the contracts don't see.
use denote.RattleType.{RattleType}
use Rattle.sled_log.specs.declared.log.Log as logs
use Rattle.sled_disk.specs.declared.disk.Disk as disks
use Rattle.sled_disk.specs.contracts.disk.callers_file.UnseenFile as unseen
use Rattle.sled_disk.specs.contracts.disk.callers_file.UnseenFileCallersFile.TheImpl as caller
use Rattle.sled_disk.specs.contracts.disk.staged.StagedDisk as staged
use Rattle.sled_disk.specs.contracts.log.DiskLog as log
use Rattle.sled_handle.specs.contracts.store.Store as store

abbrev pub disk_row : RattleType
disk_row = staged.the_row unseen.the_row caller.ghosts

abbrev pub log_row : disks.Ghosts disk_row.Denot → RattleType
log_row d = log.the_row disk_row d

-- by what the disk's trait, and the log's, say of it
abbrev pub store_row : (d : disks.Ghosts disk_row.Denot) → logs.Ghosts (log_row d).Denot → RattleType
store_row d l = store.the_row unseen.the_row (log_row d) caller.ghosts l
