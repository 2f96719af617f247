-- How an item of the log in memory stores what was appended: a blob that a message names is stored apart.
use Rattle.std.specs.Prelude.{ℕ, Some, None}
use Rattle.sled_log.specs.declared.memory.item.Mark.{Mark}
use Rattle.sled_log.specs.declared.memory.item.Mark.TheVariants as marks
use Rattle.sled_log.specs.declared.memory.packed.Told.{Told}
use Rattle.sled_log.specs.declared.memory.packed.Told.TheVariants as told

abbrev pub mark_of : Told → ℕ → Mark
mark_of (told.Own kind) pid = marks.Change kind pid None
mark_of (told.Names kind held) pid = marks.Change kind pid (Some held.value)
mark_of told.Pin pid = marks.Pin
mark_of told.Seal pid = marks.Seal
mark_of told.Cancel pid = marks.Cancel
