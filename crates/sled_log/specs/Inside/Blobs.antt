-- The blobs that a log in memory stores, and the messages that held them first.
use Rattle.std.specs.Prelude.{◌==◌, ◌&&◌, ℕ, ℤ, pos, Bool, true, false, List, [], ◌∷◌, ◌++◌, map}
use Rattle.std.specs.Ordering.{int_eq}
use Rattle.std.specs.List.{list_any}
use Rattle.std.specs.Str.{bytes_eq}
use Rattle.sled_base.specs.Kinds.{byte_of}
use Rattle.sled_base.specs.declared.kinds.MessageKind.{MessageKind}
use Rattle.sled_base.specs.declared.types.DiskPtr.{DiskPtr}
use Rattle.sled_base.specs.declared.types.DiskPtr.TheVariants.{Inline, Blob}
use Rattle.sled_log.specs.MemLog.Kept.{KeptChange, Mark, LogItem}
use Rattle.sled_log.specs.MemLog.Kept as kept

abbrev pub marks_of : List LogItem → List Mark
marks_of items = map (λ item. item.mark) items

-- whether the pointer is that of a message whose place names the blob
abbrev pub is_own : ℤ → DiskPtr → Bool
is_own blob (Inline place) = false
is_own blob (Blob place named) = int_eq named blob && int_eq blob (pos place)

-- whether a message held the blob first, with that kind and that payload
abbrev pub is_first : ℤ → MessageKind → List ℕ → Mark → Bool
is_first blob kind payload (kept.Change first) = is_own blob first.pointer && ((byte_of first.kind == byte_of kind) && bytes_eq first.payload payload)
is_first blob kind payload kept.Pin = false
is_first blob kind payload kept.Seal = false
is_first blob kind payload kept.Cancel = false

abbrev pub is_held_at : List Mark → KeptChange → DiskPtr → Bool
is_held_at marks change (Inline place) = true
is_held_at marks change (Blob place blob) = list_any (is_first blob change.kind change.payload) marks

-- whether one of these held the blob first that a message names
abbrev pub is_held : List Mark → Mark → Bool
is_held marks (kept.Change change) = is_held_at marks change change.pointer
is_held marks kept.Pin = true
is_held marks kept.Seal = true
is_held marks kept.Cancel = true

-- whether that is so for each of these, after others and those before it
abbrev pub are_held : List Mark → List Mark → Bool
are_held before [] = true
are_held before (mark ∷ marks) = is_held (before ++ mark ∷ []) mark && are_held (before ++ mark ∷ []) marks
