-- The file of a staged disk's caller: what was done to it, and what the queued tasks will make of it.
use Rattle.std.specs.Prelude.{◌≡◌, ◌+◌, ℕ, List, [], ◌∷◌, ◌++◌}
use Rattle.sled_disk.specs.Journal.{DiskCall, Write, Again, Sync, Image, after_calls, MayLeave}

-- a write as one write for each byte, in order: it may be handed out in parts
abbrev pub writes_of : ℕ → List ℕ → List DiskCall
writes_of at [] = []
writes_of at (byte ∷ bytes) = Write at (byte ∷ []) ∷ writes_of (at + 1) bytes

-- The same for tasks. Bytes that are written again are there already, and a byte is never torn: such a task changes nothing.
abbrev pub bytewise : List DiskCall → List DiskCall
bytewise [] = []
bytewise (Write at bytes ∷ later) = writes_of at bytes ++ bytewise later
bytewise (Again at bytes ∷ later) = bytewise later
bytewise (Sync ∷ later) = Sync ∷ bytewise later

-- what a read returns of a file that had this image at first, after these
abbrev pub held_after : Image → List DiskCall → List ℕ
held_after first done = (after_calls first done).seen

-- A crash may leave only the bytes that reads return.
abbrev pub IsSettled : Image → Type 0
IsSettled image = (left : List ℕ) → MayLeave image left → left ≡ image.seen
