-- A record of a page by its place.
use Rattle.std.specs.Prelude.{◌≡◌, ◌<◌, ℕ, List, length, get_or}
use Rattle.sled_disk.specs.declared.recovery.head.Head.{Head}

-- the head is one of these, and its record is at that place
abbrev pub IsHeadOf : ℕ → Head → List Head → Type 0
IsHeadOf at head chain = (i : ℕ) × (i < length chain) × (head ≡ get_or chain i head) × (head.place ≡ at)
