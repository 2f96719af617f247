-- Changes of a batch that wait for its end, by their heads.
use Rattle.std.specs.Prelude.{◌≡◌, ℕ, true, List, Option}
use Rattle.sled_base.specs.Kinds.{log_kind_of}
use Rattle.sled_disk.specs.declared.recovery.head.Head.{Head}
use Rattle.sled_disk.specs.Format.{is_changing, taken, takes_change}
use Rattle.sled_disk.specs.RecoveredHeads.{EndsBy}
use Rattle.sled_disk.specs.Reading.{effect_of_head, head_at}

-- the chains after these changes, if each is allowed
abbrev pub taken_by : List (List Head) → List (ℕ × Head) → Option (List (List Head))
taken_by chains changes = taken head_at (takes_change effect_of_head) chains changes

-- it is a change of a page
abbrev pub IsChanging : ℕ × Head → Type 0
IsChanging change = is_changing (log_kind_of change.1.kind) ≡ true

-- and its record ends at that place or before it
abbrev pub IsWaiting : ℕ → ℕ × Head → Type 0
IsWaiting end change = IsChanging change × EndsBy end change.1
