-- A log on a disk that may be called.
use Rattle.std.specs.Prelude.{◌≡◌, ◌⊎◌, ◌+◌, ◌≤◌, ◌^◌, Bool, true, ℕ, List, [], map, length}
use Rattle.sled_log.specs.Chains.{chains_after}
use Rattle.sled_log.specs.Events.{Event}
use Rattle.sled_log.specs.LogState.{LogState}
use Rattle.sled_log.specs.Messages.{Messages, Entry, messages_of, effect_of_entry}
use Rattle.sled_disk.specs.Format.{Describes}
use Rattle.sled_disk.specs.Pending.{room_after}

-- The bytes describe no pages other than these.
abbrev pub Means : List ℕ → List Messages → Type 0
Means bytes pages = (events : List (Event Entry)) → Describes bytes events → pages ≡ map messages_of (chains_after effect_of_entry [] events)

-- A crash leaves these pages if it leaves bytes that describe no others. So if it may leave bytes that describe nothing, it may leave any
-- pages.
abbrev pub LeavesPages : (List ℕ → Type 0) → List Messages → Type 0
LeavesPages left pages = (bytes : List ℕ) × left bytes × Means bytes pages

-- A log in this state holds everything that the bytes describe, durable, has nothing pending, and may be called.
abbrev pub IsLogOf : List ℕ → LogState Entry → Type 0
IsLogOf bytes state = (events : List (Event Entry)) × Describes bytes events × (state ≡ record { stable = chains_after effect_of_entry [] events; pending = []; usable = true })

-- the file describes these events, or those
abbrev pub IsEither : List (Event Entry) → List (Event Entry) → List ℕ → Type 0
IsEither before after bytes = Describes bytes before ⊎ Describes bytes after

-- the first bytes describe events, and the others describe the same
abbrev pub SameMeaning : List ℕ → List ℕ → Type 0
SameMeaning bytes left = (events : List (Event Entry)) × Describes bytes events × Describes left events

-- Every crash state that was added describes the same events as the bytes that a read returned before, which describe some; and none is
-- forgotten.
pub record LeavesTheMeaning {D : Type 0} (tells : Type 0) (seen : D → List ℕ) (may_leave : D → List ℕ → Type 0) (moment : D → ℕ) (left_since : D → ℕ → List ℕ → Type 0) (old new : D) : Type 0 where
  pub may : tells → (left : List ℕ) → may_leave new left → may_leave old left ⊎ SameMeaning (seen old) left
  pub later : tells → moment old ≤ moment new
  pub nothing_else : tells → (t : ℕ) (left : List ℕ) → t ≤ moment old → left_since new t left → left_since old t left ⊎ SameMeaning (seen old) left
  pub kept : tells → (t : ℕ) (left : List ℕ) → t ≤ moment old → left_since old t left → left_since new t left

-- A log with a gate at that place and this buffer has no room for a message with a payload of n bytes: the place of the next gate, or, if a
-- batch is open then, of the gate after the frame that closes it, would be above the greatest i64.
abbrev pub IsFull : ℕ → List ℕ → Bool → ℕ → Type 0
IsFull gate buffer batch n = 2 ^ 63 ≤ gate + length buffer + 18 + n + room_after batch
