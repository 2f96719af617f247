-- The log in memory as the definitions of a log see it.
use Rattle.std.specs.Prelude.{ℕ, ◌+◌, Option, List, length, take, drop, Result, ⊤}
use Rattle.sled_log.specs.Calls.{Called, Counts}
use Rattle.sled_log.specs.Events.{Event}
use Rattle.sled_log.specs.MemLog.Items.{state_at, WasLeft, log_size, named_in}
use Rattle.sled_log.specs.MemLog.Kept.{LogItem}
use Rattle.sled_log.specs.Messages.{Entry, Message, Messages, effect_of_entry}
use Rattle.sled_log.specs.LogState.{LogState, now}
use Rattle.sled_log.specs.Moves.{Moves, due_among}
use Rattle.sled_log.specs.MemLog.Stored.{kept_items}
use Rattle.sled_log.specs.declared.log.LogError.{LogError}
use Rattle.sled_log.specs.declared.memory.MemLog.{MemLog}

-- its items
abbrev pub kept_in : MemLog → List LogItem
kept_in log = kept_items log.blob_limit log.bytes.items log.clock log.stable log.items.items

abbrev pub state_of : MemLog → LogState Entry
state_of log = state_at log.clock (kept_in log)

abbrev pub clock_of : MemLog → ℕ
clock_of log = log.clock

-- the crash states since that moment
abbrev pub might_have_left : MemLog → ℕ → List Messages → Type 0
might_have_left log since pages = WasLeft log.clock (kept_in log) since pages

-- the log sizes of all messages, of the durable ones, and of the pending ones
abbrev pub size_of : MemLog → ℕ
size_of log = log_size (kept_in log)

abbrev pub stable_size_of : MemLog → ℕ
stable_size_of log = log_size (take log.stable (kept_in log))

-- the log sizes of what a crash keeps, added up: all that is durable, and the first `n` pending events
abbrev pub kept_size_of : MemLog → ℕ → ℕ
kept_size_of log n = log_size (take (log.stable + n) (kept_in log))

-- no device can fail
abbrev pub counts_of : MemLog → Counts
counts_of log = record { reads = log.reads; failed_reads = 0; write_faults = 0 }

abbrev pub settings_of : MemLog → ℕ × ℕ
settings_of log = (log.blob_limit, log.clean_every)

-- the messages that a crash keeps: all durable ones, and those of the first `n` pending events
abbrev pub kept_names_of : MemLog → ℕ → List (ℕ × ℕ)
kept_names_of log n = named_in (take (log.stable + n) (kept_in log))

-- the messages from the cursor on, and which of them is due
abbrev pub moves_of : MemLog → Moves
moves_of log = record { waiting = named_in (drop log.cursor (kept_in log)); appended = log.appended }

abbrev pub due_of : MemLog → Option (ℕ × ℕ)
due_of log = due_among (length (now effect_of_entry (state_of log))) log.clean_every (moves_of log)

-- what a call does that reads no message
abbrev pub CalledHere : {T : Type 0} → MemLog → MemLog → (T → List (Event Entry)) → List (Event Message) → Result T LogError → Type 0
CalledHere old new events begun result = Called ⊤ state_of clock_of might_have_left counts_of old new (counts_of old).reads events begun result
