-- What a call of the log in memory leaves of it.
use Rattle.std.specs.Prelude.{◌≡◌, ℕ, ◌+◌, ◌≤◌, Option, List, ◌++◌, drop, Result, IfOk, OnErr}
use Rattle.sled_log.specs.Events.{Event}
use Rattle.sled_log.specs.MemLog.Items.{state_at, log_size}
use Rattle.sled_log.specs.Messages.{Entry, Message, message}
use Rattle.sled_log.specs.LogState.{LogState}
use Rattle.sled_log.specs.declared.log.LogError.{LogError}
use Rattle.sled_log.specs.declared.memory.MemLog.{MemLog}
use Rattle.sled_log.specs.MemLog.Kept.{Mark}
use Rattle.sled_log.specs.MemLog.State.{clock_of, kept_in, settings_of, state_of}
use Rattle.sled_log.specs.MemLog.Stored.{kept_mark, last_settled, payload_of}
use Rattle.sled_log.specs.declared.memory.item.Held.{Held}
use Rattle.sled_log.specs.declared.memory.item.Mark.{Mark as StoredMark}
use Rattle.sled_base.specs.declared.kinds.MessageKind.{MessageKind}

-- what the log was at a moment
abbrev pub was_at : ℕ → MemLog → LogState Entry
was_at moment log = state_at moment (kept_in log)

-- A call takes one moment at most, and what the log was at earlier ones stays.
pub record Remembers (old new : MemLog) : Type 0 where
  pub later : clock_of old ≤ clock_of new
  pub one : clock_of new ≤ clock_of old + 1
  pub past : (moment : ℕ) → moment ≤ clock_of old → was_at moment new ≡ was_at moment old

-- when its last items became stable
abbrev pub last_in : MemLog → Option ℕ
last_in log = last_settled log.clock log.stable log.items.items

abbrev pub pending_size_of : MemLog → ℕ
pending_size_of log = log_size (drop log.stable (kept_in log))

-- What a call of the log in memory does that makes nothing durable: the stable chains are the same, and the events come after the
-- pending ones. An error leaves these unchanged too.
pub record MovesNothing {T : Type 0} (old new : MemLog) (events : T → List (Event Entry)) (result : Result T LogError) : Type 0 where
  pub settings : settings_of new ≡ settings_of old
  pub stable : (state_of new).stable ≡ (state_of old).stable
  pub ok : IfOk result (λ answer. (state_of new).pending ≡ (state_of old).pending ++ events answer)
  pub err : OnErr result ((state_of new).pending ≡ (state_of old).pending)

-- what the log keeps of a mark that is added with that payload, and of a message
abbrev pub mark_in : MemLog → StoredMark → List ℕ → Mark
mark_in log mark payload = kept_mark log.blob_limit log.bytes.items log.size payload mark

abbrev pub put_message : MemLog → MessageKind → Option Held → List ℕ → Message
put_message log kind blob payload = message kind (payload_of log.bytes.items payload blob)
