-- The items of the log in memory: each keeps when it came, and when it became stable.
use Rattle.std.specs.Prelude.{◌+◌, ◌≤◌, ℕ, pos, Bool, true, false, ◌&&◌, not, nat_le, Option, Some, None, List, [], ◌∷◌, ◌++◌, length, map, filter, sum_by, if◌then◌else◌}
use Rattle.sled_base.specs.Pointers.{offset_of}
use Rattle.sled_base.specs.declared.types.DiskPtr.{DiskPtr}
use Rattle.sled_base.specs.declared.types.DiskPtr.TheVariants.{Inline, Blob}
use Rattle.sled_log.specs.Chains.{chains_after}
use Rattle.sled_log.specs.Events.{Event, Change, Pin, Seal, Cancel}
use Rattle.sled_log.specs.MemLog.Kept.{KeptChange, Mark, LogItem}
use Rattle.sled_log.specs.MemLog.Kept as kept
use Rattle.sled_log.specs.Limits.{head_size}
use Rattle.sled_log.specs.Messages.{Entry, Messages, effect_of, effect_of_entry}
use Rattle.sled_log.specs.LogState.{LogState, IsLeft, unplaced_state}

-- the entry of a change, and the event that an item keeps
abbrev pub entry_of : KeptChange → Entry
entry_of change = record {
  message = record { kind = change.kind; payload = change.payload };
  place = record { lsn = change.lsn; pointer = change.pointer; log_size = head_size + length change.payload };
}

abbrev pub event_of_mark : Mark → Event Entry
event_of_mark (kept.Change change) = Change change.pid (entry_of change)
event_of_mark kept.Pin = Pin
event_of_mark kept.Seal = Seal
event_of_mark kept.Cancel = Cancel

abbrev pub event_of : LogItem → Event Entry
event_of item = event_of_mark item.mark

-- the log size of an item: a head and the payload for a change, 0 for a mark
abbrev pub size_of_mark : Mark → ℕ
size_of_mark (kept.Change change) = head_size + length change.payload
size_of_mark kept.Pin = 0
size_of_mark kept.Seal = 0
size_of_mark kept.Cancel = 0

abbrev pub log_size : List LogItem → ℕ
log_size items = sum_by (λ item. size_of_mark item.mark) items

-- a message by its page and its place, and those among items
abbrev pub named_by : Mark → List (ℕ × ℕ)
named_by (kept.Change change) = (change.pid, offset_of change.pointer) ∷ []
named_by kept.Pin = []
named_by kept.Seal = []
named_by kept.Cancel = []

abbrev pub named_in : List LogItem → List (ℕ × ℕ)
named_in [] = []
named_in (item ∷ items) = named_by item.mark ++ named_in items

-- where a payload is stored: as a blob if it is longer than the limit
abbrev pub pointer_at : ℕ → ℕ → List ℕ → DiskPtr
pointer_at limit place payload = if nat_le (length payload) limit then Inline place else Blob place (pos place)

-- whether a moment that may not have come yet is at or before another
abbrev pub was_by : ℕ → Option ℕ → Bool
was_by moment None = false
was_by moment (Some at) = nat_le at moment

-- whether the item was stable at a moment
abbrev pub was_stable : ℕ → LogItem → Bool
was_stable moment item = nat_le item.came moment && was_by moment item.settled

-- whether the item was added by a moment and was not stable then
abbrev pub was_pending : ℕ → LogItem → Bool
was_pending moment item = nat_le item.came moment && not (was_by moment item.settled)

-- what the log was at a moment
abbrev pub state_at : ℕ → List LogItem → LogState Entry
state_at moment items = record {
  stable = chains_after effect_of_entry [] (map event_of (filter (was_stable moment) items));
  pending = map event_of (filter (was_pending moment) items);
  usable = true;
}

-- what a crash at a moment from `since` on, up to `clock`, might have left
pub record WasLeft (clock : ℕ) (items : List LogItem) (since : ℕ) (pages : List Messages) : Type 0 where
  pub at : ℕ
  pub from : since ≤ at
  pub to : at ≤ clock
  pub left : IsLeft effect_of (unplaced_state (state_at at items)) [] pages
