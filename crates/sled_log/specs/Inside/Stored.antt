-- What always holds of the stored items, and what a crash makes of them.
use Rattle.std.specs.Prelude.{ℕ, suc, ◌+◌, ◌-◌, Bool, true, ◌&&◌, nat_le, nat_lt, Option, Some, None, List, [], ◌∷◌, length, ◌==◌, if◌then◌else◌}
use Rattle.sled_base.specs.declared.kinds.MessageKind.{MessageKind}
use Rattle.sled_base.specs.Kinds.{log_kind_of}
use Rattle.sled_base.specs.declared.kinds.LogKind.{LogKind}
use Rattle.sled_base.specs.declared.kinds.LogKind.TheVariants as kinds
use Rattle.sled_log.specs.Limits.{head_size}
use Rattle.sled_log.specs.declared.memory.item.Held.{Held}
use Rattle.sled_log.specs.declared.memory.item.LogItem.{LogItem as StoredItem}
use Rattle.sled_log.specs.declared.memory.item.Mark.{Mark as StoredMark}
use Rattle.sled_log.specs.declared.memory.item.Mark.TheVariants as stored
use Rattle.sled_log.specs.Events.{Event, Change, Pin, Seal, Cancel}

-- whether the blob that a message names is within a buffer of that length
abbrev pub blob_lies : ℕ → Option Held → Bool
blob_lies end None = true
blob_lies end (Some held) = nat_le (held.start + held.len) end

abbrev pub lies : ℕ → StoredMark → Bool
lies end (stored.Change kind pid blob) = blob_lies end blob
lies end stored.Pin = true
lies end stored.Seal = true
lies end stored.Cancel = true

-- whether its payload does not end before it begins
abbrev pub is_within : ℕ → StoredItem → Bool
is_within start item = nat_le start item.payload_end && lies item.payload_end item.mark

-- whether all are so, and the last of them ends there
abbrev pub are_within : ℕ → ℕ → List StoredItem → Bool
are_within start end [] = start == end
are_within start end (item ∷ items) = is_within start item && are_within item.payload_end end items

-- the log size of a mark with a payload of its own of that length
abbrev pub payload_size : ℕ → Option Held → ℕ
payload_size len None = len
payload_size len (Some held) = held.len

abbrev pub size_of_stored : StoredMark → ℕ → ℕ
size_of_stored (stored.Change kind pid blob) len = head_size + payload_size len blob
size_of_stored stored.Pin len = 0
size_of_stored stored.Seal len = 0
size_of_stored stored.Cancel len = 0

-- the number of the last item, or the given one if there is none
abbrev pub last_of : (StoredItem → ℕ) → ℕ → List StoredItem → ℕ
last_of says n [] = n
last_of says n (item ∷ items) = last_of says (says item) items

-- where a message after these items is, and where its payload is
abbrev pub place_after : ℕ → List StoredItem → ℕ
place_after place items = last_of (λ item. item.end) place items

abbrev pub start_after : ℕ → List StoredItem → ℕ
start_after start items = last_of (λ item. item.payload_end) start items

-- the event that is kept, without its place and its payload
abbrev pub bare_event_of : StoredMark → Event MessageKind
bare_event_of (stored.Change kind pid blob) = Change pid kind
bare_event_of stored.Pin = Pin
bare_event_of stored.Seal = Seal
bare_event_of stored.Cancel = Cancel

abbrev pub bare_event : StoredItem → Event MessageKind
bare_event item = bare_event_of item.mark

-- how many pages there are after one more message of that kind, if there were `pages`
abbrev pub pages_with : ℕ → ℕ → LogKind → ℕ
pages_with pages pid kinds.Free = if pid == pages then pages + 1 else pages
pages_with pages pid kinds.Replace = if pid == pages then pages + 1 else pages
pages_with pages pid kinds.Link = pages
pages_with pages pid kinds.Skip = pages
pages_with pages pid kinds.Corrupted = pages

abbrev pub pages_after : ℕ → List (Event MessageKind) → ℕ
pages_after pages [] = pages
pages_after pages (Change pid kind ∷ events) = pages_after (pages_with pages pid (log_kind_of kind)) events
pages_after pages (Pin ∷ events) = pages_after pages events
pages_after pages (Seal ∷ events) = pages_after pages events
pages_after pages (Cancel ∷ events) = pages_after pages events

-- an item that a crash left
abbrev pub restarts : StoredItem → StoredItem
restarts item = record { mark = item.mark; end = item.end; payload_end = item.payload_end; came = 0 }

-- when the last item came, and when it did by the clock: at the last moment, or at the one before if all became stable since
abbrev pub last_came : ℕ → List StoredItem → ℕ
last_came came items = last_of (λ item. item.came) came items

abbrev pub came_by : ℕ → ℕ → List StoredItem → ℕ
came_by clock stable items = if nat_lt stable (length items) then clock else clock - 1

-- 0 if it is a message, or else how many items there are before the first message after it, and one
abbrev pub before_mark : StoredMark → ℕ → ℕ
before_mark (stored.Change kind pid blob) others = 0
before_mark stored.Pin others = suc others
before_mark stored.Seal others = suc others
before_mark stored.Cancel others = suc others

-- how many items come before the first message
abbrev pub before_change : List StoredItem → ℕ
before_change [] = 0
before_change (item ∷ items) = before_mark item.mark (before_change items)
