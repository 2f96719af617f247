-- How the log in memory stores its items: one buffer has all payloads, and each item says where its own ends there. When an item
-- became stable follows from when the others came.
use Rattle.std.specs.Prelude.{◌+◌, ◌-◌, ℕ, pos, nat_lt, Option, Some, None, List, [], ◌∷◌, length, take, drop, ◌==◌, if◌then◌else◌}
use Rattle.sled_base.specs.declared.types.DiskPtr.{DiskPtr}
use Rattle.sled_base.specs.declared.types.DiskPtr.TheVariants.{Blob}
use Rattle.sled_log.specs.declared.memory.item.Held.{Held}
use Rattle.sled_log.specs.declared.memory.item.LogItem.{LogItem as StoredItem}
use Rattle.sled_log.specs.declared.memory.item.Mark.{Mark as StoredMark}
use Rattle.sled_log.specs.declared.memory.item.Mark.TheVariants as stored
use Rattle.sled_log.specs.MemLog.Items.{pointer_at}
use Rattle.sled_log.specs.MemLog.Kept.{Mark, LogItem}
use Rattle.sled_log.specs.MemLog.Kept as kept

-- When an item that was added at moment `came` became stable, by the items after it. Items are added at consecutive moments; a
-- moment that is missing is one at which all items before it became stable. The last ones became stable at `last`.
abbrev pub settled_behind : Option ℕ → ℕ → List StoredItem → Option ℕ
settled_behind last came [] = last
settled_behind last came (item ∷ items) = if item.came == came + 1 then settled_behind last item.came items else Some (came + 1)

-- an item that the log began with was stable at moment 0
abbrev pub settled_at : Option ℕ → ℕ → List StoredItem → Option ℕ
settled_at last came items = if came == 0 then Some 0 else settled_behind last came items

-- the last items are pending, or became stable at the last moment
abbrev pub last_settled : ℕ → ℕ → List StoredItem → Option ℕ
last_settled clock stable items = if nat_lt stable (length items) then None else Some clock

-- the bytes of the buffer from `start` up to `end`
abbrev pub part : ℕ → ℕ → List ℕ → List ℕ
part start end bytes = take (end - start) (drop start bytes)

-- the payload of a message, which is its own or that of the blob that it names
abbrev pub payload_of : List ℕ → List ℕ → Option Held → List ℕ
payload_of bytes payload None = payload
payload_of bytes payload (Some held) = part held.start (held.start + held.len) bytes

-- where that payload is stored
abbrev pub pointer_of : ℕ → ℕ → List ℕ → Option Held → DiskPtr
pointer_of limit place payload None = pointer_at limit place payload
pointer_of limit place payload (Some held) = Blob place held.first

-- the mark or message at that place, with its payload; a mark has none
abbrev pub kept_mark : ℕ → List ℕ → ℕ → List ℕ → StoredMark → Mark
kept_mark limit bytes place payload (stored.Change kind pid blob) = kept.Change (record { kind = kind; pid = pid; payload = payload_of bytes payload blob; lsn = pos place; pointer = pointer_of limit place payload blob })
kept_mark limit bytes place payload stored.Pin = kept.Pin
kept_mark limit bytes place payload stored.Seal = kept.Seal
kept_mark limit bytes place payload stored.Cancel = kept.Cancel

abbrev pub kept_item : ℕ → List ℕ → ℕ → List ℕ → Option ℕ → StoredItem → LogItem
kept_item limit bytes place payload settled item = record { mark = kept_mark limit bytes place payload item.mark; end = item.end; came = item.came; settled = settled }

-- the items with their payloads, if the first of them is at `place` in the log, and its payload at `start` in the buffer
abbrev pub kept_from : ℕ → List ℕ → Option ℕ → ℕ → ℕ → List StoredItem → List LogItem
kept_from limit bytes last place start [] = []
kept_from limit bytes last place start (item ∷ items) =
    kept_item limit bytes place (part start item.payload_end bytes) (settled_at last item.came items) item ∷ kept_from limit bytes last item.end item.payload_end items

-- all items of the log, by its limit above which payloads are blobs, its buffer, its clock, its number of stable items, and its
-- stored items
abbrev pub kept_items : ℕ → List ℕ → ℕ → ℕ → List StoredItem → List LogItem
kept_items limit bytes clock stable items = kept_from limit bytes (last_settled clock stable items) 0 0 items
