-- How a log returns what it stores of pages.
use Rattle.std.specs.Prelude.{◌≡◌, ℕ, ℤ, ◌<◌, true, false, List, [], ◌∷◌, map, sum_by}
use Rattle.std.specs.Global.{Vec}
use Rattle.std.specs.List.{AllByRecursion}
use Rattle.sled_base.specs.declared.kinds.MessageKind.{MessageKind}
use Rattle.sled_base.specs.declared.types.DiskPtr.{DiskPtr}
use Rattle.sled_log.specs.Chains.{is_empty}
use Rattle.sled_log.specs.Limits.{size_limit}
use Rattle.sled_log.specs.Messages.{Entry, Chain, effect_of_entry, kind_at, message_size}
use Rattle.sled_base.specs.declared.types.page_state.PageState.{PageState}
use Rattle.sled_base.specs.declared.types.page_state.PageState.TheVariants.{Present, Free}

-- the place of an entry, as `PageState` has it
abbrev pub said_of : Entry → ℤ × DiskPtr × ℕ
said_of entry = (entry.place.lsn, entry.place.pointer, entry.place.log_size)

-- where a message that frees a page is stored
abbrev pub freed_of : Entry → ℤ × DiskPtr
freed_of entry = (entry.place.lsn, entry.place.pointer)

-- A page that has a content is described by the places of its chain, a free one by that of the message that freed it.
abbrev pub IsPageState : Chain → PageState → Type 0
IsPageState chain (Present base frags) = (is_empty effect_of_entry chain ≡ false) × (map said_of chain ≡ base ∷ frags.items)
IsPageState chain (Free lsn pointer) = (is_empty effect_of_entry chain ≡ true) × (map freed_of chain ≡ (lsn, pointer) ∷ [])

-- Each log size of a chain is that of its message, and they add up to at most `i64::MAX`.
pub record IsSized (chain : Chain) : Type 0 where
  pub each : AllByRecursion (λ entry. entry.place.log_size ≡ message_size entry.message) chain
  pub total : sum_by (λ entry. entry.place.log_size) chain < size_limit

-- an entry that is stored there
abbrev pub IsAt : ℤ → DiskPtr → Entry → Type 0
IsAt lsn pointer entry = (entry.place.lsn ≡ lsn) × (entry.place.pointer ≡ pointer)

-- what a read of an entry returns: its kind, or that of its blob, and its payload
abbrev pub IsReadAs : Entry → MessageKind → List ℕ → Type 0
IsReadAs entry kind payload = (kind ≡ kind_at entry.place.pointer entry.message.kind) × (payload ≡ entry.message.payload)

-- the same, with the payload in a vector
abbrev pub IsRead : Entry → MessageKind × Vec ℕ → Type 0
IsRead entry found = IsReadAs entry found.0 found.1.items
