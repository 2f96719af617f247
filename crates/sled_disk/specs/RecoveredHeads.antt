-- What an opening read.
use Rattle.std.specs.Prelude.{◌≡◌, ◌≤◌, get_or, length, ◌+◌, ◌<◌, ◌^◌, List, ℕ, ℤ, pos, true, false, [], ◌∷◌, take, drop, map, Some}
use Rattle.std.specs.List.{AllByRecursion}
use Rattle.sled_log.specs.Chains.{is_chain, is_empty}
use Rattle.sled_log.specs.Messages.{Chain}
use Rattle.sled_base.specs.Kinds.{kind_of}
use Rattle.sled_base.specs.declared.types.DiskPtr.{DiskPtr}
use Rattle.sled_base.specs.declared.types.DiskPtr.TheVariants.{Inline}
use Rattle.sled_base.specs.declared.types.page_state.PageState.{PageState}
use Rattle.sled_base.specs.declared.types.page_state.PageState.TheVariants.{Present, Free}
use Rattle.sled_disk.specs.declared.recovery.head.Head.{Head}
use Rattle.sled_disk.specs.Format.{opening, number}
use Rattle.sled_disk.specs.Reading.{Read, start, found_at, entry_in, effect_of_head}

-- The bytes were read up to the closed gate at that place.
pub record AreRead (bytes : List ℕ) (gate : ℕ) (read : Read) : Type 0 where
  pub opens : take 8 bytes ≡ opening
  pub found : found_at 8 start (drop 8 bytes) ≡ Some (gate, read)

-- the chains that these heads represent in these bytes
abbrev pub entries_in : List ℕ → List (List Head) → List Chain
entries_in bytes heads = map (map (entry_in bytes)) heads

-- the record of a head ends at a place that an LSN can represent
abbrev pub IsPlaced : Head → Type 0
IsPlaced head = head.place + (17 + head.len) < 2 ^ 63

-- a head's record ends at that place or before it, and so does each one of all pages
abbrev pub EndsBy : ℕ → Head → Type 0
EndsBy end head = head.place + (17 + head.len) ≤ end

abbrev pub AllEndBy : ℕ → List (List Head) → Type 0
AllEndBy end chains = AllByRecursion (AllByRecursion (EndsBy end)) chains

-- the heads of a page
pub record AreHeads (heads : List Head) : Type 0 where
  pub chain : is_chain effect_of_head heads ≡ true
  pub placed : AllByRecursion IsPlaced heads

-- the heads of a page, whose records end at that place or before it
abbrev pub AreHeadsBy : ℕ → List Head → Type 0
AreHeadsBy end heads = (is_chain effect_of_head heads ≡ true) × AllByRecursion (EndsBy end) heads

-- the place of a head's record, as `PageState` has it
abbrev pub said_of_head : Head → ℤ × DiskPtr × ℕ
said_of_head head = (pos head.place, Inline head.place, 17 + head.len)

abbrev pub freed_of_head : Head → ℤ × DiskPtr
freed_of_head head = (pos head.place, Inline head.place)

-- the page has the places of these heads
abbrev pub IsShown : List Head → PageState → Type 0
IsShown chain (Present base frags) = (is_empty effect_of_head chain ≡ false) × (map said_of_head chain ≡ base ∷ frags.items)
IsShown chain (Free lsn pointer) = (is_empty effect_of_head chain ≡ true) × (map freed_of_head chain ≡ (lsn, pointer) ∷ [])

-- a head's kind and length are in the bytes at its place, and its payload is within them
pub record IsWrittenIn (bytes : List ℕ) (head : Head) : Type 0 where
  pub kind : kind_of (get_or (drop head.place bytes) 0 0) ≡ head.kind
  pub len : number (take 8 (drop (head.place + 9) bytes)) ≡ head.len
  pub within : head.place + (17 + head.len) ≤ length bytes
