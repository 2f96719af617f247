-- Where the messages that make a page are stored, and their stamps.
use Rattle.std.specs.Prelude.{◌≡◌, Bool, ℕ, zero, suc, ℤ, [], ◌-◌, List, ◌∷◌, length, map, slice_get, Some}
use Rattle.sled_base.specs.declared.types.DiskPtr.{DiskPtr}
use Rattle.sled_pagecache.specs.declared.pagecache.table.page_entry.CacheInfo.{CacheInfo}

-- the place of a message, as its page stores it
abbrev pub place_of : CacheInfo → ℤ × DiskPtr × ℕ
place_of info = (info.lsn, info.pointer, info.log_size)

-- The stamps of a number of messages in a row, of which the last has this stamp. Each has one less than the next, down to 0, which is the
-- stamp of a recovered message.
abbrev pub stamps_to : ℕ → ℕ → List ℕ
stamps_to stamp zero = []
stamps_to stamp (suc before) = (stamp - before) ∷ stamps_to stamp before

-- the lsn of the last of a page's messages
abbrev pub IsLast : List CacheInfo → ℤ → Type 0
IsLast infos lsn = slice_get (map (λ info. info.lsn) infos) (length infos - 1) ≡ Some lsn

-- where a message that frees a page is stored
abbrev pub place_of_freeing : CacheInfo → ℤ × DiskPtr
place_of_freeing info = (info.lsn, info.pointer)

-- the places of a page's messages, and whether one more can be added without allocating
pub record InfosView : Type 0 where
  pub items : List CacheInfo
  pub room : Bool
