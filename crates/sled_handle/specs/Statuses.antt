-- What a status says of the result of a call, and what is written besides.
use Rattle.std.specs.Prelude.{◌≡◌, ◌==◌, ◌<◌, ◌-◌, ◌^◌, if◌then◌else◌, nat_lt, ℕ, length, take, drop, Result, Ok, Err, Option, None, Some, ◌⊎◌}
use Rattle.sled_base.specs.Order.{Bytes}
use Rattle.sled_base.specs.declared.types.Error.{Error}
use Rattle.sled_pagecache.specs.State.{Token, stamp_of}
use Rattle.sled_pagecache.specs.Step.{Swapped, RootSwap}
use Rattle.sled_handle.specs.Numbers as number
use Rattle.sled_handle.specs.Numbers.{number_of_error}

-- the status is that of an error, and what the call would write to stays unchanged
abbrev pub TellsError : {X : Type 0} → Error → ℕ → X → X → Type 0
TellsError e status before after = (status ≡ number_of_error e) × (after ≡ before)

-- the result is written, or the status is that of the error
abbrev pub Tells : {X : Type 0} → Result X Error → ℕ → X → X → Type 0
Tells (Ok answer) status before after = (status ≡ number.ok) × (after ≡ answer)
Tells (Err e) status before after = TellsError e status before after

-- the status says that all was done, or is that of the error
abbrev pub TellsDone : Result (Unit {0}) Error → ℕ → Type 0
TellsDone (Ok done) status = status ≡ number.ok
TellsDone (Err e) status = status ≡ number_of_error e

-- The page and its stamp are written, or the status is that of the error.
abbrev pub TellsAllocated : Result (ℕ × Token) Error → ℕ → ℕ × ℕ → ℕ × ℕ → Type 0
TellsAllocated (Ok made) status before after = (status ≡ number.ok) × (after ≡ (made.0, stamp_of made.1))
TellsAllocated (Err e) status before after = TellsError e status before after

-- The page's new stamp is written; or the present one, if it isn't the one that was expected; or the status says that there is no such page, or is
-- that of the error.
abbrev pub TellsSwapped : {R : Type 0} → Swapped R → ℕ → ℕ → ℕ → Type 0
TellsSwapped (Ok (Ok token)) status before after = (status ≡ number.ok) × (after ≡ stamp_of token)
TellsSwapped (Ok (Err (Some found))) status before after = (status ≡ number.stale) × (after ≡ stamp_of found.0)
TellsSwapped (Ok (Err None)) status before after = (status ≡ number.gone) × (after ≡ before)
TellsSwapped (Err e) status before after = TellsError e status before after

-- page 0 is the cache's own, so it means no root
abbrev pub root_of : ℕ → Option ℕ
root_of page = if page == 0 then None else Some page

abbrev pub page_of : Option ℕ → ℕ
page_of None = 0
page_of (Some root) = root

-- The status says that the name has the new root; or the present root is written, if it isn't the one that was expected; or the status is that of the
-- error.
abbrev pub TellsRoot : RootSwap → ℕ → ℕ → ℕ → Type 0
TellsRoot (Ok (Ok done)) status before after = (status ≡ number.ok) × (after ≡ before)
TellsRoot (Ok (Err root)) status before after = (status ≡ number.stale) × (after ≡ page_of root)
TellsRoot (Err e) status before after = TellsError e status before after

-- the greatest number of 64 bits means itself or more
abbrev pub capped : ℕ → ℕ
capped n = if nat_lt n (2 ^ 64) then n else 2 ^ 64 - 1

-- Both sizes are written, or the status is that of the error.
abbrev pub TellsSizes : Result (ℕ × ℕ) Error → ℕ → ℕ × ℕ → ℕ × ℕ → Type 0
TellsSizes (Ok sizes) status before after = (status ≡ number.ok) × (after ≡ (sizes.0, capped sizes.1))
TellsSizes (Err e) status before after = TellsError e status before after

-- The number of bytes is written. The bytes are at the front of the buffer, or don't fit, and then the buffer is unchanged.
abbrev pub TellsBytes : Bytes → ℕ → ℕ → Bytes → Bytes → Type 0
TellsBytes bytes status needed before after =
    (needed ≡ length bytes)
    × (((status ≡ number.short) × (length before < needed) × (after ≡ before))
    ⊎ ((status ≡ number.ok) × (take needed after ≡ bytes) × (drop needed after ≡ drop needed before)))
