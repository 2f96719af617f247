-- What is reported of the value of a key.
use Rattle.std.specs.Prelude.{◌≡◌, ℕ, true, Option, None, Some, Result, Ok, Err, ◌⊎◌}
use Rattle.sled_base.specs.Order.{Bytes}
use Rattle.sled_base.specs.declared.types.Error.{Error}
use Rattle.sled_log.specs.declared.log.Log.{Ghosts}
use Rattle.sled_node.specs.Lookups.{HasValue, LacksKey}
use Rattle.sled_node.specs.Node.{WholeNode}
use Rattle.sled_pagecache.specs.Cache.{Cache}
use Rattle.sled_pagecache.specs.Calls.{Steps, IsBlamed}
use Rattle.sled_pagecache.specs.State.{Token, stamp_of}
use Rattle.sled_pagecache.specs.declared.pagecache.handles.call.Answer.TheVariants.{Got}
use Rattle.sled_pagecache.specs.declared.pagecache.handles.call.Call.TheVariants.{Get}
use Rattle.sled_handle.specs.Numbers as number
use Rattle.sled_handle.specs.Numbers.{number_of_error}
use Rattle.sled_handle.specs.Statuses.{TellsBytes}

-- what a call writes that writes a stamp and bytes: the stamp, the number of bytes, and the buffer
pub record Written : Type 0 where
  pub stamp : ℕ
  pub needed : ℕ
  pub buffer : Bytes

-- the parameters of such a call
abbrev pub written : ℕ → ℕ → Bytes → Written
written stamp needed buffer = record { stamp = stamp; needed = needed; buffer = buffer }

-- The page is an index; or it lacks the key; or the value is written.
abbrev pub TellsValue : WholeNode → Bytes → ℕ → Written → Written → Type 0
TellsValue node key status before after =
    ((status ≡ number.index) × (node.is_index ≡ true) × (after.needed ≡ before.needed) × (after.buffer ≡ before.buffer))
    ⊎ ((status ≡ number.none) × LacksKey node key × (after.needed ≡ before.needed) × (after.buffer ≡ before.buffer))
    ⊎ ((value : Bytes) × HasValue node key value × TellsBytes value status after.needed before.buffer after.buffer)

-- the same of what was found of a page
abbrev pub TellsFound : Result (Option (Token × WholeNode)) Error → Bytes → ℕ → Written → Written → Type 0
TellsFound (Ok None) key status before after = (status ≡ number.gone) × (after ≡ before)
TellsFound (Ok (Some found)) key status before after = (after.stamp ≡ stamp_of found.0) × TellsValue found.1 key status before after
TellsFound (Err e) key status before after = (status ≡ number_of_error e) × (after ≡ before)

-- A page is read, which is one step, and the value of a key is reported.
abbrev pub GetsValue : {L : Type 0} → Ghosts L → Cache L → Cache L → ℕ → Bytes → ℕ → Written → Written → Type 0
GetsValue g old new page key status before after =
    (answer : Result (Option (Token × WholeNode)) Error) × Steps g old (Get page) (Got answer) new × IsBlamed g old new answer × TellsFound answer key status before after
