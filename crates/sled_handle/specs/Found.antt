-- What is reported of a page: what its node is, and its pairs.
use Rattle.std.specs.Prelude.{◌≡◌, ℕ, length, Option, None, Some, Result, Ok, Err}
use Rattle.sled_base.specs.Order.{Bytes}
use Rattle.sled_base.specs.declared.types.Error.{Error}
use Rattle.sled_log.specs.declared.log.Log.{Ghosts}
use Rattle.sled_node.specs.Node.{WholeNode}
use Rattle.sled_pagecache.specs.Cache.{Cache}
use Rattle.sled_pagecache.specs.Calls.{Steps, IsBlamed}
use Rattle.sled_pagecache.specs.State.{Token, stamp_of}
use Rattle.sled_pagecache.specs.declared.pagecache.handles.call.Answer.TheVariants.{Got}
use Rattle.sled_pagecache.specs.declared.pagecache.handles.call.Call.TheVariants.{Get}
use Rattle.sled_handle.specs.Numbers as number
use Rattle.sled_handle.specs.Numbers.{number_of_error}
use Rattle.sled_handle.specs.Pairs.{node_bytes}
use Rattle.sled_handle.specs.Statuses.{TellsBytes}
use Rattle.sled_handle.specs.declared.calls.pages.Found.{Found}

abbrev pub found_of : Token → WholeNode → Found
found_of token node = record { stamp = stamp_of token; count = length node.pairs; needed = length (node_bytes node); is_index = node.is_index }

-- It is written what the node is, and its pairs are at the front of the buffer, or don't fit into it.
abbrev pub TellsNode : Token → WholeNode → ℕ → Found → Bytes → Bytes → Type 0
TellsNode token node status found before after = (found ≡ found_of token node) × TellsBytes (node_bytes node) status found.needed before after

-- the same of what was found of a page
abbrev pub TellsPage : Result (Option (Token × WholeNode)) Error → ℕ → Found × Bytes → Found × Bytes → Type 0
TellsPage (Ok None) status before after = (status ≡ number.gone) × (after ≡ before)
TellsPage (Ok (Some page)) status before after = TellsNode page.0 page.1 status after.0 before.1 after.1
TellsPage (Err e) status before after = (status ≡ number_of_error e) × (after ≡ before)

-- A page is read, which is one step, and reported.
abbrev pub GetsPage : {L : Type 0} → Ghosts L → Cache L → Cache L → ℕ → ℕ → Found × Bytes → Found × Bytes → Type 0
GetsPage g old new page status before after =
    (answer : Result (Option (Token × WholeNode)) Error) × Steps g old (Get page) (Got answer) new × IsBlamed g old new answer × TellsPage answer status before after
