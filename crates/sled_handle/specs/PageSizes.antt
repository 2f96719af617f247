-- What is told of how much a page takes by its content, and of how many pages there are.
use Rattle.std.specs.Prelude.{◌≡◌, ◌≢◌, ℕ, length, Option, None, Some, Result, Ok, Err, ◌⊎◌}
use Rattle.sled_base.specs.declared.types.Error.{Error}
use Rattle.sled_log.specs.Contents.{Content, Free, Counter, Roots, Node}
use Rattle.sled_log.specs.declared.log.Log.{Ghosts}
use Rattle.sled_node.specs.Meta.{Roots as RootMap}
use Rattle.sled_node.specs.Node.{WholeNode}
use Rattle.sled_pagecache.specs.Cache.{Cache}
use Rattle.sled_pagecache.specs.Calls.{Steps, IsBlamed}
use Rattle.sled_pagecache.specs.Limits.{meta_pid, counter_pid}
use Rattle.sled_pagecache.specs.Sizes.{content_size}
use Rattle.sled_pagecache.specs.State.{Token}
use Rattle.sled_pagecache.specs.declared.pagecache.handles.call.Answer.TheVariants.{Got, GotMeta, GotIdgen}
use Rattle.sled_pagecache.specs.declared.pagecache.handles.call.Call.TheVariants.{Get, GetMeta, GetIdgen}
use Rattle.sled_handle.specs.Numbers as number
use Rattle.sled_handle.specs.Statuses.{TellsError}

-- what a page holds, by what was found of it
abbrev pub content_of : Option (Token × WholeNode) → Content
content_of None = Free
content_of (Some found) = Node found.1

-- It is written how much the content takes, by the page's part of `space_amplification`; or the status is that of the error.
abbrev pub TellsTaken : {X : Type 0} → (X → Content) → Result X Error → ℕ → ℕ → ℕ → Type 0
TellsTaken content (Ok found) status before after = (status ≡ number.ok) × (after ≡ content_size (content found))
TellsTaken content (Err e) status before after = TellsError e status before after

module _ {L : Type 0} (g : Ghosts L) (old new : Cache L) where
  -- the map of named roots is looked at, which is one step
  abbrev pub MeasuresRoots : ℕ → ℕ → ℕ → Type 0
  MeasuresRoots status before after =
      (new ≡ old) × ((answer : Result (Token × RootMap) Error) × Steps g old GetMeta (GotMeta answer) new × TellsTaken (λ got. Roots got.1) answer status before after)

  -- the counter is looked at, which is one step
  abbrev pub MeasuresCounter : ℕ → ℕ → ℕ → Type 0
  MeasuresCounter status before after =
      (new ≡ old) × ((answer : Result (Token × ℕ) Error) × Steps g old GetIdgen (GotIdgen answer) new × TellsTaken (λ got. Counter got.1) answer status before after)

  -- any other page is read, which is one step; one that isn't there takes what a free one does
  abbrev pub MeasuresNode : ℕ → ℕ → ℕ → ℕ → Type 0
  MeasuresNode page status before after =
      (answer : Result (Option (Token × WholeNode)) Error) × Steps g old (Get page) (Got answer) new × IsBlamed g old new answer × TellsTaken content_of answer status before after

  -- how much a page takes is written
  abbrev pub TellsPageSize : ℕ → ℕ → ℕ → ℕ → Type 0
  TellsPageSize page status before after =
      ((page ≡ meta_pid) × MeasuresRoots status before after)
      ⊎ ((page ≡ counter_pid) × MeasuresCounter status before after)
      ⊎ ((page ≢ meta_pid) × (page ≢ counter_pid) × MeasuresNode page status before after)

  -- The number of pages is written, the free ones and the cache's own among them; or there is no memory to list them.
  abbrev pub TellsPageCount : ℕ → ℕ → ℕ → Type 0
  TellsPageCount status before after =
      (new ≡ old) × (((status ≡ number.ok) × (after ≡ length old.stamps)) ⊎ ((status ≡ number.memory) × (after ≡ before)))
