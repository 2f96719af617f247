-- Which step of the cache a call makes, over any log, and what its status says of it.
use Rattle.std.specs.Prelude.{◌≡◌, ◌-◌, ◌^◌, ℕ, Bool, false, [], Result, IfOk, IfErr, OnOk, ◌⊎◌, min}
use Rattle.sled_base.specs.Order.{Bytes}
use Rattle.sled_base.specs.declared.types.Error.{Error}
use Rattle.sled_log.specs.LogState.{now}
use Rattle.sled_log.specs.Messages.{effect_of_entry}
use Rattle.sled_log.specs.declared.log.Log.{Ghosts}
use Rattle.sled_node.specs.Node.{WholeNode}
use Rattle.sled_node.specs.declared.node.link.Link.{Link}
use Rattle.sled_pagecache.specs.Answers.{HasNoName}
use Rattle.sled_pagecache.specs.Batches.{OpensBatch}
use Rattle.sled_pagecache.specs.Cache.{Cache}
use Rattle.sled_pagecache.specs.Calls.{Steps, IsBlamed}
use Rattle.sled_pagecache.specs.Moves.{AttemptsMove}
use Rattle.sled_pagecache.specs.Sizes.{live_size}
use Rattle.sled_pagecache.specs.State.{Token, token}
use Rattle.sled_pagecache.specs.Step.{Swapped, RootSwap}
use Rattle.sled_pagecache.specs.Trees.{IsTreeOpened, KeepsFault}
use Rattle.sled_pagecache.specs.declared.pagecache.handles.call.Answer.{Answer}
use Rattle.sled_pagecache.specs.declared.pagecache.handles.call.Answer.TheVariants as answers
use Rattle.sled_pagecache.specs.declared.pagecache.handles.call.Call.{Call}
use Rattle.sled_pagecache.specs.declared.pagecache.handles.call.Call.TheVariants as calls
use Rattle.sled_handle.specs.Numbers as number
use Rattle.sled_handle.specs.Pairs.{EncodeLeaf}
use Rattle.sled_handle.specs.Statuses.{Tells, TellsAllocated, TellsDone, TellsSwapped, TellsRoot, TellsSizes, root_of}

module _ {L : Type 0} (g : Ghosts L) (old new : Cache L) where
  -- The call is one step with this answer, a failure of the device or of an allocation is reported only if it happened, and no error owns a name.
  pub record Makes {T : Type 0} (call : Call) (said : Result T Error → Answer) (answer : Result T Error) : Type 0 where
    pub step : Steps g old call (said answer) new
    pub blame : IsBlamed g old new answer
    pub unnamed : IfErr answer HasNoName

  -- a page is freed
  abbrev pub FreesPage : ℕ → ℕ → ℕ → ℕ → Type 0
  FreesPage page status before after =
      (answer : Swapped (Unit {0})) × Makes (calls.Free (token page before)) answers.Freed answer × TellsSwapped answer status before after

  -- a link is applied
  abbrev pub AppliesLink : ℕ → Link → ℕ → ℕ → ℕ → Type 0
  AppliesLink page link status before after =
      (answer : Swapped Link) × Makes (calls.Link (token page before) link) answers.Linked answer × TellsSwapped answer status before after

  -- there is no memory to copy what the call is given, and nothing changes
  abbrev pub LacksMemory : {X : Type 0} → ℕ → X → X → Type 0
  LacksMemory status before after = (status ≡ number.memory) × (after ≡ before) × (new ≡ old)

  abbrev pub MakesLink : ℕ → Link → ℕ → ℕ → ℕ → Type 0
  MakesLink page link status before after = LacksMemory status before after ⊎ AppliesLink page link status before after

  -- the bytes encode no leaf, and nothing changes
  abbrev pub EncodesNoLeaf : {X : Type 0} → Bytes → ℕ → X → X → Type 0
  EncodesNoLeaf bytes status before after = (status ≡ number.arguments) × ((node : WholeNode) → ¬ EncodeLeaf bytes node) × (after ≡ before) × (new ≡ old)

  -- the leaf that the bytes encode is put on a page
  abbrev pub AllocatesLeaf : Bytes → ℕ → ℕ × ℕ → ℕ × ℕ → Type 0
  AllocatesLeaf bytes status before after =
      EncodesNoLeaf bytes status before after
      ⊎ LacksMemory status before after
      ⊎ ((node : WholeNode) × EncodeLeaf bytes node × ((answer : Result (ℕ × Token) Error) × Makes (calls.Allocate node) answers.Allocated answer × TellsAllocated answer status before after))

  -- the leaf that the bytes encode replaces what the page held
  abbrev pub ReplacesByLeaf : ℕ → Bytes → ℕ → ℕ → ℕ → Type 0
  ReplacesByLeaf page bytes status before after =
      EncodesNoLeaf bytes status before after
      ⊎ LacksMemory status before after
      ⊎ ((node : WholeNode) × EncodeLeaf bytes node × ((answer : Swapped WholeNode) × Makes (calls.Replace (token page before) node) answers.Replaced answer × TellsSwapped answer status before after))

  -- an id is generated
  abbrev pub GivesId : ℕ → ℕ → ℕ → Type 0
  GivesId status before after = (answer : Result ℕ Error) × Makes calls.GenerateId answers.Generated answer × Tells answer status before after

  -- everything is made durable, and the number of bytes that this wrote is written
  abbrev pub MakesStable : ℕ → ℕ → ℕ → Type 0
  MakesStable status before after =
      (answer : Result ℕ Error) × Makes calls.Flush answers.Flushed answer × OnOk answer ((g.state new.log).pending ≡ []) × IfOk answer (λ bytes. bytes ≡ g.to_write old.log)
      × Tells answer status before after

  -- the root of a name is looked up
  abbrev pub FindsRoot : Bytes → ℕ → ℕ → ℕ → Type 0
  FindsRoot name status before after =
      (new ≡ old) × ((answer : Result ℕ Error) × Steps g old (calls.MetaPidForName name) (answers.FoundRoot answer) new × Tells answer status before after)

  -- a name is given another root
  abbrev pub SwapsRoot : Bytes → ℕ → ℕ → ℕ → ℕ → Type 0
  SwapsRoot name page status before after =
      (answer : RootSwap) × Makes (calls.CasRoot name (root_of before) (root_of page)) answers.RootSwapped answer × TellsRoot answer status before after

  -- The tree of a name is opened, as `open_tree` does it: by reading the root, and the steps that make a tree if there is none.
  abbrev pub OpensTree : Bytes → ℕ → ℕ → ℕ → Type 0
  OpensTree name status before after =
      LacksMemory status before after
      ⊎ ((answer : Result ℕ Error) × IsTreeOpened g old name answer new × KeepsFault old new answer × IfErr answer HasNoName × Tells answer status before after)

  -- the size of the log is written
  abbrev pub TellsSize : ℕ → ℕ → ℕ → Type 0
  TellsSize status before after =
      (new ≡ old) × ((answer : Result ℕ Error) × Steps g old calls.SizeOnDisk (answers.Sized answer) new × IfOk answer (λ size. size ≡ g.bytes old.log) × Tells answer status before after)

  -- the number of bytes of the log that make the pages is written
  abbrev pub TellsLive : ℕ → ℕ → Type 0
  TellsLive status after =
      (new ≡ old) × (status ≡ number.ok) × (g.tells → old.fault ≡ false → after ≡ min (live_size (now effect_of_entry (g.state old.log))) (2 ^ 64 - 1))

  -- the size of the log is written, and that of the pages
  abbrev pub TellsAmplification : ℕ → ℕ × ℕ → ℕ × ℕ → Type 0
  TellsAmplification status before after =
      (answer : Result (ℕ × ℕ) Error) × Makes calls.SpaceAmplification answers.Amplified answer × IfOk answer (λ sizes. sizes.0 ≡ g.bytes old.log) × TellsSizes answer status before after

  -- the page that is due is moved, and it is written whether there was one
  abbrev pub MovesDue : ℕ → Bool → Bool → Type 0
  MovesDue status before after = (answer : Result Bool Error) × AttemptsMove g old answer new × Tells answer status before after

  -- it is written whether the log had the cache's own pages
  abbrev pub TellsRecovered : ℕ → Bool → Type 0
  TellsRecovered status after = (new ≡ old) × (status ≡ number.ok) × (after ≡ old.recovered)

  -- a batch is opened
  abbrev pub Opens : ℕ → Type 0
  Opens status = (answer : Result (Unit {0}) Error) × OpensBatch g old answer new × TellsDone answer status

  -- a batch is closed in this way, if one is open
  abbrev pub Closes : (Cache L → Result (Unit {0}) Error → Cache L → Type 0) → ℕ → Type 0
  Closes closes status =
      ((old.batch ≡ false) × (status ≡ number.no_batch) × (new ≡ old)) ⊎ ((answer : Result (Unit {0}) Error) × closes old answer new × TellsDone answer status)
