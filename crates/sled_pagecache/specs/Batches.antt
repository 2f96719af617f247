-- Opening and closing a batch, its guard, and what a crash leaves of one.
use Rattle.std.specs.Prelude.{◌≡◌, ◌||◌, true, false, Result, IfErr, OnOk, OnErr, IsErrOf, Ok, Err, ⊤, [], ◌⊎◌, List, ◌∷◌, ◌++◌}
use Rattle.sled_base.specs.declared.types.Device.TheVariants.{Write}
use Rattle.sled_base.specs.declared.types.Error.{Error}
use Rattle.sled_base.specs.declared.types.Error.TheVariants.{Io}
use Rattle.sled_log.specs.declared.log.Log.{Ghosts}
use Rattle.sled_pagecache.specs.Answers.{HasNoName, is_write_fault}
use Rattle.sled_pagecache.specs.Cache.{Cache, Represents}
use Rattle.sled_log.specs.Contents.{Update}
use Rattle.sled_log.specs.Events.{Event}
use Rattle.sled_pagecache.specs.Calls.{Steps, IsBlamed}
use Rattle.sled_pagecache.specs.Memory.{KeepsMemory, ReadsNothing}
use Rattle.sled_pagecache.specs.declared.pagecache.handles.call.Answer.{Answer}
use Rattle.sled_pagecache.specs.declared.pagecache.handles.call.Answer.TheVariants.{Pinned, Sealed, Cancelled}
use Rattle.sled_pagecache.specs.declared.pagecache.handles.call.Call.{Call}
use Rattle.sled_pagecache.specs.declared.pagecache.handles.call.Call.TheVariants.{Pin, Seal, Cancel}
use Rattle.std.specs.Borrow.{Fml, RattleType, MutBor, RestsIfErr, Lends}
use mir.Syntax.{named}
use Rattle.sled_pagecache.specs.declared.pagecache.calls.guard.RecoveryGuard.{RecoveryGuard}
use Rattle.sled_pagecache.specs.contracts.pagecache.calls.PageCache as cache
use Rattle.sled_pagecache.specs.contracts.pagecache.calls.guard.RecoveryGuard as guard
use Rattle.std.specs.List.{AllByRecursion}
use Rattle.sled_log.specs.Contents.{Content}
use Rattle.sled_pagecache.specs.Logged.{Logged}
use Rattle.sled_pagecache.specs.Reopening.{AreAfterPrefix, CrashReopens}
use Rattle.sled_pagecache.specs.Rows.{AreSteps, StepInRow, changes_of}
use Rattle.sled_pagecache.specs.State.{State, contents_of}
use Rattle.sled_pagecache.specs.Step.{Outcome}

module _ {L : Type 0} (g : Ghosts L) where
  -- A batch was opened, unless one was open or the log refused it. No page changes, and the same pages are in memory.
  pub record OpensBatch (old : Cache L) (result : Result (Unit {0}) Error) (new : Cache L) : Type 0 where
    pub step : Steps g old Pin (Pinned result) new
    pub blame : IsBlamed g old new result
    pub done : OnOk result ((old.batch ≡ false) × (new.batch ≡ true))
    pub refused : OnErr result (new.batch ≡ old.batch)
    pub unnamed : IfErr result HasNoName
    pub stamps : new.stamps ≡ old.stamps
    pub fault : new.fault ≡ (old.fault || is_write_fault result)
    pub stuck : old.fault ≡ true → IsErrOf result (Io Write) × (new ≡ old)
    pub unread : ReadsNothing g old new
    pub same : KeepsMemory old new

  -- The batch was closed, whatever was returned. The only error is a write error, and after an earlier one the log isn't called. No page
  -- changes, and the same pages are in memory.
  pub record ClosesBatch (call : Call) (said : Result (Unit {0}) Error → Answer) (old : Cache L) (result : Result (Unit {0}) Error) (new : Cache L) : Type 0 where
    pub step : Steps g old call (said result) new
    pub blame : IsBlamed g old new result
    pub closed : new.batch ≡ false
    pub only : IfErr result (λ e. e ≡ Io Write)
    pub stamps : new.stamps ≡ old.stamps
    pub fault : new.fault ≡ (old.fault || is_write_fault result)
    pub stuck : old.fault ≡ true → IsErrOf result (Io Write) × (new ≡ record old { batch = false })
    pub unread : ReadsNothing g old new
    pub same : KeepsMemory old new

  abbrev pub SealsBatch : Cache L → Result (Unit {0}) Error → Cache L → Type 0
  SealsBatch = ClosesBatch Seal Sealed

  abbrev pub CancelsBatch : Cache L → Result (Unit {0}) Error → Cache L → Type 0
  CancelsBatch = ClosesBatch Cancel Cancelled

-- the reference to the cache
abbrev pub cache_lent : {L : Type 0} → RecoveryGuard L → MutBor (Cache L)
cache_lent guard = guard.cache

-- what a call that failed leaves
abbrev pub RefusesBatch : {L T : Type 0} → Ghosts L → Cache L → Result T Error → Cache L → Type 0
RefusesBatch g old (Ok done) new = ⊤
RefusesBatch g old (Err e) new = OpensBatch g old (Err e) new

module _ (L : RattleType) (g : Ghosts L.Denot) where
  -- if no batch was opened, the cache is as the failed call leaves it
  abbrev pub RestsIfRefused : MutBor (Cache L.Denot) → Result (RecoveryGuard L.Denot) Error → Fml
  RestsIfRefused c result = RestsIfErr (cache.the_row L g) c (λ guard. (cache_lent guard).ghost_name) result (λ last. RefusesBatch g c.now result last)

  -- the guard returns a reference to its cache, and holds the cache as the borrower leaves it
  abbrev pub LendsCache : MutBor (RecoveryGuard L.Denot) → MutBor (Cache L.Denot) → Fml
  LendsCache it result = Lends (guard.the_row (record { mir = named 1; lft = [] }) L g) (cache.the_row L g) it result (λ last. record it.now { cache = record it.now.cache { now = last } })

-- the call closes no batch
abbrev pub ClosesNone : Call → Type 0
ClosesNone Seal = ⊥
ClosesNone Cancel = ⊥
ClosesNone other = ⊤

-- The pages have nothing that was added after the log held this: they are those after a prefix of what was pending then.
abbrev pub AreWithout : Logged → List Content → Type 0
AreWithout held contents = AreAfterPrefix held [] contents

-- they are the pages of the state
abbrev pub AreThoseOf : State → List Content → Type 0
AreThoseOf s contents = contents ≡ contents_of s

-- the calls of a batch, and the one that opened it
abbrev pub with_pin : List (Call × Answer) → List (Call × Answer)
with_pin calls = (Pin, Pinned (Ok tt)) ∷ calls

module _ {L : Type 0} (g : Ghosts L) where
  -- a batch was opened, and these calls were made inside it
  pub record RunsBatch (old : Cache L) (calls : List (Call × Answer)) (new : Cache L) : Type 0 where
    pub pinned : Cache L
    pub pin : Steps g old Pin (Pinned (Ok tt)) pinned
    pub row : StepInRow g pinned calls new
    pub inside : AllByRecursion (λ made. ClosesNone made.0) calls

  -- The calls are steps that lead to a state of the new cache. A crash since the first of them reopens to pages of which `Are` holds, given
  -- what the calls write and that state.
  pub record Stand (old : Cache L) (calls : List (Call × Answer)) (new : Cache L) (held : Logged) (s : State) (Are : List (Event Update) → State → List Content → Type 0) : Type 0 where
    pub held_then : Logged
    pub t : State
    pub is : Represents g new held_then t
    pub outs : List Outcome
    pub steps : AreSteps g (Steps g) old s calls outs new t
    pub crash : CrashReopens g new.log (g.moment old.log) (Are (changes_of outs) t)

  -- All or nothing: the pages have nothing of the calls, or are as the calls leave them.
  abbrev pub StandsWhole : Cache L → List (Call × Answer) → Cache L → Logged → State → Type 0
  StandsWhole old calls new held s = Stand old calls new held s (λ changes t contents. AreWithout held contents ⊎ AreThoseOf t contents)

  -- The pages are those after a prefix of what the calls write.
  abbrev pub StandsInPart : Cache L → List (Call × Answer) → Cache L → Logged → State → Type 0
  StandsInPart old calls new held s = Stand old calls new held s (λ changes t. AreAfterPrefix held changes)

  -- This holds of every batch that is closed by this call, whatever the call returned.
  abbrev pub EachClosed : Call → (Result (Unit {0}) Error → Answer) → (Cache L → List (Call × Answer) → Cache L → Logged → State → Type 0) → Type 0
  EachClosed closing said Holds =
      (old mid new : Cache L) (calls : List (Call × Answer)) (result : Result (Unit {0}) Error) → RunsBatch old calls mid → Steps g mid closing (said result) new
      → (held : Logged) (s : State) → Represents g old held s → s.fault ≡ false → Holds old (with_pin calls ++ (closing, said result) ∷ []) new held s
