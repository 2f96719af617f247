-- Calls of the page cache in a row.
use Rattle.std.specs.Prelude.{◌≡◌, ◌⊎◌, ◌+◌, true, false, List, [], ◌∷◌, flat_map, Ok, IfOk, OnOk, OnErr, ⊤}
use Rattle.sled_log.specs.Contents.{Update}
use Rattle.sled_log.specs.Events.{Event}
use Rattle.sled_log.specs.declared.log.Log.{Ghosts}
use Rattle.sled_pagecache.specs.Answers.{Keeps, KeepsStamps, KeepsSwap, stamps_after_root_swap, stamps_with, stamps_after_swap, IsCovered}
use Rattle.sled_pagecache.specs.Cache.{Cache, Represents}
use Rattle.sled_pagecache.specs.Calls.{CrashLeaves, IsSameOpening, StepOver, Steps, IsBlamed}
use Rattle.sled_pagecache.specs.Logged.{Logged, Adds}
use Rattle.sled_pagecache.specs.Snapshots.{IsSnapshot}
use Rattle.sled_pagecache.specs.State.{State}
use Rattle.sled_pagecache.specs.Step.{Outcome}
use Rattle.sled_pagecache.specs.declared.pagecache.handles.call.Answer.{Answer}
use Rattle.sled_pagecache.specs.declared.pagecache.handles.call.Answer.TheVariants.{Allocated, Got, Linked, Replaced, Freed, GotMeta, GotIdgen, Generated, Flushed, Sized, Amplified, TookSnapshot, FoundRoot, RootSwapped, Pinned, Sealed, Cancelled, AttemptedGc}
use Rattle.sled_pagecache.specs.declared.pagecache.handles.call.Call.{Call}

-- what calls with these outcomes began to write, in order
abbrev pub changes_of : List Outcome → List (Event Update)
changes_of outs = flat_map (λ out. out.changes) outs

module _ {L : Type 0} (g : Ghosts L) where
  -- the cache is in this state, whatever its log holds
  abbrev pub IsInState : Cache L → State → Type 0
  IsInState cache s = (held : Logged) × Represents g cache held s

  -- The calls were made one after another, each of exactly the cache that the call before left; `Makes` is what is known of one call. Each
  -- is a step over that cache, from the state that it is in, with the outcome at the same place, and leaves a cache in the state of that
  -- outcome.
  abbrev pub AreSteps : (Cache L → Call → Answer → Cache L → Type 0) → Cache L → State → List (Call × Answer) → List Outcome → Cache L → State → Type 0
  AreSteps Makes old s [] [] new t = (new ≡ old) × (t ≡ s)
  AreSteps Makes old s (made ∷ calls) (out ∷ outs) new t =
      (mid : Cache L) × Makes old made.0 made.1 mid × StepOver g old s made.0 made.1 out × IsInState mid out.state × AreSteps Makes mid out.state calls outs new t
  AreSteps Makes old s calls outs new t = ⊥

  -- From this state, over a log that holds this, the calls are steps to another state. What they write is added to the log, and a crash at
  -- any moment during them leaves what the log held and a prefix of what they write, which splits no batch.
  pub record IsRow (old : Cache L) (calls : List (Call × Answer)) (new : Cache L) (held : Logged) (s : State) : Type 0 where
    pub held_then : Logged
    pub t : State
    pub is : Represents g new held_then t
    pub outs : List Outcome
    pub steps : AreSteps (Steps g) old s calls outs new t
    pub added : t.fault ≡ false → Adds held (changes_of outs) held_then
    pub crash : s.fault ≡ false → CrashLeaves g old.log held (changes_of outs) new.log
    pub stuck : s.fault ≡ true → new.log ≡ old.log

  -- The calls are steps in a row, from every state of the cache.
  pub record StepInRow (old : Cache L) (calls : List (Call × Answer)) (new : Cache L) : Type 0 where
    pub opening : IsSameOpening old new
    pub from_each : (held : Logged) (s : State) → Represents g old held s → IsRow old calls new held s

  -- A flush that returned Ok reports how many bytes were to be written, and after it nothing is pending. Nothing is pending after an id
  -- either, unless that only took the next number. A size is that of the log, and a snapshot says how far the log is durable and which
  -- chains it has.
  abbrev pub ReportsBytes : Cache L → Answer → Cache L → Type 0
  ReportsBytes old (Flushed (Ok written)) new = (written ≡ g.to_write old.log) × ((g.state new.log).pending ≡ [])
  ReportsBytes old (Generated (Ok id)) new = ((g.state new.log).pending ≡ []) ⊎ (new ≡ record old { next = old.next + 1 })
  ReportsBytes old (Sized (Ok bytes)) new = bytes ≡ g.bytes old.log
  ReportsBytes old (Amplified (Ok sizes)) new = sizes.0 ≡ g.bytes old.log
  ReportsBytes old (TookSnapshot (Ok snapshot)) new = IsSnapshot g old snapshot
  ReportsBytes old answer new = ⊤

  -- A fault is reported only if there was one. The size of a log and a snapshot don't call the device.
  abbrev pub ReportsFaults : Cache L → Answer → Cache L → Type 0
  ReportsFaults old (Allocated result) new = IsBlamed g old new result
  ReportsFaults old (Got result) new = IsBlamed g old new result
  ReportsFaults old (Linked result) new = IsBlamed g old new result
  ReportsFaults old (Replaced result) new = IsBlamed g old new result
  ReportsFaults old (Freed result) new = IsBlamed g old new result
  ReportsFaults old (GotMeta result) new = ⊤
  ReportsFaults old (FoundRoot result) new = ⊤
  ReportsFaults old (RootSwapped result) new = IsBlamed g old new result
  ReportsFaults old (GotIdgen result) new = ⊤
  ReportsFaults old (Generated result) new = IsBlamed g old new result
  ReportsFaults old (Flushed result) new = IsBlamed g old new result
  ReportsFaults old (Sized result) new = ⊤
  ReportsFaults old (Amplified result) new = IsBlamed g old new result
  ReportsFaults old (TookSnapshot result) new = ⊤
  ReportsFaults old (Pinned result) new = IsBlamed g old new result
  ReportsFaults old (Sealed result) new = IsBlamed g old new result
  ReportsFaults old (Cancelled result) new = IsBlamed g old new result
  ReportsFaults old (AttemptedGc result) new = IsBlamed g old new result

  -- A generated id that was returned is covered by the durable counter.
  abbrev pub CoversId : Answer → Cache L → Type 0
  CoversId (Generated (Ok id)) new = IsCovered g new id
  CoversId answer new = ⊤

  -- What is known of an answer over any log: what the call leaves of the stamps, of the batch and of a write error.
  abbrev pub KeepsBehind : Cache L → Answer → Cache L → Type 0
  KeepsBehind old (Allocated result) new = Keeps old new result (λ made. stamps_with old.stamps made.1)
  KeepsBehind old (Got result) new = Keeps old new result (λ _. old.stamps)
  KeepsBehind old (Linked result) new = KeepsSwap old new result
  KeepsBehind old (Replaced result) new = KeepsSwap old new result
  KeepsBehind old (Freed result) new = Keeps old new result (stamps_after_swap old.stamps)
  KeepsBehind old (GotMeta result) new = Keeps old new result (λ _. old.stamps)
  KeepsBehind old (FoundRoot result) new = Keeps old new result (λ _. old.stamps)
  KeepsBehind old (RootSwapped result) new = Keeps old new result (stamps_after_root_swap old.stamps)
  KeepsBehind old (GotIdgen result) new = Keeps old new result (λ _. old.stamps)
  KeepsBehind old (Generated result) new = Keeps old new result (λ _. new.stamps) × IfOk result (λ id. (id ≡ old.next) × (new.next ≡ old.next + 1))
  KeepsBehind old (Flushed result) new = Keeps old new result (λ _. old.stamps)
  KeepsBehind old (Sized result) new = Keeps old new result (λ _. old.stamps)
  KeepsBehind old (Amplified result) new = Keeps old new result (λ _. old.stamps)
  KeepsBehind old (TookSnapshot result) new = Keeps old new result (λ _. old.stamps)
  KeepsBehind old (Pinned result) new = KeepsStamps old new result × OnOk result (new.batch ≡ true) × OnErr result (new.batch ≡ old.batch)
  KeepsBehind old (Sealed result) new = KeepsStamps old new result × (new.batch ≡ false)
  KeepsBehind old (Cancelled result) new = KeepsStamps old new result × (new.batch ≡ false)
  KeepsBehind old (AttemptedGc result) new = Keeps old new result (λ _. old.stamps)

  -- the call was made of a cache: it is a step, and what its answer reports of the log is true
  pub record IsMade (old : Cache L) (call : Call) (answer : Answer) (new : Cache L) : Type 0 where
    pub step : Steps g old call answer new
    pub bytes : ReportsBytes old answer new
    pub faults : ReportsFaults old answer new
    pub covered : CoversId answer new
    pub keeps : KeepsBehind old answer new

  -- the calls were made one after another, each of the cache that the call before left
  abbrev pub AreMade : Cache L → List (Call × Answer) → Cache L → Type 0
  AreMade old [] new = new ≡ old
  AreMade old (made ∷ calls) new = (mid : Cache L) × IsMade old made.0 made.1 mid × AreMade mid calls new
