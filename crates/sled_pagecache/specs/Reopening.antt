-- What a cache is that is opened over a crash state.
use Rattle.std.specs.Prelude.{◌≡◌, ◌≤◌, ℕ, true, List, Some, None, Result, Err, IfOk, false, [], length, map, IfErr, ⊤}
use Rattle.sled_base.specs.declared.types.Error.{Error}
use Rattle.sled_base.specs.declared.types.Error.TheVariants.{Unsupported, Io, OutOfMemory}
use Rattle.sled_base.specs.declared.types.Why.{Why}
use Rattle.sled_log.specs.Contents.{Content, Update, contents_after}
use Rattle.sled_log.specs.Events.{Event}
use Rattle.sled_log.specs.Messages.{Messages}
use Rattle.sled_log.specs.LogState.{CrashKeeps, unplaced_state}
use Rattle.sled_log.specs.declared.log.Log.{Ghosts}
use Rattle.sled_pagecache.specs.Cache.{Cache, Represents}
use Rattle.sled_pagecache.specs.Logged.{Logged, IsLogged}
use Rattle.sled_pagecache.specs.Opening.{fault_of, opened_state, Opens, stable_state, stable_contents}
use Rattle.sled_pagecache.specs.declared.pagecache.handles.config.Config.{Config}
use Rattle.sled_pagecache.specs.Calls.{Steps}
use Rattle.sled_pagecache.specs.Rows.{AreSteps, changes_of}
use Rattle.sled_pagecache.specs.State.{State, page, contents_of}
use Rattle.sled_pagecache.specs.Step.{Outcome}
use Rattle.sled_pagecache.specs.declared.pagecache.handles.call.Answer.{Answer}
use Rattle.sled_pagecache.specs.declared.pagecache.handles.call.Call.{Call}

-- These are the pages after a prefix of the changes: everything that was durable, and then a prefix of what was pending and of what had
-- begun, which splits no batch.
abbrev pub AreAfterPrefix : Logged → List (Event Update) → List Content → Type 0
AreAfterPrefix held begun contents = CrashKeeps contents_after held.stable held.pending begun (λ kept. contents ≡ kept)

module _ {L : Type 0} (g : Ghosts L) where
  -- The log holds a crash state of the crashed log, of some moment since that one: its pages are durable, and nothing is pending.
  pub record HoldsCrash (crashed : L) (since : ℕ) (log : L) : Type 0 where
    pub at : ℕ
    pub later : since ≤ at
    pub pages : List Messages
    pub left : g.left_since crashed at pages
    pub holds : unplaced_state (g.state log) ≡ stable_state pages true

  -- what `start` promises of its result, over a log that tells its bytes
  pub record Started (log : L) (config : Config) (result : Result (Cache L) (Error × L)) : Type 0 where
    pub settings : (why : Why) → fault_of config ≡ Some why → result ≡ Err (Unsupported why, log)
    pub opens : fault_of config ≡ None → (held : Logged) → IsLogged (unplaced_state (g.state log)) held → Opens g log config held result

  -- the cache is what is opened of such pages
  pub record ReopensTo (Are : List Content → Type 0) (config : Config) (cache : Cache L) : Type 0 where
    pub contents : List Content
    pub are : Are contents
    pub held_then : Logged
    pub is : Represents g cache held_then (opened_state config contents)

  -- Over whatever crash state of the log since that moment a cache is started: if that returns Ok, the cache is what is opened of such
  -- pages.
  abbrev pub CrashReopens : L → ℕ → (List Content → Type 0) → Type 0
  CrashReopens crashed since Are =
      (log : L) → HoldsCrash crashed since log
      → (config : Config) (result : Result (Cache L) (Error × L)) → Started log config result → IfOk result (ReopensTo Are config)

-- Why a reopening fails: an allocation or the device failed, or the settings have that fault. A crash state is never corrupt, and has room.
abbrev pub RefusesReopening : Config → Error → Type 0
RefusesReopening config OutOfMemory = ⊤
RefusesReopening config (Io device) = ⊤
RefusesReopening config (Unsupported why) = fault_of config ≡ Some why
RefusesReopening config other = ⊥

-- The pages are the flushed ones after a prefix of the changes, which splits no batch.
abbrev pub AreFlushedThen : State → List (Event Update) → List Content → Type 0
AreFlushedThen s begun contents = AreAfterPrefix (stable_contents (contents_of s)) begun contents

module _ {L : Type 0} (g : Ghosts L) where
  -- The cache is in this state, and all of it is durable: nothing is pending, there was no write error, and both system pages are there.
  pub record IsFlushed (cache : Cache L) (s : State) : Type 0 where
    pub held : Logged
    pub is : Represents g cache held s
    pub clear : s.fault ≡ false
    pub none : (g.state cache.log).pending ≡ []
    pub both : 2 ≤ length s.pages

  -- the cache is what is opened of such pages, and all of it is durable
  pub record OpensAgain (Are : List Content → Type 0) (config : Config) (cache : Cache L) : Type 0 where
    pub contents : List Content
    pub are : Are contents
    pub flushed : IsFlushed cache (opened_state config contents)

  -- These calls are steps from the flushed state, each over exactly the cache that the call before left. The reopened cache has the flushed
  -- pages after a prefix of what they write.
  pub record ReopensAfter (first : Cache L) (s : State) (calls : List (Call × Answer)) (last : Cache L) (config : Config) (result : Result (Cache L) Error) : Type 0 where
    pub outs : List Outcome
    pub t : State
    pub steps : AreSteps g (Steps g) first s calls outs last t
    pub opens : IfOk result (OpensAgain (AreFlushedThen s (changes_of outs)) config)
    pub refused : IfErr result (RefusesReopening config)

  -- the cache is what is opened of exactly the flushed pages: each is at stamp 0, and all of them are durable
  pub record HasFlushed (s : State) (config : Config) (cache : Cache L) : Type 0 where
    pub flushed : IsFlushed cache (opened_state config (contents_of s))
    pub pages : (opened_state config (contents_of s)).pages ≡ map (page 0) (contents_of s)
