-- Caches that are opened one after another, each over the log that the one before left, and the generated ids that they return.
use Rattle.std.specs.Prelude.{◌≡◌, ◌≢◌, ◌⊎◌, ◌<◌, ◌≤◌, ℕ, true, false, List, [], ◌∷◌, ◌++◌, AllPairs, Result, Ok, ⊤}
use Rattle.std.specs.Result.{IsErrAnd}
use Rattle.sled_base.specs.declared.types.Device.TheVariants.{Write}
use Rattle.sled_base.specs.declared.types.Error.{Error}
use Rattle.sled_base.specs.declared.types.Error.TheVariants.{Io}
use Rattle.sled_log.specs.LogState.{unplaced_state}
use Rattle.sled_log.specs.declared.log.Log.{Ghosts}
use Rattle.sled_disk.specs.Served.{StaysALog}
use Rattle.sled_pagecache.specs.Cache.{Cache}
use Rattle.sled_pagecache.specs.Reopening.{HoldsCrash, Started}
use Rattle.sled_pagecache.specs.Rewriting.{IsRewritten, StaysInState}
use Rattle.sled_pagecache.specs.Rows.{IsMade}
use Rattle.sled_pagecache.specs.Served.{IsServed}
use Rattle.sled_pagecache.specs.Opening.{MayBeOpened, log_after, stable_state}
use Rattle.sled_pagecache.specs.declared.pagecache.handles.call.Answer.{Answer}
use Rattle.sled_pagecache.specs.declared.pagecache.handles.call.Answer.TheVariants.{Generated}
use Rattle.sled_pagecache.specs.declared.pagecache.handles.call.Call.{Call}
use Rattle.sled_pagecache.specs.declared.pagecache.handles.config.Config.{Config}

-- How an opening ends: by a crash between two calls, by a crash inside a call, with the answer that the call would have had, by a crash
-- while the cache was rewritten into another log, by passing on its log, or by passing on another log, into which it was rewritten.
pub data Ending : Type 0 where
  Crashed : Ending
  CrashedIn : (call : Call) (answer : Answer) → Ending
  CrashedRewriting : Ending
  HandedOn : Ending
  Rewritten : Ending

-- What was done to a log, and the log that was left: either no cache was opened over it, or one was, and gave these answers to these calls.
pub data Opening (L : Type 0) : Type 0 where
  Refused : (config : Config) (result : Result (Cache L) (Error × L)) (left : L) → Opening L
  Lasted : (config : Config) (first : Cache L) (calls : List (Call × Answer)) (last : Cache L) (ending : Ending) (left : L) → Opening L

module _ {L : Type 0} (g : Ghosts L) where
  -- nothing was appended to the log
  abbrev pub IsEmpty : L → Type 0
  IsEmpty log = unplaced_state (g.state log) ≡ stable_state [] true

  -- `start` returned this result, over a log that may be opened
  abbrev pub Starts : L → Config → Result (Cache L) (Error × L) → Type 0
  Starts log config result = MayBeOpened g log × Started g log config result

  -- What an opening leaves that failed: a crash state of the log of some moment since, also after a write error; or the log that was
  -- returned.
  abbrev pub LeavesUnopened : L → Result (Cache L) (Error × L) → L → Type 0
  LeavesUnopened found result left =
      HoldsCrash g (log_after result) (g.moment found) left
      ⊎ IsErrAnd result (λ e. (e.0 ≢ Io Write) × (left ≡ e.1))

  -- The calls were made one after another, each of the cache that the call before left, which may have been served since.
  abbrev pub AreMadeServed : Cache L → List (Call × Answer) → Cache L → Type 0
  AreMadeServed old [] new = IsServed g old new
  AreMadeServed old (made ∷ calls) new = (served mid : Cache L) × IsServed g old served × IsMade g served made.0 made.1 mid × AreMadeServed mid calls new

  -- What an opening leaves, whose cache was `last` after the calls that it answered. A crash inside a call, or while the cache was
  -- rewritten, is one at any moment since that began.
  abbrev pub Leaves : Cache L → Ending → L → Type 0
  Leaves last Crashed left = HoldsCrash g last.log (g.moment last.log) left
  Leaves last (CrashedIn call answer) left = (then : Cache L) × IsMade g last call answer then × HoldsCrash g then.log (g.moment last.log) left
  Leaves last CrashedRewriting left = (then : Cache L) × StaysInState g last then × HoldsCrash g then.log (g.moment last.log) left
  Leaves last HandedOn left = (last.fault ≡ false) × (left ≡ last.log)
  Leaves last Rewritten left = (last.fault ≡ false) × IsRewritten g g last left

  -- A log was opened this many times, each time as the time before left it, or as it was served since.
  abbrev pub IsRun : L → List (Opening L) → Type 0
  IsRun found [] = ⊤
  IsRun found (Refused config result left ∷ openings) = (log : L) × StaysALog g found log × Starts log config result × LeavesUnopened log result left × IsRun left openings
  IsRun found (Lasted config first calls last ending left ∷ openings) = (log : L) × StaysALog g found log × Starts log config (Ok first) × AreMadeServed first calls last × Leaves last ending left × IsRun left openings

-- no cache was opened with a shorter interval of ids than one before it, or than the least one here
abbrev pub KeepIntervals : {L : Type 0} → ℕ → List (Opening L) → Type 0
KeepIntervals least [] = ⊤
KeepIntervals least (Refused config result left ∷ openings) = KeepIntervals least openings
KeepIntervals least (Lasted config first calls last ending left ∷ openings) = (least ≤ config.idgen_persist_interval) × KeepIntervals config.idgen_persist_interval openings

-- the id in an answer, if there is one
abbrev pub id_in : Answer → List ℕ
id_in (Generated (Ok id)) = id ∷ []
id_in answer = []

-- the ids in the answers of calls, in order
abbrev pub ids_in : List (Call × Answer) → List ℕ
ids_in [] = []
ids_in (made ∷ calls) = id_in made.1 ++ ids_in calls

abbrev pub ids_of : {L : Type 0} → List (Opening L) → List ℕ
ids_of [] = []
ids_of (Refused config result left ∷ openings) = ids_of openings
ids_of (Lasted config first calls last ending left ∷ openings) = ids_in calls ++ ids_of openings

-- each is greater than every one before it
abbrev pub AreRising : List ℕ → Type 0
AreRising ids = AllPairs (λ earlier later. earlier < later) ids

-- Every id that is generated in a sequence of openings from an empty log is greater than all before it, if no interval of ids gets shorter.
abbrev pub EveryIdIsNew : {L : Type 0} → Ghosts L → Type 0
EveryIdIsNew {L} g = (log : L) (openings : List (Opening L)) → IsEmpty g log → IsRun g log openings → KeepIntervals 0 openings → AreRising (ids_of openings)
