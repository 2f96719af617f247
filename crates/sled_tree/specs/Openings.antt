-- Maps in the pages of caches that are opened one after another, each over the log that the one before it left.
use Rattle.std.specs.Prelude.{◌≡◌, ◌⊎◌, Bool, false, List, [], ◌∷◌, Result, Ok, ⊤}
use Rattle.sled_base.specs.declared.types.Error.{Error}
use Rattle.sled_disk.specs.Served.{StaysALog}
use Rattle.sled_log.specs.Contents.{Update, contents_after}
use Rattle.sled_log.specs.Events.{Event}
use Rattle.sled_log.specs.declared.log.Log.{Ghosts}
use Rattle.sled_pagecache.specs.Cache.{Cache}
use Rattle.sled_pagecache.specs.Openings as cache
use Rattle.sled_pagecache.specs.Openings.{Starts, LeavesUnopened}
use Rattle.sled_pagecache.specs.Reopening.{HoldsCrash}
use Rattle.sled_pagecache.specs.Rows.{AreMade}
use Rattle.sled_pagecache.specs.Served.{IsServed}
use Rattle.sled_pagecache.specs.State.{State, contents_of}
use Rattle.sled_pagecache.specs.declared.pagecache.handles.call.Answer.{Answer}
use Rattle.sled_pagecache.specs.declared.pagecache.handles.call.Call.{Call}
use Rattle.sled_pagecache.specs.declared.pagecache.handles.config.Config.{Config}
use Rattle.sled_search.specs.Calls.{Becomes}
use Rattle.sled_tree.specs.Named.{Named, AreNamed}
use Rattle.sled_tree.specs.Performs.{Performs}

-- A call on the maps with its result, and the calls of the cache that it made, with their answers.
pub record Deed (D : Type 0) : Type 0 where
  pub what : D
  pub calls : List (Call × Answer)

-- How an opening ends: by a crash between two deeds, by a crash inside one, which would have been this deed, or in one of the ways in which a cache
-- ends without a call.
pub data Ending (D : Type 0) : Type 0 where
  Crashed : Ending D
  CrashedIn : (deed : Deed D) → Ending D
  CrashedRewriting : Ending D
  HandedOn : Ending D
  Rewritten : Ending D

-- What was done to a log, and the log that was left. Either no cache was opened over it, or one was, and these deeds were done.
pub data Opening (L D : Type 0) : Type 0 where
  Refused : (config : Config) (result : Result (Cache L) (Error × L)) (left : L) → Opening L D
  Lasted : (config : Config) (first : Cache L) (deeds : List (Deed D)) (last : Cache L) (ending : Ending D) (left : L) → Opening L D

module _ {L : Type 0} (g : Ghosts L) where
  -- A crash came inside one of these calls, at any moment since the call before it ended.
  abbrev pub CrashedInside : (old : Cache L) (calls : List (Call × Answer)) (new : Cache L) → AreMade g old calls new → L → Type 0
  CrashedInside old [] new made left = ⊥
  CrashedInside old (call ∷ calls) new (mid, one, made) left =
      HoldsCrash g mid.log (g.moment old.log) left ⊎ CrashedInside mid calls new made left

-- `Needs` says what a call needs of the maps, for example that its root has one. `Does` says what a call with this result makes of such maps, where
-- the `Bool` is whether a write has failed by its end.
module _ {D : Type 0} (Needs : D → Named → Type 0) (Does : D → Bool → Named → Named → Type 0) where
  -- If no write has failed, the pages are what the events make of them. For all maps that the pages were and that have what the call needs: after
  -- each of the events the pages are these maps, or what the call makes of them.
  pub record KeepsWord (what : D) (s : State) (events : List (Event Update)) (t : State) : Type 0 where
    pub pages : t.fault ≡ false → contents_of t ≡ contents_after (contents_of s) events
    pub turns :
        (old : Named) → AreNamed (contents_of s) old → Needs what old
        → (new : Named) × Does what t.fault old new × Becomes AreNamed (contents_of s) old events new

module _ {L D : Type 0} (g : Ghosts L) (Needs : D → Named → Type 0) (Does : D → Bool → Named → Named → Type 0) where
  -- the deed was done, by these calls of the cache
  abbrev pub IsDone : Cache L → Deed D → Cache L → Type 0
  IsDone old deed new = (does : Performs g (KeepsWord Needs Does deed.what) old new) × (does.calls ≡ deed.calls)

  -- The deeds were done one after another, each on the cache that the one before it left; the caller may have served the cache in between.
  abbrev pub AreDoneServed : Cache L → List (Deed D) → Cache L → Type 0
  AreDoneServed old [] new = IsServed g old new
  AreDoneServed old (deed ∷ deeds) new = (served mid : Cache L) × IsServed g old served × IsDone served deed mid × AreDoneServed mid deeds new

  -- What an opening leaves, if its cache was this one after its deeds. A deed in which a crash came would have been done so.
  abbrev pub Leaves : Cache L → Ending D → L → Type 0
  Leaves last Crashed left = cache.Leaves g last cache.Crashed left
  Leaves last (CrashedIn deed) left = (then : Cache L) × (done : IsDone last deed then) × CrashedInside g last done.0.calls then done.0.made left
  Leaves last CrashedRewriting left = cache.Leaves g last cache.CrashedRewriting left
  Leaves last HandedOn left = cache.Leaves g last cache.HandedOn left
  Leaves last Rewritten left = cache.Leaves g last cache.Rewritten left

  -- A log was opened once for each of the openings, each time as the opening before left it, or as it was served since.
  abbrev pub IsRun : L → List (Opening L D) → Type 0
  IsRun found [] = ⊤
  IsRun found (Refused config result left ∷ openings) =
      (log : L) × StaysALog g found log × Starts g log config result
      × LeavesUnopened g log result left × IsRun left openings
  IsRun found (Lasted config first deeds last ending left ∷ openings) =
      (log : L) × StaysALog g found log × Starts g log config (Ok first)
      × AreDoneServed first deeds last × Leaves last ending left × IsRun left openings
