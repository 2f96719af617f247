-- What every run of openings shows: pages after a prefix of the changes, which holds everything that was flushed, and the answers of the
-- machine from there.
use Rattle.std.specs.Prelude.{◌≡◌, ◌≤◌, ℕ, Bool, true, false, List, [], ◌∷◌, ◌++◌, length, Ok, ◌≢◌, ◌⊎◌, IfErr, ⊤}
use Rattle.sled_log.specs.Contents.{Content, Update, contents_after}
use Rattle.sled_log.specs.Events.{Event}
use Rattle.sled_pagecache.specs.Opening.{changes_of_start, opened_state, has_own}
use Rattle.sled_pagecache.specs.Reopening.{AreAfterPrefix, RefusesReopening}
use Rattle.sled_pagecache.specs.Step.{Outcome}
use Rattle.sled_pagecache.specs.declared.pagecache.handles.call.Answer.{Answer}
use Rattle.sled_pagecache.specs.declared.pagecache.handles.call.Answer.TheVariants.{Flushed, Generated}
use Rattle.sled_pagecache.specs.declared.pagecache.handles.call.Call.{Call}
use Rattle.sled_base.specs.declared.types.Error.{Error}
use Rattle.sled_base.specs.declared.types.Error.TheVariants.{Unsupported}
use Rattle.sled_base.specs.declared.types.Why.TheVariants.{LogFull}
use Rattle.sled_log.specs.LogState.{IsPrefix}
use Rattle.sled_log.specs.declared.log.Log.{Ghosts}
use Rattle.sled_pagecache.specs.Cache.{Cache}
use Rattle.sled_pagecache.specs.Calls.{StepOver}
use Rattle.sled_pagecache.specs.Openings.{Ending, IsEmpty, IsRun, Crashed, CrashedIn, CrashedRewriting, HandedOn, Rewritten, Opening, Refused, Lasted}
use Rattle.sled_pagecache.specs.Rows.{IsInState, IsMade}
use Rattle.sled_pagecache.specs.Served.{IsServed}
use Rattle.sled_pagecache.specs.State.{State, contents_of}
use Rattle.sled_pagecache.specs.declared.pagecache.handles.config.Config.{Config}

-- The pages as the last crash left them, the changes that were made since, in order, how many of those are flushed, and the changes that
-- had begun when a write failed. Marks of batches count as changes.
pub record History : Type 0 where
  pub pages : List Content
  pub changes : List (Event Update)
  pub flushed : ℕ
  pub begun : List (Event Update)

-- nothing was added since
abbrev pub history_from : List Content → History
history_from pages = record { pages = pages; changes = []; flushed = 0; begun = [] }

-- the pages now, if no write failed
abbrev pub pages_by_now : History → List Content
pages_by_now h = contents_after h.pages h.changes

abbrev pub with_made : List (Event Update) → History → History
with_made changes h = record h { changes = h.changes ++ changes }

abbrev pub with_all_flushed : History → History
with_all_flushed h = record h { flushed = length h.changes }

-- these changes began, and it isn't known how many of them were added
abbrev pub with_begun : List (Event Update) → History → History
with_begun changes h = record h { begun = h.begun ++ changes }

-- The pages are those after a prefix of all that was made and of what had begun, which splits no batch and holds everything that was
-- flushed.
pub record Survives (h : History) (pages : List Content) : Type 0 where
  pub prefix : AreAfterPrefix (record { stable = h.pages; pending = h.changes }) h.begun pages
  pub holds : h.flushed ≤ prefix.cut

-- a crash: the next history begins with pages that survive
abbrev pub Crashes : History → History → Type 0
Crashes h after = (pages : List Content) × Survives h pages × (after ≡ history_from pages)

-- an opening adds the missing system pages, and if there are any, everything is flushed then
abbrev pub begun_by_start : History → List (Event Update)
begun_by_start h = changes_of_start (pages_by_now h)

abbrev pub history_after_start_with : List (Event Update) → History → History
history_after_start_with [] h = h
history_after_start_with (change ∷ changes) h = with_all_flushed (with_made (change ∷ changes) h)

abbrev pub history_after_start : History → History
history_after_start h = history_after_start_with (begun_by_start h) h

-- A call got this answer and wrote these changes: they are made. A flush that returned Ok flushes everything, and so does an id that wrote
-- a counter.
abbrev pub history_after_answer : Answer → List (Event Update) → History → History
history_after_answer (Flushed (Ok written)) changes h = with_all_flushed (with_made changes h)
history_after_answer (Generated (Ok id)) (change ∷ changes) h = with_all_flushed (with_made (change ∷ changes) h)
history_after_answer answer changes h = with_made changes h

-- the same, or after a write error they had begun
abbrev pub history_after_changes : Bool → Answer → List (Event Update) → History → History
history_after_changes true answer changes h = with_begun changes h
history_after_changes false answer changes h = history_after_answer answer changes h

abbrev pub history_after_call : Answer → Outcome → History → History
history_after_call answer out h = history_after_changes out.state.fault answer out.changes h

-- after calls with these outcomes
abbrev pub history_after_calls : List (Call × Answer) → List Outcome → History → History
history_after_calls (call ∷ calls) (out ∷ outs) h = history_after_calls calls outs (history_after_call call.1 out h)
history_after_calls calls outs h = h

-- Why an opening fails: an allocation or the device failed, the settings have that fault, or a system page was missing for which the log
-- had no room.
abbrev pub RefusesAfter : History → Config → Error → Type 0
RefusesAfter h config error = RefusesReopening config error ⊎ ((error ≡ Unsupported LogFull) × (begun_by_start h ≢ []))

-- If no cache was opened, there was a crash, or a prefix of the missing system pages was added.
abbrev pub EndsUnopened : History → History → Type 0
EndsUnopened h after = Crashes (with_begun (begun_by_start h) h) after ⊎ ((part : List (Event Update)) × IsPrefix part (begun_by_start h) × (after ≡ with_made part h))

-- if no write failed, the state has the pages of now
abbrev pub HasPagesOf : History → State → Type 0
HasPagesOf h t = t.fault ≡ false → contents_of t ≡ pages_by_now h

module _ {L : Type 0} (g : Ghosts L) where
  -- the cache is what is opened of the pages of now
  pub record IsOpenedOf (h : History) (config : Config) (cache : Cache L) : Type 0 where
    pub state : IsInState g cache (opened_state config (pages_by_now h))
    pub config_is : cache.config ≡ config
    pub recovered : cache.recovered ≡ has_own (pages_by_now h)

  -- The calls were made one after another, each of the cache that the call before left, which may have been served since. Each is a step
  -- over that cache, from the state that it is in, with the outcome at the same place, and leaves a cache in the state of that outcome.
  abbrev pub AreStepsServed : Cache L → State → List (Call × Answer) → List Outcome → Cache L → State → Type 0
  AreStepsServed old s [] [] new t = IsServed g old new × (t ≡ s)
  AreStepsServed old s (made ∷ calls) (out ∷ outs) new t =
      (served mid : Cache L) × IsServed g old served × IsMade g served made.0 made.1 mid × StepOver g served s made.0 made.1 out × IsInState g mid out.state × AreStepsServed mid out.state calls outs new t
  AreStepsServed old s calls outs new t = ⊥

  -- How an opening ends: a crash inside a call may leave what the call began, but rewriting begins nothing. A log is passed on only if no
  -- write failed. A log into which the cache was rewritten holds the pages of that moment, all of them flushed.
  abbrev pub Ends : Cache L → State → History → Ending → History → Type 0
  Ends last t h Crashed after = Crashes h after
  Ends last t h (CrashedIn call answer) after = (out : Outcome) × StepOver g last t call answer out × Crashes (with_begun out.changes h) after
  Ends last t h CrashedRewriting after = Crashes h after
  Ends last t h HandedOn after = (t.fault ≡ false) × (after ≡ h)
  Ends last t h Rewritten after = (t.fault ≡ false) × (after ≡ history_from (pages_by_now h))

  -- Each cache is what is opened of the pages of that moment, and from there its calls get answers that the machine may give, one after
  -- another.
  abbrev pub ShowPrefixes : History → List (Opening L) → Type 0
  ShowPrefixes h [] = ⊤
  ShowPrefixes h (Refused config result left ∷ openings) =
      IfErr result (λ e. RefusesAfter h config e.0) × (after : History) × EndsUnopened h after × ShowPrefixes after openings
  ShowPrefixes h (Lasted config first calls last ending left ∷ openings) =
      IsOpenedOf h config first
      × (outs : List Outcome) × (t : State) × AreStepsServed first (opened_state config (pages_by_now h)) calls outs last t
      × HasPagesOf (history_after_calls calls outs (history_after_start h)) t
      × (after : History) × Ends last t (history_after_calls calls outs (history_after_start h)) ending after × ShowPrefixes after openings

  -- Every sequence of openings from an empty log shows such prefixes.
  abbrev pub EveryOpeningShowsAPrefix : Type 0
  EveryOpeningShowsAPrefix = (log : L) (openings : List (Opening L)) → IsEmpty g log → IsRun g log openings → ShowPrefixes (history_from []) openings
