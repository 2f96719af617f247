-- What every run of openings shows of its maps: those after a prefix of the deeds, which holds all that was flushed.
use Rattle.std.specs.Prelude.{◌≡◌, ◌⊎◌, ◌≤◌, ℕ, Bool, true, false, List, [], ◌∷◌, ◌++◌, length, take, Ok, IfErr, if◌then◌else◌, ⊤}
use Rattle.std.specs.List.{list_any}
use Rattle.sled_log.specs.Contents.{Content, Update, contents_after}
use Rattle.sled_log.specs.Events.{Event, Change, Pin, Seal, Cancel, IsFair}
use Rattle.sled_log.specs.LogState.{IsPrefix}
use Rattle.sled_log.specs.declared.log.Log.{Ghosts}
use Rattle.sled_pagecache.specs.Opening.{changes_of_start, opened_state}
use Rattle.sled_pagecache.specs.Prefixes as cache
use Rattle.sled_pagecache.specs.Prefixes.{IsOpenedOf, RefusesAfter}
use Rattle.sled_pagecache.specs.Rows as row
use Rattle.sled_pagecache.specs.State.{State, contents_of}
use Rattle.sled_pagecache.specs.Step.{Outcome}
use Rattle.sled_pagecache.specs.declared.pagecache.handles.call.Answer.{Answer}
use Rattle.sled_pagecache.specs.declared.pagecache.handles.call.Answer.TheVariants.{Flushed}
use Rattle.sled_pagecache.specs.declared.pagecache.handles.call.Call.{Call}
use Rattle.sled_search.specs.Calls.{Call as Done, ArePrefixOf, changes_of, left_by}
use Rattle.sled_search.specs.Maps.{no_maps}
use Rattle.sled_tree.specs.Named.{Named, AreNamed}
use Rattle.sled_tree.specs.Openings.{Deed, Ending, Crashed, CrashedIn, CrashedRewriting, HandedOn, Rewritten, Opening, Refused, Lasted}
use Rattle.sled_tree.specs.Performs.{Runs}

-- no name, and no map
abbrev pub nothing_named : Named
nothing_named = record { names = []; maps = no_maps }

-- Which maps the pages are; there may be no page yet.
abbrev pub AreSoFar : List Content → Named → Type 0
AreSoFar [] w = w ≡ nothing_named
AreSoFar (page ∷ pages) w = AreNamed (page ∷ pages) w

-- The pages as the last crash left them, and the maps that they were. Then what was done since, in order: the changes of each deed, and the maps
-- after it. Last, how many of these deeds are flushed.
pub record History : Type 0 where
  pub pages : List Content
  pub named : Named
  pub done : List (Done Named)
  pub flushed : ℕ

-- nothing was done since
abbrev pub history_from : List Content → Named → History
history_from pages w = record { pages = pages; named = w; done = []; flushed = 0 }

-- the pages and the maps after all of it
abbrev pub pages_by_now : History → List Content
pages_by_now h = contents_after h.pages (changes_of h.done)

abbrev pub named_by_now : History → Named
named_by_now h = left_by h.named h.done

abbrev pub with_done : List (Event Update) → Named → History → History
with_done changes w h = record h { done = h.done ++ (changes, w) ∷ [] }

-- whether a flush was made among these calls
abbrev pub is_flush : Answer → Bool
is_flush (Flushed (Ok written)) = true
is_flush answer = false

abbrev pub flushes : List (Call × Answer) → Bool
flushes calls = list_any (λ made. is_flush made.1) calls

-- One more deed was done. If it made a flush, all deeds before it are flushed.
abbrev pub history_after : {D : Type 0} → Deed D → List (Event Update) → Named → History → History
history_after deed changes w h =
    record (with_done changes w h) { flushed = if flushes deed.calls then length h.done else h.flushed }

-- The pages are those after a prefix of the changes, which splits no batch. The maps are those after a prefix of the deeds, which ends at the same
-- place and holds all deeds that are flushed.
pub record Survives (h : History) (pages : List Content) (w : Named) : Type 0 where
  pub cut : ℕ
  pub fair : IsFair (changes_of h.done) cut
  pub pages_are : pages ≡ contents_after h.pages (take cut (changes_of h.done))
  pub prefix : ArePrefixOf AreSoFar h.pages h.named h.done cut
  pub named_are : w ≡ left_by h.named (take prefix.count h.done)
  pub holds : h.flushed ≤ prefix.count

-- a crash: the next history begins with pages and maps that survive
abbrev pub Crashes : History → History → Type 0
Crashes h after = (pages : List Content) × (w : Named) × Survives h pages w × (after ≡ history_from pages w)

-- a change of a page, and not a mark of a batch
abbrev pub IsNoMark : Event Update → Type 0
IsNoMark (Change id update) = ⊤
IsNoMark Pin = ⊥
IsNoMark Seal = ⊥
IsNoMark Cancel = ⊥

-- an opening makes the missing system pages, which leaves the maps as they are
abbrev pub begun_by_start : History → List (Event Update)
begun_by_start h = changes_of_start (pages_by_now h)

abbrev pub history_after_start : History → History
history_after_start h = with_done (begun_by_start h) (named_by_now h) h

-- If no cache was opened, a prefix of the missing system pages was made, and then a crash came, or none.
abbrev pub EndsUnopened : History → History → Type 0
EndsUnopened h after =
    (part : List (Event Update)) × IsPrefix part (begun_by_start h)
    × (Crashes (with_done part (named_by_now h) h) after ⊎ (after ≡ with_done part (named_by_now h) h))

module _ {D : Type 0} (Does : D → Bool → Named → Named → Type 0) where
  -- What a deed makes of the maps. The first `Bool` is whether a write failed before it, the second whether one has failed by its end. After a write
  -- that failed, nothing is changed.
  abbrev pub Makes : Bool → D → Bool → Named → Named → Type 0
  Makes true what fault old new = new ≡ old
  Makes false what fault old new = Does what fault old new

-- What is said of a deed, and of all that comes after it, holds if the maps at that time have what the deed needs.
module _ {D : Type 0} (Needs : D → Named → Type 0) (Does : D → Bool → Named → Named → Type 0) where
  -- How an opening ends, and what holds of the history from there. A deed in which a crash came is one more deed, of which any part may be left.
  abbrev pub ShowEnd : State → History → Ending D → (History → Type 0) → Type 0
  ShowEnd t h Crashed Then = (after : History) × Crashes h after × Then after
  ShowEnd t h (CrashedIn deed) Then =
      Needs deed.what (named_by_now h)
      → (changes : List (Event Update)) × (fault : Bool) × (w : Named) × Makes Does t.fault deed.what fault (named_by_now h) w
      × (after : History) × Crashes (with_done changes w h) after × Then after
  ShowEnd t h CrashedRewriting Then = (after : History) × Crashes h after × Then after
  ShowEnd t h HandedOn Then = (t.fault ≡ false) × Then h
  ShowEnd t h Rewritten Then = (t.fault ≡ false) × Then (history_from (pages_by_now h) (named_by_now h))

module _ {L D : Type 0} (g : Ghosts L) (Needs : D → Named → Type 0) (Does : D → Bool → Named → Named → Type 0) where
  -- The deeds were done one after another. The calls of the cache get answers that the machine may give from the state at that time, and each deed
  -- makes of the maps what it says. Then this holds of the history and the state.
  abbrev pub ShowDeeds : History → State → List (Deed D) → (History → State → Type 0) → Type 0
  ShowDeeds h s [] Then = Then h s
  ShowDeeds h s (deed ∷ deeds) Then =
      Needs deed.what (named_by_now h)
      → (outs : List Outcome) × (t : State) × Runs g s deed.calls outs t
      × (w : Named) × Makes Does s.fault deed.what t.fault (named_by_now h) w
      × ShowDeeds (history_after deed (row.changes_of outs) w h) t deeds Then

  -- Each cache is what opening makes of the pages at that time, and has the maps at that time. Its deeds are done from there.
  abbrev pub ShowMaps : History → List (Opening L D) → Type 0
  ShowMaps h [] = ⊤
  ShowMaps h (Refused config result left ∷ openings) =
      IfErr result (λ e. RefusesAfter (cache.history_from (pages_by_now h)) config e.0)
      × (after : History) × EndsUnopened h after × ShowMaps after openings
  ShowMaps h (Lasted config first deeds last ending left ∷ openings) =
      IsOpenedOf g (cache.history_from (pages_by_now h)) config first
      × AreNamed (contents_of (opened_state config (pages_by_now h))) (named_by_now h)
      × ShowDeeds (history_after_start h) (opened_state config (pages_by_now h)) deeds
      (λ behind t. ShowEnd Needs Does t behind ending (λ after. ShowMaps after openings))
