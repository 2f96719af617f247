-- How an opening of maps ends, by how its cache ends.
use Rattle.std.proofs.Common.{◌≡◌, Bool, false, List, [], ◌∷◌, ◌++◌, sym, ◌∙◌, ap, subst}
use Rattle.std.proofs.lemmas.List.{append-nil}
use Rattle.sled_log.specs.Contents.{Content, Update, contents_after}
use Rattle.sled_log.specs.Events.{Event}
use Rattle.sled_log.specs.Inside.ReadingLaws.{contents_after-append}
use Rattle.sled_log.specs.declared.log.Log.{Ghosts}
use Rattle.sled_pagecache.specs.Cache.{Cache}
use Rattle.sled_pagecache.specs.Prefixes as cache
use Rattle.sled_pagecache.specs.Prefixes.{AreStepsServed, HasPagesOf, history_after_calls}
use Rattle.sled_pagecache.specs.Rows.{AreMade, IsInState, StepInRow, changes_of}
use Rattle.sled_pagecache.specs.Served.{IsServed, StaysAsItIs}
use Rattle.sled_pagecache.specs.State.{State, contents_of}
use Rattle.sled_pagecache.specs.Step.{Outcome}
use Rattle.sled_pagecache.specs.declared.pagecache.handles.call.Answer.{Answer}
use Rattle.sled_pagecache.specs.declared.pagecache.handles.call.Call.{Call}
use Rattle.sled_search.specs.Calls as search
use Rattle.sled_tree.specs.Named.{Named}
use Rattle.sled_tree.specs.Openings.{Ending, Crashed, CrashedIn, CrashedRewriting, HandedOn, Rewritten, Leaves}
use Rattle.sled_tree.specs.Performs.{Runs}
use Rattle.sled_tree.specs.Prefixes.{History, history_from, pages_by_now, named_by_now, with_done, Crashes, ShowEnd}
use Rattle.sled_tree.proofs.OpeningsCaches.{ended, inside}
use Rattle.sled_tree.proofs.OpeningsCalls.{calls-went}
use Rattle.sled_tree.proofs.OpeningsCrashes.{crashes}
use Rattle.sled_tree.proofs.OpeningsDeeds.{Stands}
use Rattle.sled_tree.proofs.OpeningsInside.{goes-on, crashed-inside}
use Rattle.sled_tree.proofs.OpeningsMaps.{Covers, Matches, matches-nothing, same-changes, same-now, are-now}
use Rattle.sled_tree.proofs.OpeningsRuns.{served-runs, in-last}

module _ {L : Type 0} (g : Ghosts L) where
  -- no call leaves the state
  none-left : (old new : Cache L) (s t : State) (outs : List Outcome) → AreStepsServed g old s [] outs new t → t ≡ s
  none-left old new s t [] steps = steps.1
  none-left old new s t (out ∷ outs) steps = absurd steps

  -- the pages behind some calls of a deed
  pages-reached : (calls : List (Call × Answer)) (outs : List Outcome) (s t : State) (c : cache.History) (h : History) → Matches c h s.fault → Runs g s calls outs t → HasPagesOf (history_after_calls calls outs c) t → t.fault ≡ false → contents_of t ≡ contents_after (pages_by_now h) (changes_of outs)
  pages-reached calls outs s t c h matches runs has free =
      let after = history_after_calls calls outs c in
      let went = calls-went g s t calls outs c runs matches.sound in
      let none = went.sound.clear free in
      let made : after.changes ≡ search.changes_of h.done ++ changes_of outs =
      sym (append-nil after.changes) ∙ sym (ap (λ (es : List (Event Update)). after.changes ++ es) none) ∙ went.are ∙ ap (λ (es : List (Event Update)). es ++ changes_of outs) (same-changes c h matches.covers) in
      has free ∙ ap (λ (ps : List Content). contents_after ps after.changes) (went.pages ∙ matches.covers.pages)
      ∙ ap (λ (es : List (Event Update)). contents_after h.pages es) made ∙ contents_after-append h.pages (search.changes_of h.done) (changes_of outs)

  module _ {D : Type 0} (Needs : D → Named → Type 0) (Does : D → Bool → Named → Named → Type 0) (rows : (old new : Cache L) (calls : List (Call × Answer)) → AreMade g old calls new → StepInRow g old calls new) (stays : (old new : Cache L) → IsServed g old new → StaysAsItIs g old new)
      (s t : State) (h : History) (c after : cache.History) (old : Cache L) (outs : List Outcome) (stands : Stands g Needs Does c h s) (is : IsInState g old s) (Then : History → Type 0) (goes : (then_on : History) → Matches after then_on false → Then then_on) where
    by-crash : (h : History) (c : cache.History) (rest : List (Event Update)) → Covers c h rest → cache.Crashes c after → (then_on : History) × Crashes h then_on × Then then_on
    by-crash h c rest covers crash = let (then_on, crashed, matches) = crashes c h rest covers after crash in (then_on, crashed, goes then_on matches)

    -- where the cache goes on, no write fault is kept
    clear-so : (last : Cache L) → AreStepsServed g old s [] outs last t → t.fault ≡ false → s.fault ≡ false
    clear-so last steps free = sym (ap (λ (u : State). u.fault) (none-left old last s t outs steps)) ∙ free

    pub ends-so : (last : Cache L) (ending : Ending D) (left : L) (leaves : Leaves g Needs Does last ending left) → AreStepsServed g old s (ended g Needs Does last ending left leaves).more outs (ended g Needs Does last ending left leaves).last t
        → HasPagesOf (history_after_calls (ended g Needs Does last ending left leaves).more outs c) t
        → cache.Ends g (ended g Needs Does last ending left leaves).last t (history_after_calls (ended g Needs Does last ending left leaves).more outs c) (ended g Needs Does last ending left leaves).ending after → ShowEnd Needs Does s h ending Then
    ends-so last Crashed left leaves steps has ends = by-crash h c [] stands.matches.covers ends
    ends-so last CrashedRewriting left leaves steps has ends = by-crash h c [] stands.matches.covers ends
    ends-so last HandedOn left leaves steps has (free, same) =
        let clear = clear-so last steps free in
        (clear, goes h (subst (λ (a : cache.History). Matches a h false) (sym same) (subst (Matches c h) clear stands.matches)))
    ends-so last Rewritten left leaves steps has (free, same) =
        let clear = clear-so last steps free in
        let now = history_from (pages_by_now h) (named_by_now h) in
        let is_now = same-now c h stands.matches.covers (stands.matches.sound.clear clear) in
        (clear, goes now (subst (λ (a : cache.History). Matches a now false) (sym (same ∙ ap cache.history_from is_now)) (matches-nothing (pages_by_now h) (named_by_now h) (are-now c h stands.matches.covers))))
    ends-so last (CrashedIn deed) left (end, (does, calls_are), crash) steps has (out, step, crash_then) = λ needs.
        let i = inside g last does.calls end does.made left crash in
        let run = served-runs g old i.reached s t i.before outs steps in
        let on = goes-on g Needs Does rows t i.reached i.mid end i.call i.answer out i.behind (in-last g stays old i.reached s t i.before outs steps is) step i.made i.made_behind in
        let (changes, rest, fault, w, makes, covers) = crashed-inside g Needs Does rows deed.what i.before i.behind i.call i.answer s t i.reached outs out h c on run step
        (λ s t outs runs. does.so s t outs (subst (λ calls. Runs g s calls outs t) (sym i.are) runs)) stands needs (pages-reached i.before outs s t c h stands.matches run has) in
        let crashed = by-crash (with_done changes w h) (cache.with_begun out.changes (history_after_calls i.before outs c)) rest covers crash_then in
        (changes, fault, w, makes, crashed.0, crashed.1, crashed.2)
