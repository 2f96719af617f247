-- What a run of caches shows, a run of maps shows of them.
use Rattle.std.proofs.Common.{◌≡◌, Bool, true, false, List, [], ◌∷◌, length, inl, inr, ⊎_elim, refl, sym, ◌∙◌, ap, subst, arith}
use Rattle.std.specs.Prelude.{IfErr}
use Rattle.std.proofs.lemmas.List.{append-nil}
use Rattle.sled_base.specs.declared.types.Error.{Error}
use Rattle.sled_log.specs.Contents.{Content, Update}
use Rattle.sled_log.specs.Events.{Event}
use Rattle.sled_log.specs.LogState.{IsPrefix}
use Rattle.sled_log.specs.declared.log.Log.{Ghosts}
use Rattle.sled_pagecache.specs.Cache.{Cache}
use Rattle.sled_pagecache.specs.Opening.{changes_of_start, opened_state}
use Rattle.sled_pagecache.specs.Prefixes as cache
use Rattle.sled_pagecache.specs.Prefixes.{AreStepsServed, HasPagesOf, IsOpenedOf, RefusesAfter, ShowPrefixes, history_after_calls}
use Rattle.sled_pagecache.specs.Rows.{AreMade, IsInState, StepInRow}
use Rattle.sled_pagecache.specs.Served.{IsServed, StaysAsItIs}
use Rattle.sled_pagecache.specs.State.{State, contents_of}
use Rattle.sled_pagecache.specs.Step.{Outcome}
use Rattle.sled_pagecache.specs.declared.pagecache.handles.call.Answer.{Answer}
use Rattle.sled_pagecache.specs.declared.pagecache.handles.call.Call.{Call}
use Rattle.sled_pagecache.specs.declared.pagecache.handles.config.Config.{Config}
use Rattle.sled_search.specs.Calls.{Becomes}
use Rattle.sled_tree.specs.Named.{Named, AreNamed}
use Rattle.sled_tree.specs.Openings.{Deed, Ending, Opening, Refused, Lasted, AreDoneServed, Leaves, IsRun}
use Rattle.sled_tree.specs.Prefixes.{History, pages_by_now, named_by_now, with_done, begun_by_start, history_after_start, AreSoFar, EndsUnopened, ShowEnd, ShowDeeds, ShowMaps}
use Rattle.sled_tree.proofs.OpeningsCaches.{IsEnded, caches_of, ended}
use Rattle.sled_tree.proofs.OpeningsCrashes.{crashes}
use Rattle.sled_tree.proofs.OpeningsDeeds.{Stands, deeds-go}
use Rattle.sled_tree.proofs.OpeningsEnds.{ends-so}
use Rattle.sled_tree.proofs.OpeningsHistory.{begun-went, made-went}
use Rattle.sled_tree.proofs.OpeningsMaps.{Matches, same-now, are-now, now-then, named-then, covers-more, matches-more}
use Rattle.sled_tree.proofs.OpeningsOpened.{opened-pages, two-pages}
use Rattle.sled_tree.proofs.OpeningsPages.{named-of}
use Rattle.sled_tree.proofs.OpeningsServed.{calls_then}
use Rattle.sled_tree.proofs.OpeningsStart.{start-made, part-made, start-went}

-- ---- no cache was opened, or one begins

module _ (c : cache.History) (h : History) (matches : Matches c h false) where
  pub same-pages : cache.pages_by_now c ≡ pages_by_now h
  same-pages = same-now c h matches.covers (matches.sound.clear refl)

  same-begun : cache.begun_by_start c ≡ begun_by_start h
  same-begun = ap changes_of_start same-pages

  pub unopened : (after : cache.History) → cache.EndsUnopened c after → (then_on : History) × EndsUnopened h then_on × Matches after then_on false
  unopened after ends = ⊎_elim by-crash by-return ends
    where
      all : List (Event Update)
      all = begun_by_start h

      begun-all : Becomes AreSoFar (pages_by_now h) (named_by_now h) all (named_by_now h)
      begun-all = start-made (pages_by_now h) (named_by_now h) (are-now c h matches.covers)

      IsEnd : Type 0
      IsEnd = (then_on : History) × EndsUnopened h then_on × Matches after then_on false

      by-crash : cache.Crashes (cache.with_begun (cache.begun_by_start c) c) after → IsEnd
      by-crash crash =
          let covers = covers-more c h matches.covers all [] all (append-nil all) (named_by_now h) false (cache.with_begun all c) true (begun-went c all false matches.sound) begun-all in
          let (then_on, crashed, so) = crashes (cache.with_begun all c) (with_done all (named_by_now h) h) [] covers after (subst (λ (es : List (Event Update)). cache.Crashes (cache.with_begun es c) after) same-begun crash) in
          (then_on, (all, ([], append-nil all), inl crashed), so)

      by-return : (part : List (Event Update)) × IsPrefix part (cache.begun_by_start c) × (after ≡ cache.with_made part c) → IsEnd
      by-return (part, prefix, is) =
          let prefix_too = subst (λ (es : List (Event Update)). IsPrefix part es) same-begun prefix in
          let made = matches-more c h matches.covers part (named_by_now h) false (cache.with_made part c) false (made-went c part matches.sound) (part-made (named_by_now h) (pages_by_now h) part all prefix_too begun-all) in
          (with_done part (named_by_now h) h, (part, prefix_too, inr refl), subst (λ (a : cache.History). Matches a (with_done part (named_by_now h) h) false) (sym is) made)

  pub begins : Matches (cache.history_after_start c) (history_after_start h) false
  begins =
      subst (λ (es : List (Event Update)). Matches (cache.history_after_start_with es c) (history_after_start h) false) (sym same-begun)
      (matches-more c h matches.covers (begun_by_start h) (named_by_now h) false (cache.history_after_start_with (begun_by_start h) c) false (start-went (begun_by_start h) c matches.sound)
      (start-made (pages_by_now h) (named_by_now h) (are-now c h matches.covers)))

module _ {L D : Type 0} (g : Ghosts L) (Needs : D → Named → Type 0) (Does : D → Bool → Named → Named → Type 0) (rows : (old new : Cache L) (calls : List (Call × Answer)) → AreMade g old calls new → StepInRow g old calls new) (stays : (old new : Cache L) → IsServed g old new → StaysAsItIs g old new) where
  -- a cache that was opened, and before its first deed
  stands-first : (c : cache.History) (h : History) (config : Config) → Matches c h false → Stands g Needs Does (cache.history_after_start c) (history_after_start h) (opened_state config (pages_by_now h))
  stands-first c h config matches =
      let now = now-then h (begun_by_start h) (named_by_now h) false in
      let long = ap length now in
      let both = two-pages (pages_by_now h) in
      record { matches = begins c h matches; pages = λ _. opened-pages config (pages_by_now h) ∙ sym now; some = omega arith }

  -- it has the maps by then
  named-first : (c : cache.History) (h : History) (config : Config) → Matches c h false → AreNamed (contents_of (opened_state config (pages_by_now h))) (named_by_now h)
  named-first c h config matches =
      let first = stands-first c h config matches in
      let after = history_after_start h in
      let named = named-of (pages_by_now after) (named_by_now after) first.some (are-now (cache.history_after_start c) after first.matches.covers) in
      subst (λ (w : Named). AreNamed (contents_of (opened_state config (pages_by_now h))) w) (named-then h.named h.done (begun_by_start h) (named_by_now h))
      (subst (λ (ps : List Content). AreNamed ps (named_by_now after)) (sym (first.pages refl)) named)

  -- an opening whose cache was opened
  module _ (c : cache.History) (h : History) (matches : Matches c h false) (config : Config) (first last : Cache L) (deeds : List (Deed D)) (done : AreDoneServed g Needs Does first deeds last) (ending : Ending D) (left : L) (leaves : Leaves g Needs Does last ending left) where
    abbrev end : IsEnded g last left
    end = ended g Needs Does last ending left leaves

    abbrev start : State
    start = opened_state config (pages_by_now h)

    lasts : (outs : List Outcome) (t : State) (after : cache.History) (Then : History → Type 0) → IsInState g first start → AreStepsServed g first start (calls_then deeds end.more) outs end.last t
        → HasPagesOf (history_after_calls (calls_then deeds end.more) outs (cache.history_after_start c)) t → cache.Ends g end.last t (history_after_calls (calls_then deeds end.more) outs (cache.history_after_start c)) end.ending after
        → ((then_on : History) → Matches after then_on false → Then then_on) → ShowDeeds g Needs Does (history_after_start h) start deeds (λ behind u. ShowEnd Needs Does u behind ending Then)
    lasts outs t after Then is steps has ends goes =
        deeds-go g Needs Does deeds end.more first last first end.last start t outs (history_after_start h) (cache.history_after_start c) (λ behind u. ShowEnd Needs Does u behind ending Then) done steps is (stands-first c h config matches)
        (λ behind u gone. ends-so g Needs Does rows stays u t behind gone.then_on after gone.mid gone.later gone.stands gone.is Then goes last ending left leaves gone.steps
        (subst (λ (a : cache.History). HasPagesOf a t) gone.same has) (subst (λ (a : cache.History). cache.Ends g end.last t a end.ending after) gone.same ends))

  pub shows : (h : History) (c : cache.History) (found : L) (openings : List (Opening L D)) (run : IsRun g Needs Does found openings) → Matches c h false → ShowPrefixes g c (caches_of g Needs Does found openings run) → ShowMaps g Needs Does h openings
  shows h c found [] run matches show = tt
  shows h c found (Refused config result left ∷ openings) (log, still, begun, leaves, run) matches (refused, after, ends, more) =
      let (then_on, end, so) = unopened c h matches after ends in
      let refused_too = subst (λ (pages : List Content). IfErr result (λ (e : Error × L). RefusesAfter (cache.history_from pages) config e.0)) (same-pages c h matches) refused in
      (refused_too, then_on, end, shows then_on after left openings run so more)
  shows h c found (Lasted config first deeds last ending left ∷ openings) (log, still, begun, done, leaves, run) matches (opens, outs, t, steps, has, after, ends, more) =
      let end = ended g Needs Does last ending left leaves in
      let opens_too = subst (λ (pages : List Content). IsOpenedOf g (cache.history_from pages) config first) (same-pages c h matches) (record { state = opens.state; config_is = opens.config_is; recovered = opens.recovered }) in
      let steps_too = subst (λ (pages : List Content). AreStepsServed g first (opened_state config pages) (calls_then deeds end.more) outs end.last t) (same-pages c h matches) steps in
      (opens_too, named-first c h config matches, lasts c h matches config first last deeds done ending left leaves outs t after (λ then_on. ShowMaps g Needs Does then_on openings) opens_too.state steps_too has ends (λ then_on so. shows then_on after left openings run so more))
