-- Deeds one after another make of the maps what they say.
use Rattle.std.proofs.Common.{◌≡◌, ◌≤◌, Bool, true, false, List, [], ◌∷◌, ◌++◌, length, refl, sym, ◌∙◌, ap, subst, arith, ⊎_elim}
use Rattle.std.proofs.lemmas.Bool.{false≢true, cases_Bool}
use Rattle.sled_log.specs.Contents.{Content, Update, contents_after}
use Rattle.sled_log.specs.Events.{Event}
use Rattle.sled_log.specs.declared.log.Log.{Ghosts}
use Rattle.sled_pagecache.specs.Cache.{Cache}
use Rattle.sled_pagecache.specs.Prefixes as cache
use Rattle.sled_pagecache.specs.Prefixes.{AreStepsServed, history_after_call, history_after_calls}
use Rattle.sled_pagecache.specs.Rows.{IsInState, changes_of}
use Rattle.sled_pagecache.specs.State.{State, contents_of}
use Rattle.sled_pagecache.specs.Step.{Outcome}
use Rattle.sled_pagecache.specs.declared.pagecache.handles.call.Answer.{Answer}
use Rattle.sled_pagecache.specs.declared.pagecache.handles.call.Call.{Call}
use Rattle.sled_search.specs.Calls.{Becomes}
use Rattle.sled_search.proofs.InARow.{no-change}
use Rattle.sled_tree.specs.Named.{Named, AreNamed}
use Rattle.sled_tree.specs.Openings.{Deed, KeepsWord, AreDoneServed}
use Rattle.sled_tree.specs.Performs.{Runs}
use Rattle.sled_tree.specs.Prefixes.{History, pages_by_now, named_by_now, history_after, flushes, AreSoFar, Makes, ShowDeeds}
use Rattle.sled_tree.proofs.OpeningsCalls.{calls-went}
use Rattle.sled_tree.proofs.OpeningsMaps.{Matches, are-now, matches-more, now-then}
use Rattle.sled_tree.proofs.OpeningsPages.{no-fewer, named-of, becomes-so-far}
use Rattle.sled_tree.proofs.OpeningsRuns.{cut, runs-stuck}
use Rattle.sled_tree.proofs.OpeningsServed.{calls_then}

module _ {L D : Type 0} (g : Ghosts L) (Needs : D → Named → Type 0) (Does : D → Bool → Named → Named → Type 0) where
  -- the histories of calls behind others
  calls-behind : (s u : State) (calls others : List (Call × Answer)) (outs more : List Outcome) (c : cache.History) → Runs g s calls outs u → history_after_calls (calls ++ others) (outs ++ more) c ≡ history_after_calls others more (history_after_calls calls outs c)
  calls-behind s u [] others [] more c runs = refl
  calls-behind s u [] others (out ∷ outs) more c runs = absurd runs
  calls-behind s u (made ∷ calls) others [] more c runs = absurd runs
  calls-behind s u (made ∷ calls) others (out ∷ outs) more c (over, step, runs) = calls-behind out.state u calls others outs more (history_after_call made.1 out c) runs

  -- what one deed makes of the maps
  pub record IsMadeOf (what : D) (s : State) (h : History) (changes : List (Event Update)) (t : State) : Type 0 where
    pub w : Named
    pub makes : Makes Does s.fault what t.fault (named_by_now h) w
    pub becomes : Becomes AreSoFar (pages_by_now h) (named_by_now h) changes w

  module _ (what : D) (calls : List (Call × Answer)) (s t : State) (outs : List Outcome) (h : History) (runs : Runs g s calls outs t) (word : KeepsWord Needs Does what s (changes_of outs) t) (pages : s.fault ≡ false → contents_of s ≡ pages_by_now h) where
    pub deed-made : 1 ≤ length (pages_by_now h) → AreSoFar (pages_by_now h) (named_by_now h) → Needs what (named_by_now h) → IsMadeOf what s h (changes_of outs) t
    deed-made some are needs = ⊎_elim kept free (cases_Bool s.fault)
      where
        kept : s.fault ≡ true → IsMadeOf what s h (changes_of outs) t
        kept is = record {
          w = named_by_now h;
          makes = subst (λ b. Makes Does b what t.fault (named_by_now h) (named_by_now h)) (sym is) refl;
          becomes = subst (λ (es : List (Event Update)). Becomes AreSoFar (pages_by_now h) (named_by_now h) es (named_by_now h)) (sym (runs-stuck g s t calls outs runs is).0) (no-change AreSoFar (pages_by_now h) (named_by_now h) are);
        }

        free : s.fault ≡ false → IsMadeOf what s h (changes_of outs) t
        free is =
            let named = named-of (pages_by_now h) (named_by_now h) some are in
            let (new, does, becomes) = word.turns (named_by_now h) (subst (λ (ps : List Content). AreNamed ps (named_by_now h)) (sym (pages is)) named) needs in
            record {
              w = new;
              makes = subst (λ b. Makes Does b what t.fault (named_by_now h) new) (sym is) does;
              becomes = becomes-so-far (pages_by_now h) (named_by_now h) new (changes_of outs) some (subst (λ (ps : List Content). Becomes AreNamed ps (named_by_now h) (changes_of outs) new) (pages is) becomes);
            }

    pub pages-behind : t.fault ≡ false → contents_of t ≡ contents_after (pages_by_now h) (changes_of outs)
    pages-behind free = word.pages free ∙ ap (λ (ps : List Content). contents_after ps (changes_of outs)) (pages (⊎_elim (λ kept. absurd (false≢true (sym free ∙ (runs-stuck g s t calls outs runs kept).1))) (λ clear. clear) (cases_Bool s.fault)))

  -- What stands between a deed and the next: the state, and the histories.
  pub record Stands (c : cache.History) (h : History) (s : State) : Type 0 where
    pub matches : Matches c h s.fault
    pub pages : s.fault ≡ false → contents_of s ≡ pages_by_now h
    pub some : 1 ≤ length (pages_by_now h)

  -- Deeds came, and calls of the cache behind them.
  pub record HaveGone (c : cache.History) (calls more : List (Call × Answer)) (outs : List Outcome) (last : Cache L) (t : State) (h : History) (u : State) : Type 0 where
    pub then_on : cache.History
    pub stands : Stands then_on h u
    pub mid : Cache L
    pub later : List Outcome
    pub steps : AreStepsServed g mid u more later last t
    pub is : IsInState g mid u
    pub same : history_after_calls calls outs c ≡ history_after_calls more later then_on

  pub deeds-go : (deeds : List (Deed D)) (more : List (Call × Answer)) (begin end old last : Cache L) (s t : State) (outs : List Outcome) (h : History) (c : cache.History) (Then : History → State → Type 0)
      → AreDoneServed g Needs Does begin deeds end → AreStepsServed g old s (calls_then deeds more) outs last t → IsInState g old s → Stands c h s
      → ((behind : History) (u : State) → HaveGone c (calls_then deeds more) more outs last t behind u → Then behind u) → ShowDeeds g Needs Does h s deeds Then
  deeds-go [] more begin end old last s t outs h c Then done steps is stands goes =
      goes h s (record { then_on = c; stands = stands; mid = old; later = outs; steps = steps; is = is; same = refl })
  deeds-go (deed ∷ deeds) more begin end old last s t outs h c Then (served, mid, still, (does, calls_are), others) steps is stands goes = λ needs.
      let part = cut g old last s t deed.calls (calls_then deeds more) outs steps is in
      let word = does.so s part.u part.first (subst (λ calls. Runs g s calls part.first part.u) (sym calls_are) part.runs) in
      let made = deed-made deed.what deed.calls s part.u part.first h part.runs word stands.pages stands.some (are-now c h stands.matches.covers) needs in (
        part.first,
        part.u,
        part.runs,
        made.w,
        made.makes,
        deeds-go deeds more mid end part.mid last part.u t part.later (history_after deed (changes_of part.first) made.w h) (history_after_calls deed.calls part.first c) Then others part.steps part.is
            (stands-then part.u part.first part.runs word made)
            (λ behind u gone. goes behind u (record { then_on = gone.then_on; stands = gone.stands; mid = gone.mid; later = gone.later; steps = gone.steps; is = gone.is; same = parts part.are (calls-behind s part.u deed.calls (calls_then deeds more) part.first part.later c part.runs) gone.same })),
      )
    where
      stands-then : (u : State) (first : List Outcome) → Runs g s deed.calls first u → KeepsWord Needs Does deed.what s (changes_of first) u → (made : IsMadeOf deed.what s h (changes_of first) u) → Stands (history_after_calls deed.calls first c) (history_after deed (changes_of first) made.w h) u
      stands-then u first runs word made = record {
        matches = matches-more c h stands.matches.covers (changes_of first) made.w (flushes deed.calls) (history_after_calls deed.calls first c) u.fault (calls-went g s u deed.calls first c runs stands.matches.sound) made.becomes;
        pages = λ free. pages-behind deed.what deed.calls s u first h runs word stands.pages free ∙ sym (now-then h (changes_of first) made.w (flushes deed.calls));
        some = let now = ap length (now-then h (changes_of first) made.w (flushes deed.calls)) in let more = no-fewer (pages_by_now h) (changes_of first) in let some = stands.some in omega arith;
      }

      parts : {some : List Outcome} {a b : cache.History} → outs ≡ some → history_after_calls (deed.calls ++ calls_then deeds more) some c ≡ a → a ≡ b → history_after_calls (deed.calls ++ calls_then deeds more) outs c ≡ b
      parts are first later = ap (λ (os : List Outcome). history_after_calls (deed.calls ++ calls_then deeds more) os c) are ∙ first ∙ later
