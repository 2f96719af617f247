-- A crash inside a deed, which would have been done: what its calls began until then is a beginning of what it changes.
use Rattle.std.proofs.Common.{◌≡◌, ◌||◌, Bool, true, false, List, ◌∷◌, ◌++◌, sym, ◌∙◌, ap, subst, ⊎_elim}
use Rattle.std.proofs.lemmas.Bool.{cases_Bool}
use Rattle.std.proofs.lemmas.Grind.{flat_map-append}
use Rattle.std.proofs.lemmas.List.{append_assoc}
use Rattle.sled_log.specs.Contents.{Content, Update, contents_after}
use Rattle.sled_log.specs.Events.{Event}
use Rattle.sled_log.specs.declared.log.Log.{Ghosts}
use Rattle.sled_pagecache.specs.Cache.{Cache}
use Rattle.sled_pagecache.specs.Calls.{StepOver}
use Rattle.sled_pagecache.specs.Inside.SequenceLaws.{step-stuck}
use Rattle.sled_pagecache.specs.Prefixes as cache
use Rattle.sled_pagecache.specs.Prefixes.{history_after_calls, with_begun}
use Rattle.sled_pagecache.specs.Rows.{AreMade, IsMade, IsInState, StepInRow, changes_of}
use Rattle.sled_pagecache.specs.State.{State, contents_of}
use Rattle.sled_pagecache.specs.Step.{Outcome}
use Rattle.sled_pagecache.specs.declared.pagecache.handles.call.Answer.{Answer}
use Rattle.sled_pagecache.specs.declared.pagecache.handles.call.Call.{Call}
use Rattle.sled_search.specs.Calls.{Becomes}
use Rattle.sled_tree.specs.Named.{Named}
use Rattle.sled_tree.specs.Openings.{KeepsWord}
use Rattle.sled_tree.specs.Performs.{Runs}
use Rattle.sled_tree.specs.Prefixes.{History, pages_by_now, named_by_now, with_done, flushes, AreSoFar, Makes}
use Rattle.sled_tree.proofs.OpeningsAlike.{twin}
use Rattle.sled_tree.proofs.OpeningsCalls.{calls-went}
use Rattle.sled_tree.proofs.OpeningsDeeds.{IsMadeOf, Stands, deed-made}
use Rattle.sled_tree.proofs.OpeningsHistory.{Went, went-then, went-any, begun-went}
use Rattle.sled_tree.proofs.OpeningsMaps.{Covers, are-now, covers-more}
use Rattle.sled_tree.proofs.OpeningsPassing.{Passes, passes-itself, becomes-too}
use Rattle.sled_tree.proofs.OpeningsRuns.{runs-then, steps-run}

module _ {L D : Type 0} (g : Ghosts L) (Needs : D → Named → Type 0) (Does : D → Bool → Named → Named → Type 0) (rows : (old new : Cache L) (calls : List (Call × Answer)) → AreMade g old calls new → StepInRow g old calls new) where
  -- the call inside which the crash came as it would have been answered, and the calls behind it
  pub record GoesOn (t : State) (reached : Cache L) (asked : Call) (answer : Answer) (out : Outcome) (behind : List (Call × Answer)) : Type 0 where
    pub other : Outcome
    pub step : StepOver g reached t asked answer other
    pub passes : Passes (contents_of t) out.changes other.changes
    pub outs : List Outcome
    pub last : State
    pub runs : Runs g other.state behind outs last

  pub goes-on : (t : State) (reached mid end : Cache L) (asked : Call) (answer : Answer) (out : Outcome) (behind : List (Call × Answer)) → IsInState g reached t → StepOver g reached t asked answer out → IsMade g reached asked answer mid → AreMade g mid behind end
      → GoesOn t reached asked answer out behind
  goes-on t reached mid end asked answer out behind (held, is) step made others =
      let one = made.step.from_each held t is in
      let row = (rows mid end behind others).from_each one.held_then one.out.state one.is in
      let has = twin g reached t asked answer out one.out step one.step in
      record {
        other = has.other;
        step = has.step;
        passes = has.passes;
        outs = row.outs;
        last = row.t;
        runs = subst (λ u. Runs g u behind row.outs row.t) (sym has.state) (steps-run g mid end one.out.state row.t behind row.outs row.steps);
      }

  module _ (what : D) (before behind : List (Call × Answer)) (asked : Call) (answer : Answer) (s t : State) (reached : Cache L) (later : List Outcome) (out : Outcome) (h : History) (c : cache.History) (on : GoesOn t reached asked answer out behind)
      (runs : Runs g s before later t) (step : StepOver g reached t asked answer out) (so : (s t : State) (outs : List Outcome) → Runs g s (before ++ (asked, answer) ∷ behind) outs t → KeepsWord Needs Does what s (changes_of outs) t)
      (stands : Stands g Needs Does c h s) (needs : Needs what (named_by_now h)) (reaches : t.fault ≡ false → contents_of t ≡ contents_after (pages_by_now h) (changes_of later)) where
    abbrev whole : List Outcome
    whole = later ++ on.other ∷ on.outs

    made_of : IsMadeOf g Needs Does what s h (changes_of whole) on.last
    made_of =
        let all = before ++ (asked, answer) ∷ behind in
        let run = runs-then g s t on.last before ((asked, answer) ∷ behind) later (on.other ∷ on.outs) runs (reached, on.step, on.runs) in
        deed-made g Needs Does what all s on.last whole h run (so s on.last whole run) stands.pages stands.some (are-now c h stands.matches.covers) needs

    passes-now : Passes (contents_after (pages_by_now h) (changes_of later)) out.changes on.other.changes
    passes-now =
        ⊎_elim
        (λ kept.
        let none = ap (λ (o : Outcome). o.changes) (step-stuck g reached t asked answer out step kept) in
        let too = ap (λ (o : Outcome). o.changes) (step-stuck g reached t asked answer on.other on.step kept) in
        subst (λ (es : List (Event Update)). Passes (contents_after (pages_by_now h) (changes_of later)) out.changes es) (none ∙ sym too) (passes-itself (contents_after (pages_by_now h) (changes_of later)) out.changes))
        (λ free. subst (λ (ps : List Content). Passes ps out.changes on.other.changes) (reaches free) on.passes) (cases_Bool t.fault)

    abbrev changes : List (Event Update)
    changes = changes_of later ++ (out.changes ++ changes_of on.outs)

    becomes : Becomes AreSoFar (pages_by_now h) (named_by_now h) changes made_of.w
    becomes =
        becomes-too (pages_by_now h) (changes_of later) out.changes on.other.changes (changes_of on.outs) passes-now (named_by_now h) made_of.w
        (subst (λ (es : List (Event Update)). Becomes AreSoFar (pages_by_now h) (named_by_now h) es made_of.w) (flat_map-append (λ (o : Outcome). o.changes) later (on.other ∷ on.outs)) made_of.becomes)

    abbrev reached_then : cache.History
    reached_then = history_after_calls before later c

    went : Went c (changes_of later ++ out.changes) false (with_begun out.changes reached_then) true
    went =
        let first = calls-went g s t before later c runs stands.matches.sound in
        went-any c (with_begun out.changes reached_then) (changes_of later ++ out.changes) (flushes before || false) true
        (went-then c reached_then (with_begun out.changes reached_then) (changes_of later) out.changes (flushes before) false t.fault true first (begun-went reached_then out.changes t.fault first.sound))

    pub crashed-inside : (changes : List (Event Update)) × (rest : List (Event Update)) × (fault : Bool) × (w : Named) × Makes Does s.fault what fault (named_by_now h) w × Covers (with_begun out.changes reached_then) (with_done changes w h) rest
    crashed-inside = (
      changes,
      changes_of on.outs,
      on.last.fault,
      made_of.w,
      made_of.makes,
      covers-more c h stands.matches.covers (changes_of later ++ out.changes) (changes_of on.outs) changes (append_assoc (changes_of later) out.changes (changes_of on.outs)) made_of.w false (with_begun out.changes reached_then) true went becomes,
    )
