-- What calls of the cache make of its history, as the machine answers them.
use Rattle.std.proofs.Common.{◌≡◌, ◌⊎◌, ⊎_elim, ℕ, Bool, true, false, List, [], ◌∷◌, Ok, refl, sym, ◌∙◌, ap, subst, arith}
use Rattle.std.proofs.lemmas.Bool.{false≢true, cases_Bool}
use Rattle.sled_log.specs.Contents.{Update}
use Rattle.sled_log.specs.Events.{Event}
use Rattle.sled_log.specs.declared.log.Log.{Ghosts}
use Rattle.sled_pagecache.specs.Cache.{Cache}
use Rattle.sled_pagecache.specs.Calls.{StepOver}
use Rattle.sled_pagecache.specs.Inside.SequenceLaws.{step-stuck}
use Rattle.sled_pagecache.specs.Prefixes.{History, history_after_answer, history_after_call, history_after_calls, history_after_changes, with_made, with_all_flushed}
use Rattle.sled_pagecache.specs.Rows.{changes_of}
use Rattle.sled_pagecache.specs.State.{State}
use Rattle.sled_pagecache.specs.Step.{Outcome, Flushes}
use Rattle.sled_pagecache.specs.declared.pagecache.handles.call.Answer.{Answer}
use Rattle.sled_pagecache.specs.declared.pagecache.handles.call.Call.{Call}
use Rattle.sled_tree.specs.Performs.{Runs}
use Rattle.sled_tree.specs.Prefixes.{is_flush, flushes}
use Rattle.sled_tree.proofs.Lists.{split}
use Rattle.sled_tree.proofs.OpeningsHistory.{IsSound, Went, none-went, went-then, begun-went, made-went, flushed-went, went-less}

-- an answer flushes all, or it is no flush
abbrev Flushes-or : Answer → List (Event Update) → History → Type 0
Flushes-or answer changes h = (history_after_answer answer changes h ≡ with_all_flushed (with_made changes h)) ⊎ ((history_after_answer answer changes h ≡ with_made changes h) × (is_flush answer ≡ false))

flushes-or : (answer : Answer) (changes : List (Event Update)) (h : History) → Flushes-or answer changes h
flushes-or answer changes h = grind arith

module _ {L : Type 0} (g : Ghosts L) where
  -- a flush that was made met no write fault
  flush-clear : (cache : Cache L) (s : State) (call : Call) (answer : Answer) (out : Outcome) → StepOver g cache s call answer out → is_flush answer ≡ true → out.state.fault ≡ false
  flush-clear cache s call answer out step flush = by call answer step flush
    where
      done : (written : ℕ) → Flushes s (Ok written) out → out.state.fault ≡ false
      done written step =
          split s.fault step (λ _ h. absurd (let e = h.0 in cc)) (λ clear h.
          split s.batch h (λ _ h. absurd (let e = h.0 in cc)) (λ _ h. ap (λ (o : Outcome). o.state.fault) h ∙ clear))

      by : (call : Call) (answer : Answer) → StepOver g cache s call answer out → is_flush answer ≡ true → out.state.fault ≡ false
      by call answer step flush = grind (arith, done)

  call-went : (cache : Cache L) (s : State) (call : Call) (answer : Answer) (out : Outcome) (h : History) → StepOver g cache s call answer out → IsSound h s.fault → Went h out.changes (is_flush answer) (history_after_call answer out h) out.state.fault
  call-went cache s call answer out h step sound = ⊎_elim kept clear (cases_Bool out.state.fault)
    where
      Goes : Bool → Type 0
      Goes fault = Went h out.changes (is_flush answer) (history_after_changes fault answer out.changes h) fault

      kept : out.state.fault ≡ true → Goes out.state.fault
      kept is = subst Goes (sym is) (record {
        pages = refl;
        are = (begun-went h out.changes s.fault sound).are;
        sound = (begun-went h out.changes s.fault sound).sound;
        more = (begun-went h out.changes s.fault sound).more;
        all = λ flush. absurd (false≢true (sym (flush-clear cache s call answer out step flush) ∙ is));
      })

      clear : out.state.fault ≡ false → Goes out.state.fault
      clear is = subst Goes (sym is) (⊎_elim
          (λ all. subst (λ (after : History). Went h out.changes (is_flush answer) after false) (sym all) (went-less h (with_all_flushed (with_made out.changes h)) out.changes (is_flush answer) false (flushed-went h out.changes free)))
          (λ made. subst (λ (after : History). Went h out.changes (is_flush answer) after false) (sym made.0) (subst (λ b. Went h out.changes b (with_made out.changes h) false) (sym made.1) (made-went h out.changes free))) (flushes-or answer out.changes h))
        where
          before : s.fault ≡ false
          before = ⊎_elim (λ kept. absurd (false≢true (sym is ∙ ap (λ (o : Outcome). o.state.fault) (step-stuck g cache s call answer out step kept) ∙ kept))) (λ free. free) (cases_Bool s.fault)

          free : IsSound h false
          free = subst (IsSound h) before sound

  pub calls-went : (s t : State) (calls : List (Call × Answer)) (outs : List Outcome) (h : History) → Runs g s calls outs t → IsSound h s.fault → Went h (changes_of outs) (flushes calls) (history_after_calls calls outs h) t.fault
  calls-went s t [] [] h same sound = subst (λ (u : State). Went h [] false h u.fault) (sym same) (none-went h s.fault sound)
  calls-went s t [] (out ∷ outs) h runs sound = absurd runs
  calls-went s t (made ∷ calls) [] h runs sound = absurd runs
  calls-went s t (made ∷ calls) (out ∷ outs) h (cache, step, runs) sound =
      let one = call-went cache s made.0 made.1 out h step sound in
      let rest = calls-went out.state t calls outs (history_after_call made.1 out h) runs one.sound in
      went-then h (history_after_call made.1 out h) (history_after_calls (made ∷ calls) (out ∷ outs) h) out.changes (changes_of outs) (is_flush made.1) (flushes calls) out.state.fault t.fault one rest
