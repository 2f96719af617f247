-- Runs of the machine over the calls of a cache: where they are cut, and what a write fault that is kept leaves of them.
use Rattle.std.proofs.Common.{◌≡◌, true, List, [], ◌∷◌, ◌++◌, refl, ◌∙◌, ap, subst, sym}
use Rattle.sled_log.specs.declared.log.Log.{Ghosts}
use Rattle.sled_pagecache.specs.Cache.{Cache}
use Rattle.sled_pagecache.specs.Calls.{Steps}
use Rattle.sled_pagecache.specs.Inside.SequenceLaws.{step-stuck}
use Rattle.sled_pagecache.specs.Prefixes.{AreStepsServed}
use Rattle.sled_pagecache.specs.Rows.{AreSteps, IsInState, changes_of}
use Rattle.sled_pagecache.specs.Served.{IsServed, StaysAsItIs}
use Rattle.sled_pagecache.specs.State.{State}
use Rattle.sled_pagecache.specs.Step.{Outcome}
use Rattle.sled_pagecache.specs.declared.pagecache.handles.call.Answer.{Answer}
use Rattle.sled_pagecache.specs.declared.pagecache.handles.call.Call.{Call}
use Rattle.sled_tree.specs.Performs.{Runs}

module _ {L : Type 0} (g : Ghosts L) where
  pub record IsCut (s : State) (calls others : List (Call × Answer)) (outs : List Outcome) (new : Cache L) (t : State) : Type 0 where
    pub mid : Cache L
    pub u : State
    pub first : List Outcome
    pub later : List Outcome
    pub are : outs ≡ first ++ later
    pub runs : Runs g s calls first u
    pub steps : AreStepsServed g mid u others later new t
    pub is : IsInState g mid u

  -- the steps of calls, and those of the others behind them
  pub cut : (old new : Cache L) (s t : State) (calls others : List (Call × Answer)) (outs : List Outcome) → AreStepsServed g old s (calls ++ others) outs new t → IsInState g old s → IsCut s calls others outs new t
  cut old new s t [] others outs steps is = record { mid = old; u = s; first = []; later = outs; are = refl; runs = refl; steps = steps; is = is }
  cut old new s t (made ∷ calls) others [] steps is = absurd steps
  cut old new s t (made ∷ calls) others (out ∷ outs) (served, mid, still, one, step, in_mid, rest) is =
      let c = cut mid new out.state t calls others outs rest in_mid in
      record { mid = c.mid; u = c.u; first = out ∷ c.first; later = c.later; are = ap (λ (os : List Outcome). out ∷ os) c.are; runs = (served, step, c.runs); steps = c.steps; is = c.is }

  -- the caches are forgotten
  pub served-runs : (old new : Cache L) (s t : State) (calls : List (Call × Answer)) (outs : List Outcome) → AreStepsServed g old s calls outs new t → Runs g s calls outs t
  served-runs old new s t [] [] steps = steps.1
  served-runs old new s t [] (out ∷ outs) steps = absurd steps
  served-runs old new s t (made ∷ calls) [] steps = absurd steps
  served-runs old new s t (made ∷ calls) (out ∷ outs) (served, mid, still, one, step, in_mid, rest) = (served, step, served-runs mid new out.state t calls outs rest)

  pub steps-run : (old new : Cache L) (s t : State) (calls : List (Call × Answer)) (outs : List Outcome) → AreSteps g (Steps g) old s calls outs new t → Runs g s calls outs t
  steps-run old new s t [] [] steps = steps.1
  steps-run old new s t [] (out ∷ outs) steps = absurd steps
  steps-run old new s t (made ∷ calls) [] steps = absurd steps
  steps-run old new s t (made ∷ calls) (out ∷ outs) (mid, one, step, in_mid, rest) = (old, step, steps-run mid new out.state t calls outs rest)

  -- runs behind others
  pub runs-then : (s u t : State) (calls others : List (Call × Answer)) (outs more : List Outcome) → Runs g s calls outs u → Runs g u others more t → Runs g s (calls ++ others) (outs ++ more) t
  runs-then s u t [] others [] more same rest = subst (λ (from : State). Runs g from others more t) same rest
  runs-then s u t [] others (out ∷ outs) more runs rest = absurd runs
  runs-then s u t (made ∷ calls) others [] more runs rest = absurd runs
  runs-then s u t (made ∷ calls) others (out ∷ outs) more (cache, step, runs) rest = (cache, step, runs-then out.state u t calls others outs more runs rest)

  -- the last cache is in the last state
  pub in-last : ((old new : Cache L) → IsServed g old new → StaysAsItIs g old new) → (old new : Cache L) (s t : State) (calls : List (Call × Answer)) (outs : List Outcome)
      → AreStepsServed g old s calls outs new t → IsInState g old s → IsInState g new t
  in-last stays old new s t [] [] (served, same) (held, is) = subst (λ (u : State). IsInState g new u) (sym same) (held, stays old new served held s is)
  in-last stays old new s t [] (out ∷ outs) steps is = absurd steps
  in-last stays old new s t (made ∷ calls) [] steps is = absurd steps
  in-last stays old new s t (made ∷ calls) (out ∷ outs) (served, mid, still, one, step, in_mid, rest) is = in-last stays mid new out.state t calls outs rest in_mid

  -- with a write fault kept nothing is written, and it stays
  pub runs-stuck : (s t : State) (calls : List (Call × Answer)) (outs : List Outcome) → Runs g s calls outs t → s.fault ≡ true → (changes_of outs ≡ []) × (t.fault ≡ true)
  runs-stuck s t [] [] same kept = (refl, ap (λ (u : State). u.fault) same ∙ kept)
  runs-stuck s t [] (out ∷ outs) runs kept = absurd runs
  runs-stuck s t (made ∷ calls) [] runs kept = absurd runs
  runs-stuck s t (made ∷ calls) (out ∷ outs) (cache, step, runs) kept =
      let is = step-stuck g cache s made.0 made.1 out step kept in
      let rest = runs-stuck out.state t calls outs runs (ap (λ (o : Outcome). o.state.fault) is ∙ kept) in
      (ap (λ (o : Outcome). o.changes ++ changes_of outs) is ∙ rest.0, rest.1)
