-- What rewriting a cache answers, and what it leaves of the cache.
use Rattle.sled_pagecache.proofs.Names.{◌≡◌, ◌≤◌, ◌⊎◌, ℕ, true, false, List, [], length, Result, Ok, Err, refl, ◌∙◌, subst, inl, inr, ⊎_elim, arith, AllZip, Bool, Cache, Chain, Config, Error, Ghosts, IfErr, IfOk, ActOver, Amplified, IsDoneInEach, IsKept, IsOfLog, Logged, Outcome, Represents, SpaceAmplification, State, Steps, Write, cases_Bool, is_write_fault, IsWhole, LogFull, Page, Recency, Refusal, RefusesPull, StickyLog, Went, chain_at, effect_of_entry, error_of, most_pages, now, refusal_in, resident_in, view, AreOwn}
use Rattle.sled_base.specs.declared.types.Error.TheVariants.{Io, Unsupported}
use Rattle.sled_base.specs.declared.types.Refusal.TheVariants as refusals
use Rattle.sled_pagecache.proofs.Steps.CacheSteps.{steps-stuck, steps-went}
use Rattle.sled_pagecache.proofs.Steps.CallOutcomes.{leads-unread}
use Rattle.sled_pagecache.proofs.Table.StateChains.{unread}
use Rattle.sled_pagecache.proofs.Sizes.Measurements.{damage-told, read-all-of, read-part-of, whole-read}
use Rattle.sled_pagecache.proofs.Rewrites.PageCopies.{is-rewritten, ran-full}
use Rattle.sled_pagecache.specs.Damage.{ReportsSomeWrong}
use Rattle.sled_pagecache.specs.Inside.PageCopies.{AreCopied, Copies}
use Rattle.sled_pagecache.specs.Memory.{HasRead, messages_away}
use Rattle.sled_pagecache.specs.Rewriting.{IsFullFor, IsRewritten, StaysInState}

-- the other log, with the error of a refusal
abbrev pub answer_with : {M : Type 0} → M → Result (Unit {0}) Refusal → Result M (Error × M)
answer_with log (Ok done) = Ok log
answer_with log (Err refusal) = Err (error_of refusal, log)

of-log : (chain : ℕ → Chain) (refusal : Refusal) → IsOfLog refusal → (error_of refusal ≡ Unsupported LogFull) ⊎ ReportsSomeWrong chain (error_of refusal)
of-log chain refusals.OutOfMemory of = inr tt
of-log chain (refusals.Io device) of = inr tt
of-log chain (refusals.Unsupported LogFull) of = inl refl
of-log chain refusal of = absurd of

was-full : (refusal : Refusal) → error_of refusal ≡ Unsupported LogFull → refusal ≡ refusals.Unsupported LogFull
was-full refusal is = grind arith

module _ {L M : Type 0} (g : Ghosts L) (h : Ghosts M) (before after : StickyLog L) (table : List Page) (copy then : StickyLog M) where
  abbrev Done : Result (Unit {0}) Refusal → Type 0
  Done result = Copies g h table before after copy then result

  abbrev chains : List Chain
  chains = now effect_of_entry (g.state before.log)

  -- the log of the cache was read at most
  pub copies-went : (result : Result (Unit {0}) Refusal) → Copies g h table before after copy then result → Went g before after [] × (g.tells → after.fault ≡ false → now effect_of_entry (g.state after.log) ≡ now effect_of_entry (g.state before.log))
  copies-went (Ok done) did = (did.0.went, did.0.same)
  copies-went (Err refusal) did = ⊎_elim (λ unread. (unread.0.went, unread.0.same)) (λ unwritten. (unwritten.2.went, unwritten.2.same)) did

  -- the cache is as it always is
  pub copies-whole : {k next : ℕ} {free : List ℕ} (result : Result (Unit {0}) Refusal) → Copies g h table before after copy then result → before.fault ≡ false → IsWhole g.tells g.state k next before table free → IsWhole g.tells g.state k next after table free
  copies-whole result did ready whole = let went = copies-went result did in whole-read g whole ready went.0 went.1

  module _ (cache : Cache L) (same : cache.log ≡ before.log) (empty : h.tells → now effect_of_entry (h.state copy.log) ≡ []) where
    pub rewritten-by : (result : Result (Unit {0}) Refusal) → Copies g h table before after copy then result → (g.tells → length chains ≤ length table) → IfOk (answer_with then.log result) (IsRewritten g h cache)
    rewritten-by (Ok done) did long = is-rewritten g h before copy then (length table) long did.1 did.2 empty cache same
    rewritten-by (Err refusal) did long = tt

    module _ (tells : g.tells) (told : h.tells) where
      pub refused-by : (result : Result (Unit {0}) Refusal) → Copies g h table before after copy then result → AreOwn table → length table ≤ most_pages
          → IfErr (answer_with then.log result) (λ e. (e.0 ≡ Unsupported LogFull) ⊎ ReportsSomeWrong (chain_at (g.state cache.log)) e.0)
      refused-by (Ok done) did own few = tt
      refused-by (Err refusal) did own few =
          ⊎_elim (λ unread. inr (rw same (damage-told (chain_at (g.state before.log)) table refusal own (unread.1 tells) few))) (λ unwritten. of-log (chain_at (g.state cache.log)) refusal (unwritten.3 told)) did

      pub full-by : (result : Result (Unit {0}) Refusal) → Copies g h table before after copy then result → IfErr (answer_with then.log result) (λ e. e.0 ≡ Unsupported LogFull → IsFullFor g h cache copy.log)
      full-by (Ok done) did = tt
      full-by (Err refusal) did = λ full held logged.
          let is = was-full refusal full in
          ⊎_elim
          (λ unread. let why = (unread.1 tells).3.2 in absurd (subst (RefusesPull (chain_at (g.state before.log) (unread.1 tells).0)) is why))
          (λ unwritten. ran-full g h before copy then held (rw same at logged) tells unwritten.4 (subst (λ (r : Refusal). AreCopied g h chains unwritten.4 copy then (let some : Result (Unit {0}) Refusal = Err r in refusal_in some)) is unwritten.6) told (empty told))
          did

    -- the pages that aren't in memory were read, or some of them
    pub reads-by : (result : Result (Unit {0}) Refusal) → Copies g h table before after copy then result → AllZip IsKept chains table
        → HasRead g.counts cache.log after.log (messages_away (now effect_of_entry (g.state cache.log)) (resident_in table)) (answer_with then.log result)
    reads-by (Ok done) did kept = rw same (record { whole = (read-all-of {T = Unit {0}} {U = Unit {0}} g.counts chains table before.log after.log kept tt tt did.0.reads).whole; part = tt })
    reads-by (Err refusal) did kept =
        let error : Error = error_of refusal in
        rw same
        (⊎_elim
        (λ unread. record { whole = tt; part = (read-part-of {T = Unit {0}} {U = Unit {0}} g.counts chains table before.log after.log kept refusal error unread.0.reads).part })
        (λ unwritten. record { whole = tt; part = (read-part-of {T = Unit {0}} {U = Unit {0}} g.counts chains table before.log after.log kept refusal error (record { whole = tt; part = (unwritten.0, unwritten.1, unwritten.2.reads.whole) })).part }) did)

-- ---- the cache stays in its state

module _ {L : Type 0} (g : Ghosts L) where
  done-weaker : {Does Is : State → Outcome → Type 0} (old new : Cache L) → IsDoneInEach g Does old new → ((held : Logged) (s : State) → Represents g old held s → (out : Outcome) → Does s out → Is s out) → IsDoneInEach g Is old new
  done-weaker old new done is = record {
    opening = done.opening;
    from_each = λ held s in_state.
        let one = done.from_each held s in_state in
        record { out = one.out; step = is held s in_state one.out one.step; held_then = one.held_then; is = one.is; added = one.added; crash = one.crash; stuck = one.stuck };
  }

  -- with a write fault kept it isn't called
  pub stays-stuck : (cache : Cache L) → cache.fault ≡ true → StaysInState g cache cache
  stays-stuck cache kept =
      done-weaker cache cache (steps-stuck g cache SpaceAmplification (Amplified (Err (Io Write))) kept (λ s stuck. rw stuck (refl, refl)))
      (λ held s is out step. let same = rw (is.fault ∙ kept) at step in grind (arith, same.1, is.fault))

  module _ (next : ℕ) (config : Config) (recovered : Bool) (lru : Recency) (before after : StickyLog L) (table : List Page) (ready : before.fault ≡ false) (went : Went g before after []) where
    abbrev over : StickyLog L → Cache L
    over sticky_log = view next config recovered lru sticky_log table

    -- as a measure that is refused leaves it
    refused-as : (refusal : Refusal) → (let err : Result (Unit {0}) Refusal = Err refusal in after.fault ≡ is_write_fault err)
        → ((s : State) → s.fault ≡ false → ActOver g (over before) s SpaceAmplification (Amplified (Err (error_of refusal))) (unread s refusal))
        → Steps g (over before) SpaceAmplification (Amplified (Err (error_of refusal))) (over after)
    refused-as refusal fault step =
        let answer = Amplified (Err (error_of refusal)) in
        steps-went g (over before) (over after) before after SpaceAmplification answer [] (record { config = refl; recovered = refl }) refl refl refl ready went
        (λ held s is clear. leads-unread g (over before) (over after) held s is clear SpaceAmplification answer refl refusal (step s clear) refl fault)

    pub stays-went : StaysInState g (over before) (over after)
    stays-went =
        ⊎_elim
        (λ kept. done-weaker (over before) (over after) (refused-as (refusals.Io Write) kept (λ s clear. rw clear refl)) (λ held s is out step. let done = rw (is.fault ∙ ready) at step in grind (arith, done, kept)))
        (λ free. done-weaker (over before) (over after) (refused-as refusals.OutOfMemory free (λ s clear. rw clear refl)) (λ held s is out step. let done = rw (is.fault ∙ ready) at step in grind (arith, done, free, is.fault, ready)))
        (cases_Bool after.fault)
