-- Opening and closing a batch, as steps of the machine.
use Rattle.sled_pagecache.proofs.Names.{Steps, arith, no_name, Recency, ◌≡◌, ℕ, effect_of_entry, is_open, is_write_fault, Bool, true, false, List, [], ◌∷◌, Result, Ok, Err, refl, sym, ◌∙◌, subst, false≢true, Write, Error, Refusal, chains_from, Content, Update, contents_from, Event, Pin, Message, Messages, effect_of, open_after, Ghosts, Cache, Represents, Acts, ActOver, Went, Went-none, IsCaused, IsOfLog, begun_by, Logged, State, Outcome, outcome, no_change, Answer, Call, Config, StickyLog, Page, HasGrown, error_of, BatchOpen, IsEvent, MayCome, IsWhole, Closes, with_batch_closed, Pinned, view}
use Rattle.sled_base.specs.declared.types.Error.TheVariants.{Unsupported, Io}
use Rattle.sled_base.specs.declared.types.Refusal.TheVariants as refusals
use Rattle.sled_log.specs.LogState as log
use Rattle.sled_pagecache.proofs.Steps.KeptStamps.{fault-same}
use Rattle.sled_pagecache.proofs.Steps.CacheSteps.{Leads, steps-known, steps-marked, steps-stuck, steps-went}
use Rattle.sled_pagecache.proofs.CacheLog.ToldContents.{proper-now}
use Rattle.sled_pagecache.proofs.Steps.CallOutcomes.{leads-same}
use Rattle.sled_pagecache.proofs.Ids.DurableCounter.{Leave, spares-refused, whole-added, whole-then}
use Rattle.sled_pagecache.proofs.Steps.Puts.{blamed}
use Rattle.sled_pagecache.proofs.CacheLog.ProperMessages.{stay-one}
use Rattle.sled_pagecache.proofs.Table.ChangedTables.{consistent-kept}
use Rattle.sled_pagecache.specs.Batches.{OpensBatch, ClosesBatch}
use Rattle.sled_pagecache.specs.Inside.StickyLog.{answer_of, call_of}
use Rattle.sled_pagecache.specs.declared.pagecache.write.sticky_log.Closing.TheVariants as closings
use Rattle.sled_pagecache.specs.Logged.{now}
use Rattle.sled_pagecache.specs.Inside.StickyLog.{mark_of}
use Rattle.sled_pagecache.specs.declared.pagecache.handles.call.Call.TheVariants as call
use Rattle.sled_pagecache.specs.declared.pagecache.write.sticky_log.Closing.{Closing}

-- an event that is a mark changes no page, and may always come
pub record IsMark (message : Event Message) (event : Event Update) : Type 0 where
  pub is : IsEvent message event
  pub may : (contents : List Content) → MayCome contents event
  pub chains : (chains : List Messages) → chains_from effect_of chains message ≡ chains
  pub contents : (contents : List Content) → contents_from contents event ≡ contents

pub pin-mark : IsMark Pin Pin
pin-mark = record { is = tt; may = λ _. tt; chains = λ _. refl; contents = λ _. refl }

-- no batch is open then
closing-ends : (E : Type 0) (closing : Closing) (was : Bool) → (let events : List (Event E) = mark_of closing ∷ [] in open_after was events ≡ false)
closing-ends E closing was = grind arith

module _ {L : Type 0} (g : Ghosts L) (next : ℕ) (config : Config) (recovered : Bool) (lru : Recency) (pages : List Page) where
  abbrev cache : StickyLog L → Cache L
  cache sticky_log = view next config recovered lru sticky_log pages

  -- a mark was told, and the batch is open or closed as it says
  steps-mark : (before mid after : StickyLog L) → mid.log ≡ before.log → before.fault ≡ false → (called : Call) (answer : Answer) (message : Event Message) (event : Event Update) → IsMark message event → Went g mid after (message ∷ [])
      → (batch : Bool) → (after.fault ≡ false → (was : Bool) → open_after was (event ∷ []) ≡ batch)
      → ((s : State) → s.fault ≡ false → s.batch ≡ before.batch → ActOver g (cache before) s called answer (outcome (record s { batch = batch; fault = after.fault }) (event ∷ [])))
      → Acts g (cache before) called answer (cache (record after { batch = batch }))
  steps-mark before mid after same ready called answer message event mark went batch marks step =
      steps-marked g (cache before) (cache (record after { batch = batch })) mid after called answer (message ∷ []) (record { config = refl; recovered = refl }) (sym same) refl refl ready went leads
    where
      leads : (held : Logged) (s : State) → Represents g (cache before) held s → s.fault ≡ false → Leads g (cache before) (cache (record after { batch = batch })) held s called answer (message ∷ [])
      leads held s is clear =
          let pages_now = log.now effect_of (log.unplaced_state (g.state before.log)) in
          let proper = proper-now (log.unplaced_state (g.state before.log)) held (is.known clear).logged in
          record {
            out = outcome (record s { batch = batch; fault = after.fault }) (event ∷ []);
            step = step s clear is.batch;
            told = (mark.is, mark.may (now held), tt);
            stays = stay-one pages_now (now held) message event proper (rw (mark.chains pages_now, mark.contents (now held)) proper);
            stamps = is.stamps;
            next = is.next;
            fault = refl;
            batch = refl;
            marks = λ free. marks free s.batch;
            contents = λ _. (is.known clear).contents ∙ sym (mark.contents (now held));
          }

  -- ---- pin

  -- with a write fault kept
  pub opens-stuck : (before : StickyLog L) → before.fault ≡ true → OpensBatch g (cache before) (Err (Io Write)) (cache before)
  opens-stuck before kept =
      let step = steps-stuck g (cache before) call.Pin (Pinned (Err (Io Write))) kept (λ s stuck. rw stuck (refl, refl)) in
      grind (arith, step)

  module _ (before : StickyLog L) (ready : before.fault ≡ false) where
    -- a batch is open
    pub opens-twice : before.batch ≡ true → (g.state before.log).usable ≡ true
        → ((l : List Messages) → g.tells → (g.state before.log).usable ≡ true → g.left_since before.log (g.moment before.log) l → log.IsLeft effect_of (log.unplaced_state (g.state before.log)) [] l)
        → OpensBatch g (cache before) (Err (Unsupported BatchOpen)) (cache before)
    opens-twice opened usable only =
        let step =
        steps-went g (cache before) (cache before) before before call.Pin (Pinned (Err (Unsupported BatchOpen))) [] (record { config = refl; recovered = refl }) refl refl refl ready
        (Went-none g before usable only)
        (λ held s is clear. leads-same g (cache before) (cache before) held s is clear call.Pin (Pinned (Err (Unsupported BatchOpen))) refl (rw (clear, is.batch ∙ opened) (refl, refl)) refl ready) in
        grind (arith, step)

    module _ (none : before.batch ≡ false) (after : StickyLog L) (unread : (g.counts after.log).reads ≡ (g.counts before.log).reads) where
      -- a batch was opened
      pub opens : Went g before after (Pin ∷ []) → after.fault ≡ false → OpensBatch g (cache before) (Ok tt) (cache (record after { batch = true }))
      opens went free =
          let step = steps-mark before before after refl ready call.Pin (Pinned (Ok tt)) Pin Pin pin-mark went true (λ _ was. refl) (λ s clear same. rw (clear, same ∙ none, free) (refl, refl)) in
          grind (arith, step)

      -- the log refused it
      refused-step : (refusal : Refusal) → g.tells → IsOfLog refusal
          → (let told : Result (Unit {0}) Refusal = Err refusal in Went g before after (begun_by told (Pin ∷ [])) × IsCaused g before after (g.is_full_for_batch before.log) told)
          → Acts g (cache before) call.Pin (Pinned (Err (error_of refusal))) (cache after)
      refused-step refusal told of refused = by refusal of refused.0 refused.1
        where
          by : (refusal : Refusal) → IsOfLog refusal → (let told : Result (Unit {0}) Refusal = Err refusal in Went g before after (begun_by told (Pin ∷ []))) → (let told : Result (Unit {0}) Refusal = Err refusal in IsCaused g before after (g.is_full_for_batch before.log) told)
              → Acts g (cache before) call.Pin (Pinned (Err (error_of refusal))) (cache after)
          by (refusals.Io Write) of went cause =
              rw went.batch (steps-mark before before after refl ready call.Pin (Pinned (Err (Io Write))) Pin Pin pin-mark went before.batch (λ free. absurd (false≢true (sym free ∙ cause.fault)))
              (λ s clear same. rw (clear, same ∙ none, none, cause.fault) refl))
          by refusal of went cause =
              steps-went g (cache before) (cache after) before after call.Pin (Pinned (Err (error_of refusal))) [] (record { config = refl; recovered = refl }) refl refl refl ready went
              (λ held s is clear. leads-same g (cache before) (cache after) held s is clear call.Pin (Pinned (Err (error_of refusal))) refl (let closed = is.batch ∙ none in grind arith) refl cause.fault)

      pub opens-refused : (refusal : Refusal) → (g.tells → IsOfLog refusal)
          → (let told : Result (Unit {0}) Refusal = Err refusal in Went g before after (begun_by told (Pin ∷ [])) × IsCaused g before after (g.is_full_for_batch before.log) told)
          → OpensBatch g (cache before) (Err (error_of refusal)) (cache after)
      opens-refused refusal of refused =
          let step = steps-known g (cache before) (cache after) (record { config = refl; recovered = refl }) (λ told. refused-step refusal told (of told) refused) in
          let blame = blamed g {U = Unit {0}} (cache before) (cache after) (g.is_full_for_batch before.log) refusal refused.1 in
          let fault = refused.1.fault ∙ fault-same (Unit {0}) (Unit {0}) refusal in
          let batch = refused.0.batch in
          grind (arith, step, blame, no_name refusal)

  -- ---- seal and cancel

  step-closes : (closing : Closing) (before : StickyLog L) (s : State) (answer : Result (Unit {0}) Error) (out : Outcome) → Closes (mark_of closing) s answer out → ActOver g (cache before) s (call_of closing) (answer_of closing answer) out
  step-closes closing before s answer out h = grind arith

  -- no move is added to a mark
  by-itself : (closing : Closing) (old new : Cache L) (result : Result (Unit {0}) Error) → Acts g old (call_of closing) (answer_of closing result) new → Steps g old (call_of closing) (answer_of closing result) new
  by-itself closings.Seal old new result act = act
  by-itself closings.Cancel old new result act = act

  module _ (closing : Closing) (before : StickyLog L) (opened : before.batch ≡ true) where
    -- with a write fault kept
    pub closes-stuck : before.fault ≡ true → ClosesBatch g (call_of closing) (answer_of closing) (cache before) (Err (Io Write)) (cache (record before { batch = false }))
    closes-stuck kept =
        let step : Steps g (cache before) (call_of closing) (answer_of closing (Err (Io Write))) (cache (record before { batch = false })) = by-itself closing _ _ _ (record {
          opening = record { config = refl; recovered = refl };
          from_each = λ held s is. record {
            out = no_change (with_batch_closed s);
            step = step-closes closing before s (Err (Io Write)) (no_change (with_batch_closed s)) (is.batch ∙ opened, rw (is.fault ∙ kept) (refl, refl));
            held_then = held;
            is = record { tells = is.tells; stamps = is.stamps; next = is.next; fault = is.fault; batch = refl; known = λ clear. absurd (false≢true (sym clear ∙ is.fault ∙ kept)) };
            added = λ clear. absurd (false≢true (sym clear ∙ is.fault ∙ kept));
            crash = λ clear. absurd (false≢true (sym clear ∙ is.fault ∙ kept));
            stuck = λ _. refl;
          };
        }) in
        grind (arith, step)

    module _ (ready : before.fault ≡ false) (after : StickyLog L) (went : Went g (record before { batch = false }) after (mark_of closing ∷ [])) (unread : (g.counts after.log).reads ≡ (g.counts before.log).reads) where
      closed-so : (result : Result (Unit {0}) Error) → ((s : State) → s.fault ≡ false → s.batch ≡ true → Closes (mark_of closing) s result (outcome (record s { batch = false; fault = after.fault }) (mark_of closing ∷ [])))
          → Acts g (cache before) (call_of closing) (answer_of closing result) (cache after)
      closed-so result step =
          let mark : IsMark (mark_of closing) (mark_of closing) = grind arith in
          rw went.batch (steps-mark before (record before { batch = false }) after refl ready (call_of closing) (answer_of closing result) (mark_of closing) (mark_of closing) mark went false (λ _. closing-ends Update closing)
          (λ s clear same. step-closes closing before s result _ (step s clear (same ∙ opened))))

      pub closes : after.fault ≡ false → ClosesBatch g (call_of closing) (answer_of closing) (cache before) (Ok tt) (cache after)
      closes free =
          let step = by-itself closing _ _ _ (closed-so (Ok tt) (λ s clear batch. (batch, rw (clear, free) refl))) in
          let closed = went.batch in
          grind (arith, step)

      pub closes-refused : after.fault ≡ true → HasGrown (g.counts before.log).write_faults (g.counts after.log).write_faults → ClosesBatch g (call_of closing) (answer_of closing) (cache before) (Err (Io Write)) (cache after)
      closes-refused kept grew =
          let step = by-itself closing _ _ _ (closed-so (Err (Io Write)) (λ s clear batch. (batch, rw (clear, kept) (refl, refl)))) in
          let closed = went.batch in
          grind (arith, step)

-- ---- the table

module _ {L : Type 0} (g : Ghosts L) {k next : ℕ} {before : StickyLog L} {table : List Page} {free : List ℕ} (whole : IsWhole g.tells g.state k next before table free) (ready : before.fault ≡ false) (after : StickyLog L)
    (same : g.tells → after.fault ≡ false → log.now effect_of_entry (g.state after.log) ≡ log.now effect_of_entry (g.state before.log)) where
  -- a mark came, which opened the batch or closed it
  pub whole-marked : (batch : Bool) (mid : StickyLog L) → mid.log ≡ before.log → (message : Event Message) → ((was : Bool) → open_after was (message ∷ []) ≡ batch) → ((n : ℕ) → Leave (message ∷ []) n)
      → Went g mid after (message ∷ []) → IsWhole g.tells g.state k next (record after { batch = batch }) table free
  whole-marked batch mid of message marks spares went =
      whole-added g whole ready (λ told clear. (message ∷ [], subst (λ l. log.Adds effect_of (log.unplaced_state (g.state l)) (message ∷ []) (log.unplaced_state (g.state after.log))) of (went.added told clear), λ page n _ _. spares n)) refl
      (consistent-kept g before (record after { batch = batch }) table free free whole.consistent ready went.usable (λ clear. went.opened clear ∙ marks (is_open (g.state mid.log).pending)) same)

  -- no batch was opened
  pub whole-refused : (refusal : Refusal) → (let told : Result (Unit {0}) Refusal = Err refusal in Went g before after (begun_by told (Pin ∷ [])) × (after.fault ≡ is_write_fault told))
      → IsWhole g.tells g.state k next after table free
  whole-refused refusal refused =
      let opened : after.fault ≡ false → is_open (g.state after.log).pending ≡ after.batch = grind (arith, refused, whole.consistent.opened ready) in
      whole-then g whole ready (spares-refused g (Unit {0}) refusal (Pin ∷ []) refused) refl (consistent-kept g before after table free free whole.consistent ready refused.0.usable opened same)

  -- the batch was closed
  pub whole-closed : (closing : Closing) → Went g (record before { batch = false }) after (mark_of closing ∷ []) → IsWhole g.tells g.state k next after table free
  whole-closed closing went =
      let spares : (n : ℕ) → (let events : List (Event Message) = mark_of closing ∷ [] in Leave events n) = grind arith in
      rw went.batch (whole-marked false (record before { batch = false }) refl (mark_of closing) (closing-ends Message closing) spares went)

-- with a write fault kept it may be closed
pub whole-stuck : {L : Type 0} (g : Ghosts L) {k next : ℕ} {before : StickyLog L} {table : List Page} {free : List ℕ} → IsWhole g.tells g.state k next before table free → before.fault ≡ true
    → IsWhole g.tells g.state k next (record before { batch = false }) table free
whole-stuck g whole kept = grind (arith, whole.consistent)
