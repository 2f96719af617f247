-- An id, as a step of the machine, told of the table that the cache keeps.
use Rattle.sled_pagecache.proofs.Names.{slice_get, Bool, Cache, Change, Config, Content, Counter, Does, Err, Error, GenerateId, Generated, Ghosts, Represents, List, Logged, Ok, Outcome, Put, Refusal, RefusesSwap, Result, StampUsedUp, State, ActOver, Acts, StickyLog, Unsupported, Went-none, HasNoRoom, [], ap, arith, chain_length, effect_of, eq-eqb, false, inl, inr, le-ltb, length, lt-ltb, map-set, message_of, ne_eqb, outcome, page, page_at, refl, true, Some, slice_set, stamps_in, sym, with_page, ℕ, ◌+◌, ◌-◌, ◌<◌, ◌^◌, ◌∙◌, ◌∷◌, ◌≡◌, ◌≢◌, ◌≤◌, error_by, BatchOpen, IdsUsedUp, StampedPage, interval_start, with_next_id, KeptPage, view, Accesses, MakesAppend, RefusesAppend, PageContent, IsSettled}
use Rattle.sled_log.specs.LogState as log
use Rattle.sled_pagecache.proofs.Steps.CacheSteps.{stays-none, steps-went}
use Rattle.sled_pagecache.proofs.CacheLog.ToldContents.{proper-now}
use Rattle.sled_pagecache.proofs.Steps.CallOutcomes.{KnowsNow, steps-uncalled}
use Rattle.sled_pagecache.proofs.Ids.CounterPage.{may-put, own-at}
use Rattle.sled_pagecache.proofs.Steps.Puts.{MayPut, many, nothing-appended, put-refused}
use Rattle.sled_pagecache.proofs.CacheLog.ProperMessages.{stay-one}
use Rattle.sled_pagecache.specs.Logged.{now}
use Rattle.sled_pagecache.specs.declared.pagecache.table.page_entry.PageContent.TheVariants as page_content

module _ {L : Type 0} (g : Ghosts L) {next : ℕ} {config : Config} {recovered : Bool} {before : StickyLog L} {table : List KeptPage} {free : List ℕ} {accesses : Accesses}
    (settled : IsSettled g next config recovered before table free accesses) (ready : before.fault ≡ false) where
  abbrev cache : ℕ → StickyLog L → List KeptPage → Cache L
  cache next sticky_log pages = view next config recovered accesses.lru sticky_log pages

  abbrev was : Cache L
  was = cache next before table

  abbrev k : ℕ
  k = config.idgen_persist_interval

  -- no id is left
  pub id-used-up : KnowsNow g before → 2 ^ 64 - 1 < next → Acts g was GenerateId (Generated (Err (Unsupported IdsUsedUp))) was
  id-used-up only used =
      steps-uncalled g next config recovered accesses.lru before table ready GenerateId (Generated (Err (Unsupported IdsUsedUp))) (settled.whole.consistent.beside ready).usable only
      (λ held s is clear. rw (clear, is.next, lt-ltb (2 ^ 64 - 1) next used) (refl, refl))

  module _ {q : KeptPage} {n : ℕ} (at : slice_get table 1 ≡ Some q) (holds : q.kept ≡ page_content.Counter n) (below : next ≤ 2 ^ 64 - 1) {start from : ℕ} (starts : start ≡ interval_start k next) (covers : from ≡ interval_start k n) where
    there : (held : Logged) (s : State) → Represents g was held s → s.fault ≡ false → page_at s 1 ≡ Some (page q.stamp (Counter n))
    there = own-at g next config recovered accesses.lru before table free settled.whole.consistent ready 1 q (page_content.Counter n) (Counter n) at holds (λ chain makes. makes)

    -- the counter covers it
    pub id-covered : KnowsNow g before → start ≤ from → Acts g was GenerateId (Generated (Ok next)) (cache (next + 1) before table)
    id-covered only few =
        steps-went g was (cache (next + 1) before table) before before GenerateId (Generated (Ok next)) [] (record { config = refl; recovered = refl }) refl refl refl ready
        (Went-none g before (settled.whole.consistent.beside ready).usable only)
        (λ held s is clear. record {
          out = outcome (with_next_id s) [];
          step = rw (clear, is.next, le-ltb (2 ^ 64 - 1) next below, there held s is clear, le-ltb (interval_start k n) (interval_start k next) (omega arith)) (refl, refl);
          told = tt;
          stays = stays-none g was held s is clear;
          stamps = is.stamps;
          next = ap (λ i. i + 1) is.next;
          fault = clear ∙ sym ready;
          batch = refl;
          marks = λ _. refl;
          contents = λ _. (is.known clear).contents;
        })

    module _ (past : from < start) where
      -- inside a batch no new counter is made
      pub id-too-early : KnowsNow g before → before.batch ≡ true → Acts g was GenerateId (Generated (Err (Unsupported BatchOpen))) was
      id-too-early only opened =
          steps-uncalled g next config recovered accesses.lru before table ready GenerateId (Generated (Err (Unsupported BatchOpen))) (settled.whole.consistent.beside ready).usable only
          (λ held s is clear. rw (clear, is.next, le-ltb (2 ^ 64 - 1) next below, there held s is clear, lt-ltb (interval_start k n) (interval_start k next) (omega arith), is.batch ∙ opened) (refl, refl))

      -- a new counter is put on its page
      module _ (closed : before.batch ≡ false) (after : StickyLog L) where
        may : (held : Logged) (s : State) → Represents g was held s → s.fault ≡ false → MayPut g before.log held 1 (Counter start)
        may = may-put g next config recovered accesses.lru before table free settled.whole.consistent ready 1 (Counter start) (omega arith) tt (λ held within proper. record { may = omega (arith, within); proper = proper })

        does : (held : Logged) (s : State) → Represents g was held s → s.fault ≡ false → q.stamp ≢ 2 ^ 64 - 1 → (answer : Result ℕ Error) (out : Outcome)
            → Does (chain_length g.state was) (HasNoRoom g before.log) s (Change 1 (Put (Counter start))) answer out (λ id t. (id ≡ s.next) × (t ≡ with_next_id (with_page s 1 (page (q.stamp + 1) (Counter start)))))
            → ActOver g was s GenerateId (Generated answer) out
        does held s is clear risen answer out done =
            let starts_in : interval_start k s.next ≡ start = ap (interval_start k) is.next ∙ sym starts in
            rw (clear, starts_in, le-ltb (2 ^ 64 - 1) s.next (omega (arith, is.next)), there held s is clear, lt-ltb (interval_start k n) start (omega arith), is.batch ∙ closed, ne_eqb q.stamp (2 ^ 64 - 1) risen) (rw (clear, is.batch ∙ closed) at done)

        pub id-refused : (pages : List KeptPage) → pages ≡ table → {between : Accesses} {left : Type 0} {refusal : Refusal} → RefusesAppend g 1 (Put (Counter start)) before after accesses between (RefusesSwap q.stamp) left refusal → RefusesSwap q.stamp refusal
            → Acts g was GenerateId (Generated (Err (error_by refusal))) (cache next after pages)
        id-refused pages back {refusal = refusal} refused (inl (last, is)) =
            let known = rw is at refused in
            rw is
            (nothing-appended g next config recovered accesses.lru before table ready (settled.whole.consistent.beside ready) after GenerateId pages back (Generated (Err (Unsupported StampUsedUp))) known.went known.cause.fault
            (λ held s is clear are.
            rw (clear, is.next, le-ltb (2 ^ 64 - 1) next below, there held s is clear, lt-ltb (interval_start k n) (interval_start k next) (omega arith), is.batch ∙ closed, eq-eqb q.stamp (2 ^ 64 - 1) last) (refl, refl)))
        id-refused pages back {refusal = refusal} refused (inr (risen, of)) =
            put-refused g next config recovered accesses.lru before table ready (settled.whole.consistent.beside ready) after GenerateId 1 (Counter start) refused.is may (Unit {0}) pages back (λ e. Generated (Err e))
            (λ held s is clear are e out fails. does held s is clear risen (Err e) out fails) refusal of refused.went refused.cause

        pub id-put : {between : Accesses} {changed : KeptPage} {held : PageContent} → MakesAppend g 1 (Put (Counter start)) before after accesses between q changed held → Acts g was GenerateId (Generated (Ok next)) (cache (next + 1) after (slice_set table 1 changed))
        id-put {changed = changed} made =
            steps-went g was (cache (next + 1) after (slice_set table 1 changed)) before after GenerateId (Generated (Ok next)) (Change 1 (message_of (Put (Counter start))) ∷ []) (record { config = refl; recovered = refl }) refl refl refl ready made.went
            (λ held s is clear.
            let m = may held s is clear in
            let both = settled.whole.consistent.both in
            let long = many g next config recovered accesses.lru before table ready (settled.whole.consistent.beside ready) held s is clear in
            let out = outcome (with_next_id (with_page s 1 (page (q.stamp + 1) (Counter start)))) (Change 1 (Put (Counter start)) ∷ []) in
            record {
              out = out;
              step = does held s is clear (λ last. let risen = made.stamp.0 in omega (arith, risen, last)) (Ok next) out (refl, (sym is.next, refl));
              told = ((refl, made.is), m.may, tt);
              stays = stay-one (log.now effect_of (log.unplaced_state (g.state before.log))) (now held) (Change 1 (message_of (Put (Counter start)))) (Change 1 (Put (Counter start))) (proper-now (log.unplaced_state (g.state before.log)) held (is.known clear).logged) m.proper;
              stamps =
                  map-set (λ (p : StampedPage). p.stamp) s.pages 1 (page (q.stamp + 1) (Counter start)) ∙ ap (λ (l : List ℕ). slice_set l 1 (q.stamp + 1)) is.stamps
                  ∙ ap (λ i. slice_set (stamps_in table) 1 i) (sym made.stamp.1) ∙ sym (map-set (λ (p : KeptPage). p.stamp) table 1 changed);
              next = ap (λ i. i + 1) is.next;
              fault = clear ∙ sym made.fault;
              batch = refl;
              marks = λ _. refl;
              contents = λ _.
                  map-set (λ (p : StampedPage). p.content) s.pages 1 (page (q.stamp + 1) (Counter start)) ∙ ap (λ (l : List Content). slice_set l 1 (Counter start)) (is.known clear).contents
                  ∙ sym (rw (ne_eqb 1 (length (now held)) (λ e. omega (arith, e, long, both))) refl);
            })
