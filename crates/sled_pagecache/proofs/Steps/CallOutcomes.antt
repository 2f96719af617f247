-- What a call leads to that changes one page at most.
use Rattle.sled_pagecache.proofs.Names.{counts-read, ◌≡◌, ℕ, true, false, List, [], ◌∷◌, Result, Err, slice_set, refl, sym, ◌∙◌, ap, false≢true, map-set, Read, Write, Refusal, Io, chains_from, Content, Update, contents_from, Change, Messages, effect_of, IsUpdate, MayChange, message_of, Ghosts, Cache, Represents, ActOver, is_write_fault, Logged, IsProper, page, State, contents_of, stamps_of, with_page, outcome, no_change, Answer, Call, StampedPage, Recency, Bool, Config, StickyLog, KeptPage, Went, Went-none, Acts, stamps_in, IsLeft, view, Event, Message, AreEvents, StayProper, open_after, contents_after}
use Rattle.sled_log.specs.LogState as log
use Rattle.sled_pagecache.proofs.Steps.CacheSteps.{LeadsTo, stays-none, steps-went}
use Rattle.sled_pagecache.proofs.CacheLog.ToldContents.{proper-now}
use Rattle.sled_pagecache.proofs.Table.StateChains.{unread}
use Rattle.sled_pagecache.proofs.CacheLog.ProperMessages.{stay-one}
use Rattle.sled_pagecache.specs.Logged.{now}

module _ {L : Type 0} (g : Ghosts L) where
  module _ (old new : Cache L) (held : Logged) (s : State) (is : Represents g old held s) (clear : s.fault ≡ false) (call : Call) (answer : Answer) (next : new.next ≡ old.next) where
    -- what was pending and stable, with the messages of a page
    abbrev pages_now : List Messages
    pages_now = log.now effect_of (log.unplaced_state (g.state old.log))

    -- a state that it leaves
    leads : (t : State) (changes : List (Event Update)) (messages : List (Event Message)) → ActOver g old s call answer (outcome t changes) → AreEvents (now held) messages changes → StayProper pages_now (now held) messages changes
        → open_after s.batch changes ≡ s.batch → stamps_of t ≡ new.stamps → t.next ≡ s.next → t.fault ≡ new.fault → t.batch ≡ s.batch → (new.fault ≡ false → contents_of t ≡ contents_after (now held) changes)
        → LeadsTo g old new held s call answer messages
    leads t changes messages step told stays marks stamps same_next fault batch contents = record {
      out = outcome t changes;
      step = step;
      told = told;
      stays = stays;
      stamps = stamps;
      next = same_next ∙ is.next ∙ sym next;
      fault = fault;
      batch = batch;
      marks = λ _. marks ∙ sym batch;
      contents = contents;
    }

    -- nothing was told, and nothing changes
    pub leads-same : ActOver g old s call answer (no_change s) → new.stamps ≡ old.stamps → new.fault ≡ false → LeadsTo g old new held s call answer []
    leads-same step stamps free = leads s [] [] step tt (stays-none g old held s is clear) refl (is.stamps ∙ sym stamps) refl (clear ∙ sym free) refl (λ _. (is.known clear).contents)

    -- or a write fault came before
    pub leads-fault : ActOver g old s call answer (outcome (record s { fault = true }) []) → new.stamps ≡ old.stamps → new.fault ≡ true → LeadsTo g old new held s call answer []
    leads-fault step stamps kept = leads (record s { fault = true }) [] [] step tt (stays-none g old held s is clear) refl (is.stamps ∙ sym stamps) refl (sym kept) refl (λ _. (is.known clear).contents)

    -- a page couldn't be read
    pub leads-unread : (refusal : Refusal) → ActOver g old s call answer (unread s refusal) → new.stamps ≡ old.stamps
        → (let err : Result (Unit {0}) Refusal = Err refusal in new.fault ≡ is_write_fault err) → LeadsTo g old new held s call answer []
    leads-unread (Io Write) step stamps fault = leads-fault step stamps fault
    leads-unread (Io Read) step stamps fault = leads-same step stamps fault
    leads-unread refusal step stamps fault = leads-same step stamps fault

    -- an update of a page was told
    module _ (pid : ℕ) (update : Update) (reads : IsUpdate (message_of update) update) (may : MayChange (now held) pid update)
        (proper : IsProper (chains_from effect_of pages_now (Change pid (message_of update))) (contents_from (now held) (Change pid update))) where
      pub leads-to : (t : State) → ActOver g old s call answer (outcome t (Change pid update ∷ [])) → stamps_of t ≡ new.stamps → t.next ≡ s.next → t.fault ≡ new.fault → t.batch ≡ s.batch
          → (new.fault ≡ false → contents_of t ≡ contents_from (now held) (Change pid update))
          → LeadsTo g old new held s call answer (Change pid (message_of update) ∷ [])
      leads-to t step stamps same_next fault batch contents =
          leads t (Change pid update ∷ []) (Change pid (message_of update) ∷ []) step ((refl, counts-read (message_of update) update reads), may, tt)
          (stay-one pages_now (now held) (Change pid (message_of update)) (Change pid update) (proper-now (log.unplaced_state (g.state old.log)) held (is.known clear).logged) proper) refl stamps same_next fault batch contents

      -- and then a write fault came
      pub leads-begun : ActOver g old s call answer (outcome (record s { fault = true }) (Change pid update ∷ [])) → new.stamps ≡ old.stamps → new.fault ≡ true
          → LeadsTo g old new held s call answer (Change pid (message_of update) ∷ [])
      leads-begun step stamps kept =
          leads-to (record s { fault = true }) step (is.stamps ∙ sym stamps) refl (sym kept) refl (λ free. absurd (false≢true (sym free ∙ kept)))

      -- and the page has another content, at another stamp
      pub leads-set : (stamp : ℕ) (content : Content) → ActOver g old s call answer (outcome (with_page s pid (page stamp content)) (Change pid update ∷ []))
          → contents_from (now held) (Change pid update) ≡ slice_set (now held) pid content
          → new.stamps ≡ slice_set old.stamps pid stamp → new.fault ≡ false
          → LeadsTo g old new held s call answer (Change pid (message_of update) ∷ [])
      leads-set stamp content step makes stamps free =
          leads-to (with_page s pid (page stamp content)) step
          (map-set (λ (p : StampedPage). p.stamp) s.pages pid (page stamp content) ∙ ap (λ (l : List ℕ). slice_set l pid stamp) is.stamps ∙ sym stamps) refl (clear ∙ sym free) refl
          (λ _. map-set (λ (p : StampedPage). p.content) s.pages pid (page stamp content) ∙ ap (λ (l : List Content). slice_set l pid content) (is.known clear).contents ∙ sym makes)

-- ---- calls of a cache whose table stays as it was

-- what a crash leaves of the log before it is called
abbrev pub KnowsNow : {L : Type 0} → Ghosts L → StickyLog L → Type 0
KnowsNow g before = (l : List Messages) → g.tells → (g.state before.log).usable ≡ true → g.left_since before.log (g.moment before.log) l → IsLeft effect_of (log.unplaced_state (g.state before.log)) [] l

module _ {L : Type 0} (g : Ghosts L) (next : ℕ) (config : Config) (recovered : Bool) (lru : Recency) (before : StickyLog L) (table : List KeptPage) (ready : before.fault ≡ false) (call : Call) where
  abbrev cache : StickyLog L → List KeptPage → Cache L
  cache sticky_log pages = view next config recovered lru sticky_log pages

  -- a state that the cache is in before the call
  abbrev InEach : (Logged → State → Type 0) → Type 0
  InEach P = (held : Logged) (s : State) → Represents g (cache before table) held s → s.fault ≡ false → P held s

  module _ (after : StickyLog L) (pages : List KeptPage) (back : pages ≡ table) where
    -- nothing was told, and nothing changes
    pub steps-untold : (answer : Answer) → Went g before after [] → after.fault ≡ false
        → InEach (λ held s. ActOver g (cache before table) s call answer (no_change s)) → Acts g (cache before table) call answer (cache after pages)
    steps-untold answer went free step =
        steps-went g (cache before table) (cache after pages) before after call answer [] (record { config = refl; recovered = refl }) refl refl refl ready went
        (λ held s is clear. leads-same g (cache before table) (cache after pages) held s is clear call answer refl (step held s is clear) (ap stamps_in back) free)

  -- the log isn't called
  pub steps-uncalled : (answer : Answer) → (g.state before.log).usable ≡ true → KnowsNow g before → InEach (λ held s. ActOver g (cache before table) s call answer (no_change s)) → Acts g (cache before table) call answer (cache before table)
  steps-uncalled answer usable only step = steps-untold before table refl answer (Went-none g before usable only) ready step
