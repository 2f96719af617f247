-- What one call of a log makes of the sticky log that makes it.
use Rattle.sled_pagecache.proofs.Names.{Ghosts, ◌≡◌, ◌||◌, ℕ, false, not, List, [], Result, Ok, Err, refl, sym, ◌∙◌, ap, subst, false≢true, IfOk, OnErr, Called, chains_after, Event, now-Adds, Message, Chain, Entry, effect_of, effect_of_entry, now, unplaced_state, unplaced_events, Adds-unplaced, LogError, WriteFault, Went, cache_answer, begun_by, StickyLog, begun_of, log_met_fault, arith}
use Rattle.sled_log.specs.LogState.{Adds}

begun-same : {T : Type 0} (outcome : Result T LogError) (begun : List (Event Message)) → begun_of outcome begun ≡ begun_by (cache_answer outcome) begun
begun-same outcome begun = grind arith

begun-none : {T : Type 0} (outcome : Result T LogError) → begun_by (cache_answer outcome) [] ≡ []
begun-none outcome = grind arith

module _ {L : Type 0} (g : Ghosts L) {T : Type 0} where
  abbrev Calls : L → L → ℕ → (T → List (Event Entry)) → List (Event Message) → Result T LogError → Type 0
  Calls old new count events begun outcome = Called g.tells g.state g.moment g.left_since g.counts old new count events begun outcome

  -- the events that came were added
  came : (old new : L) (count : ℕ) (events : T → List (Event Entry)) (begun : List (Event Message)) (outcome : Result T LogError) → Calls old new count events begun outcome
      → ((answer : T) → unplaced_events (events answer) ≡ begun) → g.tells → log_met_fault outcome ≡ false → Adds effect_of (unplaced_state (g.state old)) (begun_of outcome begun) (unplaced_state (g.state new))
  came old new count events begun (Ok answer) called are told clear =
      subst (λ (l : List (Event Message)). Adds effect_of (unplaced_state (g.state old)) l (unplaced_state (g.state new))) (are answer) (Adds-unplaced (g.state old) (g.state new) (events answer) (called.added told))
  came old new count events begun (Err WriteFault) called are told clear = absurd (false≢true (sym clear))
  came old new count events begun (Err error) called are told clear = Adds-unplaced (g.state old) (g.state new) [] (called.refused told clear)

  -- what a call that adds something makes of the chains, and that a refusal leaves them
  chains-called : (old new : L) (count : ℕ) (events : T → List (Event Entry)) (begun : List (Event Message)) (outcome : Result T LogError) → Calls old new count events begun outcome → g.tells
      → IfOk (cache_answer outcome) (λ said. now effect_of_entry (g.state new) ≡ chains_after effect_of_entry (now effect_of_entry (g.state old)) (events said))
      × OnErr (cache_answer outcome) (log_met_fault outcome ≡ false → now effect_of_entry (g.state new) ≡ now effect_of_entry (g.state old))
  chains-called old new count events begun (Ok answer) called told = (now-Adds effect_of_entry (g.state old) (g.state new) (events answer) (called.added told), tt)
  chains-called old new count events begun (Err error) called told = (tt, λ clear. now-Adds effect_of_entry (g.state old) (g.state new) [] (called.refused told clear))

  stays : (old new : L) (count : ℕ) (events : T → List (Event Entry)) (begun : List (Event Message)) (outcome : Result T LogError) → Calls old new count events begun outcome
      → ((answer : T) (chains : List Chain) → chains_after effect_of_entry chains (events answer) ≡ chains) → g.tells → log_met_fault outcome ≡ false → now effect_of_entry (g.state new) ≡ now effect_of_entry (g.state old)
  stays old new count events begun outcome called none told clear = let both = chains-called old new count events begun outcome called told in grind arith

  module _ (old new : StickyLog L) {count : ℕ} {events : T → List (Event Entry)} {begun : List (Event Message)} {outcome : Result T LogError} (called : Calls old.log new.log count events begun outcome)
      (ready : old.fault ≡ false) (kept : new.fault ≡ (old.fault || log_met_fault outcome)) where
    -- a fault is kept where there was none before
    met : new.fault ≡ log_met_fault outcome
    met = kept ∙ ap (λ b. b || log_met_fault outcome) ready

    pub went-called : new.batch ≡ old.batch → ((answer : T) → unplaced_events (events answer) ≡ begun) → Went g old new (begun_by (cache_answer outcome) begun)
    went-called batch are =
        subst (Went g old new) (begun-same outcome begun)
        (record {
          batch = batch;
          usable = λ clear. called.usable ∙ ap not (sym met ∙ clear);
          opened = λ clear. called.opened (sym met ∙ clear);
          added = λ told clear. came old.log new.log count events begun outcome called are told (sym met ∙ clear);
          crash = called.stop;
          failed_reads = called.cause.failed_reads;
          write_faults = called.cause.write_faults;
        })

    pub chains-after : g.tells → IfOk (cache_answer outcome) (λ said. now effect_of_entry (g.state new.log) ≡ chains_after effect_of_entry (now effect_of_entry (g.state old.log)) (events said))
        × OnErr (cache_answer outcome) (new.fault ≡ false → now effect_of_entry (g.state new.log) ≡ now effect_of_entry (g.state old.log))
    chains-after told = rw met (chains-called old.log new.log count events begun outcome called told)

    -- a call that adds marks leaves the chains
    pub marked : new.batch ≡ old.batch → ((answer : T) → unplaced_events (events answer) ≡ begun) → ((answer : T) (chains : List Chain) → chains_after effect_of_entry chains (events answer) ≡ chains)
        → Went g old new (begun_by (cache_answer outcome) begun) × (g.tells → new.fault ≡ false → now effect_of_entry (g.state new.log) ≡ now effect_of_entry (g.state old.log))
    marked batch are none = (went-called batch are, λ told clear. stays old.log new.log count events begun outcome called none told (sym met ∙ clear))

  -- and one that tells no events adds none, whatever it answers
  pub quiet : (old new : StickyLog L) {count : ℕ} {outcome : Result T LogError} → Calls old.log new.log count (λ _. []) [] outcome → old.fault ≡ false → new.fault ≡ (old.fault || log_met_fault outcome) → new.batch ≡ old.batch
      → Went g old new [] × (g.tells → new.fault ≡ false → now effect_of_entry (g.state new.log) ≡ now effect_of_entry (g.state old.log))
  quiet old new {outcome = outcome} called ready kept batch = rw begun-none at (marked old new called ready kept batch (λ _. refl) (λ _ _. refl))
