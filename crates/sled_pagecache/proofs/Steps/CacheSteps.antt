-- One call of the cache is one step of the machine.
use Rattle.sled_pagecache.proofs.Names.{IsDoneInEach, ◌≡◌, Bool, true, false, List, [], ◌++◌, refl, sym, ◌∙◌, ap, subst, false≢true, is_open, open_after, Update, contents_after, Event, open_after-append, is_open-drop, Message, effect_of, AreEvents, Ghosts, Cache, Represents, IsSameOpening, ActOver, Acts, Went, Logged, Adds, StayProper, State, Outcome, no_change, contents_of, stamps_of, Answer, Call, StickyLog, KnowsLog}
use Rattle.sled_log.specs.LogState as log
use Rattle.sled_pagecache.proofs.CacheLog.ToldContents.{carries, leaves, proper-now}
use Rattle.sled_pagecache.proofs.CacheLog.ProperMessages.{stay-none}
use Rattle.sled_pagecache.specs.Logged.{now}

-- the changes leave a batch open or closed as they say, up to whatever cut they became stable
open-added : (held held_then : Logged) (changes : List (Event Update)) → Adds held changes held_then → is_open held_then.pending ≡ open_after (is_open held.pending) changes
open-added held held_then changes added =
    ap is_open added.pending ∙ is_open-drop (held.pending ++ changes) added.cut added.fair ∙ open_after-append false held.pending changes

module _ {L : Type 0} (g : Ghosts L) where
  -- a call is a step where the device tells its bytes, and of no other device is more said
  pub steps-known : {Does : State → Outcome → Type 0} (old new : Cache L) → IsSameOpening old new → (g.tells → IsDoneInEach g Does old new) → IsDoneInEach g Does old new
  steps-known old new same steps = record { opening = same; from_each = λ held s is. (steps is.tells).from_each held s is }

  -- with a write fault kept the log isn't called, and nothing changes
  pub steps-stuck : (cache : Cache L) (call : Call) (answer : Answer) → cache.fault ≡ true
      → ((s : State) → s.fault ≡ true → ActOver g cache s call answer (no_change s))
      → Acts g cache call answer cache
  steps-stuck cache call answer stuck steps = record {
    opening = record { config = refl; recovered = refl };
    from_each = λ held s is. record {
      out = no_change s;
      step = steps s (is.fault ∙ stuck);
      held_then = held;
      is = is;
      added = λ clear. absurd (false≢true (sym clear ∙ is.fault ∙ stuck));
      crash = λ clear. absurd (false≢true (sym clear ∙ is.fault ∙ stuck));
      stuck = λ _. refl;
    };
  }

  -- What a call leads to, where it told its log these messages: they are its changes.
  pub record Leads (old new : Cache L) (held : Logged) (s : State) (call : Call) (answer : Answer) (messages : List (Event Message)) : Type 0 where
    pub out : Outcome
    pub step : ActOver g old s call answer out
    pub told : AreEvents (now held) messages out.changes
    pub stays : StayProper (log.now effect_of (log.unplaced_state (g.state old.log))) (now held) messages out.changes
    pub stamps : stamps_of out.state ≡ new.stamps
    pub next : out.state.next ≡ new.next
    pub fault : out.state.fault ≡ new.fault
    pub batch : out.state.batch ≡ new.batch
    pub marks : new.fault ≡ false → open_after s.batch out.changes ≡ out.state.batch
    pub contents : new.fault ≡ false → contents_of out.state ≡ contents_after (now held) out.changes

  -- the same of a call that leaves a batch open or closed, as it was
  abbrev pub LeadsTo : Cache L → Cache L → Logged → State → Call → Answer → List (Event Message) → Type 0
  LeadsTo old new held s call answer messages = Leads old (record new { batch = s.batch }) held s call answer messages

  -- no message stays proper where the cache is in a state
  pub stays-none : (cache : Cache L) (held : Logged) (s : State) → Represents g cache held s → s.fault ≡ false → StayProper (log.now effect_of (log.unplaced_state (g.state cache.log))) (now held) [] []
  stays-none cache held s is clear = stay-none (log.now effect_of (log.unplaced_state (g.state cache.log))) (now held) (proper-now (log.unplaced_state (g.state cache.log)) held (is.known clear).logged)

  module _ (old new : Cache L) (before after : StickyLog L) (call : Call) (answer : Answer) (messages : List (Event Message)) (new_fault : new.fault ≡ after.fault) (ready : old.fault ≡ false)
      (went : Went g (record before { log = old.log }) (record after { log = new.log }) messages)
      (held : Logged) (s : State) (is : Represents g old held s) (way : Leads old new held s call answer messages) where
    -- what the log holds then; behind a write error nothing is known of it
    ends : (fault : Bool) → new.fault ≡ fault
        → (held_then : Logged) × (way.out.state.fault ≡ false → KnowsLog g new held_then way.out.state) × (way.out.state.fault ≡ false → Adds held way.out.changes held_then)
    ends true kept = (held, λ no. absurd (false≢true (sym no ∙ way.fault ∙ kept)), λ no. absurd (false≢true (sym no ∙ way.fault ∙ kept)))
    ends false free =
        let carried = carries g (record before { log = old.log }) (record after { log = new.log }) held messages way.out.changes (is.known (is.fault ∙ ready)).logged way.told way.stays went is.tells (sym new_fault ∙ free) in (
          carried.held_then,
          λ _. record {
            usable = went.usable (sym new_fault ∙ free);
            logged = carried.logged;
            contents = way.contents free ∙ sym carried.now_is;
            opened = sym (way.marks free) ∙ ap (λ b. open_after b way.out.changes) (is.known (is.fault ∙ ready)).opened ∙ sym (open-added held carried.held_then way.out.changes carried.added);
          },
          λ _. carried.added,
        )

  -- without a write fault before it, a call is a step, also one that opens a batch or closes it
  pub steps-marked : (old new : Cache L) (before after : StickyLog L) (call : Call) (answer : Answer) (messages : List (Event Message))
      → IsSameOpening old new → old.log ≡ before.log → new.log ≡ after.log → new.fault ≡ after.fault → old.fault ≡ false
      → Went g before after messages
      → ((held : Logged) (s : State) → Represents g old held s → s.fault ≡ false → Leads old new held s call answer messages)
      → Acts g old call answer new
  steps-marked old new before after call answer messages same old_log new_log new_fault ready went leads = record {
    opening = same;
    from_each = λ held s is.
        let way = leads held s is (is.fault ∙ ready) in
        let went : Went g (record before { log = old.log }) (record after { log = new.log }) messages = rw (old_log, new_log) went in
        let ends = ends old new before after call answer messages new_fault ready went held s is way new.fault refl in
        record {
          out = way.out;
          step = way.step;
          held_then = ends.0;
          is = record { tells = is.tells; stamps = way.stamps; next = way.next; fault = way.fault; batch = way.batch; known = ends.1 };
          added = ends.2;
          crash = λ _. leaves g (record before { log = old.log }) (record after { log = new.log }) held messages way.out.changes (is.known (is.fault ∙ ready)).logged way.told way.stays went is.tells;
          stuck = λ kept. absurd (false≢true (sym (is.fault ∙ ready) ∙ kept));
        };
  }

  -- one that leaves a batch open or closed, as it was
  pub steps-went : (old new : Cache L) (before after : StickyLog L) (call : Call) (answer : Answer) (messages : List (Event Message))
      → IsSameOpening old new → ◌≡◌ {A = L × Bool} (old.log, old.batch) (before.log, before.batch) → new.log ≡ after.log → ◌≡◌ {A = Bool × Bool} (new.fault, new.batch) (after.fault, after.batch) → old.fault ≡ false
      → Went g before after messages
      → ((held : Logged) (s : State) → Represents g old held s → s.fault ≡ false → LeadsTo old new held s call answer messages)
      → Acts g old call answer new
  steps-went old new before after call answer messages same old_is new_log new_is ready went way =
      steps-marked old new before after call answer messages same (ap (λ p. p.0) old_is) new_log (ap (λ p. p.0) new_is) ready went
      (λ held s is clear. subst (λ b. Leads old (record new { batch = b }) held s call answer messages) (is.batch ∙ ap (λ p. p.1) old_is ∙ sym went.batch ∙ sym (ap (λ p. p.1) new_is)) (way held s is clear))
