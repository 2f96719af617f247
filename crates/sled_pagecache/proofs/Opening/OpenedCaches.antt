-- Opening a cache over a log.
use Rattle.sled_pagecache.proofs.Names.{roots_event, ⊎_elim, ◌≡◌, ◌≢◌, ◌≤◌, ◌<◌, ℕ, zero, suc, false, List, [], ◌∷◌, ◌++◌, length, map, take, drop, None, Some, Ok, Err, refl, sym, ◌∙◌, ap, subst, arith, drop-nil, take-append_seam, drop-append_seam, length-map, take-append-drop, take-map, drop-map, AllZip-long, error_of, Write, Refusal, LogFull, is_open, Content, Counter, Roots, Update, Put, contents_after, Event, Change, Pin, Seal, Cancel, seen_event, holds-after, Message, Entry, Chain, Messages, messages_of, effect_of, effect_of_entry, Holds, Hold, AreEvents, events-take, reads-open, unplaced_state, is_open-unplaced, now-unplaced, message_of, written-update, Ghosts, Cache, IsOpenedWith, counter_event, events_at_start, Logged, IsLogged, fault_of, drop_all, cases_lt, sticky_log_of, changes_of_start, opened_state, is_fault, Comes, LacksRoom, Proceeds, IsProper, StayProper, IsFit, RefusesOpening, HasAdded, CrashLeaves, LacksRoomFor, Opens, page, contents_of, Config, StickyLog, slice_get, StampedPage, add-by-id, at-id, zip-first, all-at, map-at, holds_now}
use Rattle.sled_base.specs.declared.types.Error.TheVariants as errors
use Rattle.sled_base.specs.declared.types.Refusal.TheVariants.{Unsupported}
use Rattle.sled_log.specs.LogState as log
use Rattle.sled_pagecache.proofs.Opening.RecoveredPages.{map-map}
use Rattle.std.proofs.lemmas.List.{append-nil, map-id}
use Rattle.sled_pagecache.proofs.CacheLog.ToldContents.{carries, leaves, proper-now}
use Rattle.sled_pagecache.proofs.CacheLog.ProperMessages.{no-changes, stay-none, stay-one, stay-take}
use Rattle.sled_pagecache.specs.Logged.{now}
use Rattle.sled_pagecache.specs.Logged.{AreOwn, IsOwnAt}

-- ---- what is told of the system pages that are missing

abbrev tell : Event Update → Event Message
tell (Change id update) = Change id (message_of update)
tell Pin = Pin
tell Seal = Seal
tell Cancel = Cancel

events-are : (held : List Content) → events_at_start held ≡ map tell (changes_of_start held)
events-are held = drop-map tell (length held) (Change 0 (Put (Roots [])) ∷ Change 1 (Put (Counter 0)) ∷ [])

events-start : (held : List Content) → AreEvents held (events_at_start held) (changes_of_start held)
events-start [] = ((refl, written-update (Put (Roots [])) (record { few = omega arith; ascending = tt; keys = tt; items = tt })), omega arith, ((refl, written-update (Put (Counter 0)) (omega arith)), omega arith, tt))
events-start (roots ∷ []) = ((refl, written-update (Put (Counter 0)) (omega arith)), omega arith, tt)
events-start (roots ∷ counter ∷ held) = rw (drop-nil {A = Event Message} (length held), drop-nil {A = Event Update} (length held)) tt

proper-one : IsProper ((message_of (Put (Roots [])) ∷ []) ∷ []) (Roots [] ∷ [])
proper-one = record { own = add-by-id IsOwnAt [] (Roots []) (λ pid. tt) tt; short = (omega arith, tt); few = omega arith }

proper-two : (p : Messages) (roots : Content) → AreOwn (roots ∷ []) → length p ≤ 10 → IsProper (p ∷ (message_of (Put (Counter 0)) ∷ []) ∷ []) (roots ∷ Counter 0 ∷ [])
proper-two p roots own short = record { own = add-by-id IsOwnAt (roots ∷ []) (Counter 0) own tt; short = (short, (omega arith, tt)); few = omega arith }

stays-start : (pages : List Messages) (held : List Content) → Hold pages held → IsProper pages held → StayProper pages held (events_at_start held) (changes_of_start held)
stays-start [] [] hold proper zero = proper
stays-start [] [] hold proper (suc n) =
    stay-one ((message_of (Put (Roots [])) ∷ []) ∷ []) (Roots [] ∷ []) counter_event (Change 1 (Put (Counter 0))) proper-one (proper-two (message_of (Put (Roots [])) ∷ []) (Roots []) proper-one.own (omega arith)) n
stays-start (p ∷ []) (roots ∷ []) hold proper n = stay-one (p ∷ []) (roots ∷ []) counter_event (Change 1 (Put (Counter 0))) proper (proper-two p roots proper.own proper.short.0) n
stays-start (p ∷ q ∷ pages) (roots ∷ counter ∷ held) hold proper n =
    rw (drop-nil {A = Event Message} (length held), drop-nil {A = Event Update} (length held)) (stay-none (p ∷ q ∷ pages) (roots ∷ counter ∷ held) proper n)
stays-start pages held hold proper n = absurd (assumption hold)

-- ---- which errors there are

-- but after a write error the log may be called
pub no-fault : (refusal : Refusal) → error_of refusal ≢ errors.Io Write → is_fault (Some refusal) ≡ false
no-fault refusal other = grind arith

-- ---- a log that a cache left refuses no opening but for a hindrance

-- each page of a log that a cache left is fit
fit-at : (chains : List Chain) (held : List Content) → Hold (map messages_of chains) held → IsProper (map messages_of chains) held
    → (pid : ℕ) (chain : Chain) → slice_get chains pid ≡ Some chain → IsFit pid chain
fit-at chains held hold proper pid chain is =
    let at = map-at messages_of chains pid chain is in
    let holds = zip-first Holds (map messages_of chains) held pid (messages_of chain) hold at in
    let own = at-id IsOwnAt held pid holds.0 proper.own holds.1 in
    let fits = all-at (λ (unplaced : Messages). length unplaced ≤ 10) (map messages_of chains) pid (messages_of chain) proper.short at in
    grind (arith, own, holds.2, fits, length-map chain (λ (entry : Entry). entry.message))

-- ---- what opening makes of the log

contents-start : (config : Config) (held : List Content) → contents_of (opened_state config held) ≡ contents_after held (changes_of_start held)
contents-start config (roots ∷ counter ∷ held) =
    let all = roots ∷ counter ∷ held in
    let kept = ap (map (λ (p : StampedPage). p.content)) (append-nil (map (page 0) all)) ∙ map-map (λ (p : StampedPage). p.content) (page 0) all ∙ map-id all in
    rw (drop-nil {A = Content} (length held), drop-nil {A = Event Update} (length held)) kept
contents-start config held = refl

module _ {L : Type 0} (g : Ghosts L) (known : g.tells) where
  -- what the log holds once the messages of some changes came
  carried : (old new : StickyLog L) (held : Logged) (messages : List (Event Message)) (changes : List (Event Update)) → IsLogged (unplaced_state (g.state old.log)) held
      → AreEvents (now held) messages changes → StayProper (log.now effect_of (unplaced_state (g.state old.log))) (now held) messages changes → Comes g old new messages
      → CrashLeaves g old.log held changes new.log × (new.fault ≡ false → HasAdded g held changes new.log)
  carried old new held messages changes logged told stay went = (
    leaves g old new held messages changes logged told stay went known,
    λ clear. let then = carries g old new held messages changes logged told stay went known clear in record { held_then = then.held_then; logged = then.logged; added = then.added },
  )

module _ {L : Type 0} (g : Ghosts L) (known : g.tells) (config : Config) (old : StickyLog L) (held : Logged) (logged : IsLogged (unplaced_state (g.state old.log)) held) where
  abbrev chains : List Chain
  chains = log.now effect_of_entry (g.state old.log)

  abbrev changes : List (Event Update)
  changes = changes_of_start (now held)

  long-now : length chains ≡ length (now held)
  long-now = omega (arith, AllZip-long Holds (map messages_of chains) (now held) (holds_now (g.state old.log) held logged), length-map chains messages_of)

  events-now : events_at_start chains ≡ events_at_start (now held)
  events-now = ap (λ n. drop n (roots_event ∷ counter_event ∷ [])) long-now

  stays : StayProper (log.now effect_of (unplaced_state (g.state old.log))) (now held) (events_at_start (now held)) changes
  stays =
      let before = unplaced_state (g.state old.log) in
      stays-start (log.now effect_of before) (now held) (holds-after before.stable held.stable before.pending held.pending logged.stable logged.pending) (proper-now before held logged)

  -- some of the messages came, which are as many of the changes
  module _ (came rest : List (Event Message)) (is : came ++ rest ≡ events_at_start chains) where
    part : take (length came) (events_at_start (now held)) ≡ came
    part = ap (take (length came)) (sym events-now ∙ sym is) ∙ take-append_seam came rest

    reached : (new : StickyLog L) → Comes g old new came → CrashLeaves g old.log held (take (length came) changes) new.log × (new.fault ≡ false → HasAdded g held (take (length came) changes) new.log)
    reached new went =
        let pages = log.now effect_of (unplaced_state (g.state old.log)) in
        let told = subst (λ (l : List (Event Message)). AreEvents (now held) l (take (length came) changes) × StayProper pages (now held) l (take (length came) changes)) part
        (events-take (now held) (length came) (events_at_start (now held)) changes (events-start (now held)), stay-take (length came) pages (now held) (events_at_start (now held)) changes (events-start (now held)) stays) in
        carried g known old new held came (take (length came) changes) logged told.0 told.1 went

    lacks : (l : L) → LacksRoom g l rest → LacksRoomFor g l (drop (length came) changes)
    lacks l full =
        let then : LacksRoom g l (map tell (drop (length came) changes)) =
        subst (LacksRoom g l) (sym (drop-append_seam came rest) ∙ ap (drop (length came)) (is ∙ events-now ∙ events-are (now held)) ∙ drop-map tell (length came) changes) full in
        grind arith

  -- it was refused
  pub opens-refused : (new : StickyLog L) (refusal : Refusal) → fault_of config ≡ None
      → Proceeds g old new (events_at_start chains) (Some refusal) → RefusesOpening config chains (error_of refusal) → Opens g old.log config held (Err (error_of refusal, new.log))
  opens-refused new refusal sound done why =
      let cut = done.reaches in
      let n = length cut.came in
      let hold = holds_now (g.state old.log) held logged in
      let proper = subst (λ (l : List Messages). IsProper l (now held)) (sym (now-unplaced (g.state old.log))) (proper-now (unplaced_state (g.state old.log)) held logged) in
      let reach = reached cut.came cut.rest cut.is new cut.went in
      record {
        why = grind (arith, why, sound, AllZip-long Holds (map messages_of chains) (now held) hold, length-map chains messages_of, proper.few, fit-at chains (now held) hold proper);
        begun = take n changes;
        rest = drop n changes;
        are = take-append-drop n changes;
        crash = reach.0;
        added = λ other. reach.1 (done.fault ∙ no-fault refusal other);
        full = λ so.
            let full_is : refusal ≡ Unsupported LogFull = grind (arith, so) in
            let full = cut.full full_is in
            let at = full.at in
            let then = reached cut.came cut.rest cut.is at full.went in
            let added = then.1 full.clear in
            let state = unplaced_state (g.state at.log) in
            let nothing = carried g known at new added.held_then [] [] added.logged tt (stay-none (log.now effect_of state) (now added.held_then) (proper-now state added.held_then added.logged)) full.behind in
            record {
              at_once = λ none. lacks cut.came cut.rest cut.is old.log (full.given (sym (part cut.came cut.rest cut.is) ∙ ap (take n) (events-are (now held)) ∙ take-map tell n changes ∙ ap (map tell) none));
              moment = at.log;
              reached = then.0;
              added = added;
              no_room = lacks cut.came cut.rest cut.is at.log full.room;
              still = (nothing.0, nothing.1 (done.fault ∙ ap (λ r. is_fault (Some r)) full_is));
            };
      }

  -- a cache was opened
  pub opens-done : (cache : Cache L)
      → Proceeds g old (sticky_log_of cache) (events_at_start chains) None → is_open (g.state cache.log).pending ≡ false → cache.batch ≡ false
      → IsOpenedWith config (now held) cache.stamps cache.next cache.recovered → cache.config ≡ config
      → (length chains < 2 → (g.state cache.log).pending ≡ []) → Opens g old.log config held (Ok cache)
  opens-done cache done closed unopened with_it config_is stable =
      let new = sticky_log_of cache in
      let went = subst (Comes g old new) events-now done.reaches in
      let told = events-start (now held) in
      let carried = carries g old new held (events_at_start (now held)) changes logged told stays went known done.fault in
      record {
        crash = leaves g old new held (events_at_start (now held)) changes logged told stays went known;
        held_then = carried.held_then;
        is = record {
          tells = known;
          stamps = sym with_it.stamps_are;
          next = sym with_it.next_is;
          fault = sym done.fault;
          batch = sym unopened;
          known = λ _. record { usable = done.reaches.usable done.fault; logged = carried.logged; contents = contents-start config (now held) ∙ sym carried.now_is; opened = sym (sym (reads-open carried.held_then.stable false (unplaced_state (g.state cache.log)).pending carried.held_then.pending carried.logged.pending) ∙ is_open-unplaced (g.state cache.log).pending ∙ closed) };
        };
        added = carried.added;
        stable = λ some.
            let few : length (now held) < 2 = ⊎_elim (λ few. few) (λ many. absurd (some (drop_all (length (now held)) (Roots [] ∷ Counter 0 ∷ []) many))) (cases_lt (length (now held)) 2) in
            let long = long-now in
            no-changes carried.held_then.stable (unplaced_state (g.state cache.log)).pending carried.held_then.pending
            (ap (map (seen_event (λ (entry : Entry). entry.message))) (stable (omega (arith, few, long)))) carried.logged.pending;
        config_is = config_is;
        recovered = with_it.recovered_is;
      }
