-- A log with a buffer over the log in memory: a stop leaves what was stable, and nothing of what is pending.
use Rattle.sled_log.proofs.Names.{◌≡◌, ⊎_elim, ◌≤◌, ℕ, Result, Ok, Err, List, [], ◌++◌, refl, sym, subst, arith, ⊤, Called, begun_by, Event, IsFair-none, IsPrefix-all, IsPrefix-none, state_of, clock_of, might_have_left, counts_of, was_at, Remembers, Entry, Message, Messages, effect_of, effect_of_entry, LogState, Adds, IsLeft, unplaced_state, unplaced_events, Adds-unplaced, LogError, Memory, Full, ReadFault, WriteFault, Corruption, MemLog}
use Rattle.sled_log.proofs.MemCalls.{stops}

-- the stable chains at a moment, without their places
abbrev pub stable_at : ℕ → MemLog → List Messages
stable_at moment log = (unplaced_state (was_at moment log)).stable

-- what a stop from `since` on might have left: what was stable at its moment
abbrev pub might_have_kept : MemLog → ℕ → List Messages → Type 0
might_have_kept log since pages = (at : ℕ) × (since ≤ at) × (at ≤ clock_of log) × (pages ≡ stable_at at log)

-- the stable chains after a call are those before it, and what is pending or came up to a fair cut
stable_after : (old new : LogState Entry) (events : List (Event Entry)) → Adds effect_of_entry old events new → IsLeft effect_of (unplaced_state old) (unplaced_events events) (unplaced_state new).stable
stable_after old new events added =
    let tells = Adds-unplaced old new events added in
    record { came = unplaced_events events; beginning = IsPrefix-all (unplaced_events events); cut = tells.cut; fair = tells.fair; is = tells.stable }

module _ {T : Type 0} (old new : MemLog) (count : ℕ) (events : T → List (Event Entry)) (begun : List (Event Message)) (tells : (answer : T) → unplaced_events (events answer) ≡ begun) where
  -- so it is for each answer: the log in memory meets no write fault
  stable_called : (result : Result T LogError) → Called ⊤ state_of clock_of might_have_left counts_of old new count events begun result
      → IsLeft effect_of (unplaced_state (state_of old)) (begun_by result begun) (stable_at (clock_of new) new)
  stable_called (Ok answer) called =
      subst (λ (l : List (Event Message)). IsLeft effect_of (unplaced_state (state_of old)) l (stable_at (clock_of new) new)) (tells answer)
      (stable_after (state_of old) (state_of new) (events answer) (called.added tt))
  stable_called (Err Memory) called = stable_after (state_of old) (state_of new) [] (called.refused tt refl)
  stable_called (Err Full) called = stable_after (state_of old) (state_of new) [] (called.refused tt refl)
  stable_called (Err ReadFault) called = stable_after (state_of old) (state_of new) [] (called.refused tt refl)
  stable_called (Err Corruption) called = stable_after (state_of old) (state_of new) [] (called.refused tt refl)
  stable_called (Err WriteFault) called = absurd (⊎_elim (λ more. omega arith) (λ most. omega arith) (called.cause.write refl))

-- what was stable and no event of what may have begun
stable_before : (state : LogState Message) (begun : List (Event Message)) → IsLeft effect_of state begun state.stable
stable_before state begun = record { came = []; beginning = IsPrefix-none begun; cut = 0; fair = IsFair-none (state.pending ++ []); is = refl }

-- What a call of the log in memory does, it does of a log with a buffer over it.
pub called_buffered : {L T : Type 0} (log_of : L → MemLog) (old new : L) (count : ℕ) (events : T → List (Event Entry)) (begun : List (Event Message)) (result : Result T LogError)
    → ((answer : T) → unplaced_events (events answer) ≡ begun)
    → Called ⊤ state_of clock_of might_have_left counts_of (log_of old) (log_of new) count events begun result
    → Remembers (log_of old) (log_of new)
    → Called ⊤ (λ log. state_of (log_of log)) (λ log. clock_of (log_of log)) (λ log t pages. might_have_kept (log_of log) t pages) (λ log. counts_of (log_of log)) old new count events begun result
called_buffered {L} {T} log_of old new count events begun result tells called past =
    let begins = begun_by result begun in
    let before = unplaced_state (state_of (log_of old)) in
    let P = IsLeft effect_of before begins in
    let after = stable_called (log_of old) (log_of new) count events begun tells result called in
    let stop = stops (λ state pages. pages ≡ (unplaced_state state).stable) (log_of old) (log_of new) P (λ pages is. subst P (sym is) (stable_before before begins)) (λ pages is. subst P (sym is) after) past in
    record {
      added = called.added;
      refused = called.refused;
      usable = called.usable;
      opened = called.opened;
      sound = called.sound;
      stop = λ _. record { later = stop.later; each = stop.each; before = stop.before; kept = stop.kept };
      cause = called.cause;
      reads = called.reads;
    }
