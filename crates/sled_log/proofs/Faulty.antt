-- A log in memory of which one read and one other call fail.
use Rattle.sled_log.proofs.Names.{Adds, Adds-none, effect_of_entry, is_open, ReadFault, ◌≡◌, inl, inr, ⊎_elim, ◌≤◌, ◌+◌, ◌==◌, ℕ, Bool, true, false, cond, Result, Err, List, [], refl, sym, ◌∙◌, ap, subst, arith, eqb-true, true≢false, ⊤, Counts, Called, HasGrown, begun_by, one_more, Event, left_now, IsLeft-more, CrashesSinceLeave-none, kept_in, state_of, clock_of, might_have_left, counts_of, Entry, Message, effect_of, most_count, Called-stop, LogState, IsLeft, CrashesSinceLeave, unplaced_state, LogError, WriteFault, MemLog}

-- the log in memory, which may be called or not
abbrev pub state_over : MemLog → Bool → LogState Entry
state_over log usable = record { stable = (state_of log).stable; pending = (state_of log).pending; usable = usable }

grows : (n : ℕ) → HasGrown n (one_more n)
grows n = by (n == most_count) refl
  where
    by : (b : Bool) → (n == most_count) ≡ b → HasGrown n (cond b n (n + 1))
    by true most = inr (eqb-true n (most_count) most)
    by false less = inl (omega arith)

not_less : (n : ℕ) → n ≤ one_more n
not_less n = by (n == most_count)
  where
    by : (b : Bool) → n ≤ cond b n (n + 1)
    by true = omega arith
    by false = omega arith

-- A log over it counts reads and faults of its own, and may be called while no write has failed.
module _ {L : Type 0} (log_of : L → MemLog) (counts : L → Counts) (old new : L) where
  abbrev may : L → Bool
  may log = (counts log).write_faults == 0

  -- the crash states of both are those of the log in memory
  abbrev Leaves : List (Event Message) → Type 0
  Leaves begun = CrashesSinceLeave (λ log. clock_of (log_of log)) (λ log t pages. might_have_left (log_of log) t pages) old new (IsLeft effect_of (unplaced_state (state_of (log_of old))) begun)

  leaves : (begun : List (Event Message)) → CrashesSinceLeave clock_of might_have_left (log_of old) (log_of new) (IsLeft effect_of (unplaced_state (state_of (log_of old))) begun) → Leaves begun
  leaves begun stop = record { later = stop.later; each = stop.each; before = stop.before; kept = stop.kept }

  abbrev pub CalledOver : {T : Type 0} → ℕ → (T → List (Event Entry)) → List (Event Message) → Result T LogError → Type 0
  CalledOver own events begun result = Called ⊤ (λ log. state_over (log_of log) (may log)) (λ log. clock_of (log_of log)) (λ log t pages. might_have_left (log_of log) t pages) counts old new own events begun result

  -- What a call of the log in memory does, which meets no fault, it does of the log over it.
  pub called_over : {T : Type 0} (count own : ℕ) (events : T → List (Event Entry)) (begun : List (Event Message)) (result : Result T LogError) → may new ≡ true
      → Called ⊤ state_of clock_of might_have_left counts_of (log_of old) (log_of new) count events begun result
      → (counts old).failed_reads ≤ (counts new).failed_reads → (counts old).write_faults ≤ (counts new).write_faults → (counts new).reads ≡ own → CalledOver own events begun result
  called_over count own events begun result usable called failed faults reads = record {
    added = called.added;
    refused = called.refused;
    usable = usable ∙ called.usable;
    opened = called.opened;
    sound = called.sound;
    stop = λ _. leaves (begun_by result begun) (called.stop tt);
    cause = record {
      failed_reads = failed;
      write_faults = faults;
      read = λ is. absurd (⊎_elim (λ more. omega arith) (λ most. omega arith) (called.cause.read is));
      write = λ is. absurd (⊎_elim (λ more. omega arith) (λ most. omega arith) (called.cause.write is));
    };
    reads = reads;
  }

  -- nothing comes to the log in memory, and a crash leaves what it left
  left-same : (begun : List (Event Message)) → log_of new ≡ log_of old → Leaves begun
  left-same begun same =
      let before = log_of old in
      let P = IsLeft effect_of (unplaced_state (state_of before)) begun in
      let stop = CrashesSinceLeave-none clock_of might_have_left before P (λ pages now. IsLeft-more effect_of (unplaced_state (state_of before)) [] begun pages (left_now before.clock (kept_in before) pages now)) in
      leaves begun (subst (λ l. CrashesSinceLeave clock_of might_have_left before l P) (sym same) stop)

  -- a read that fails reads nothing of it
  pub called_unread : {T : Type 0} (own : ℕ) (events : T → List (Event Entry)) (begun : List (Event Message)) → log_of new ≡ log_of old → may new ≡ true → (counts new).failed_reads ≡ one_more (counts old).failed_reads
      → (counts new).write_faults ≡ (counts old).write_faults → (counts new).reads ≡ own → (let result : Result T LogError = Err ReadFault in CalledOver own events begun result)
  called_unread own events begun same usable failed faults reads =
      let before = log_of old in
      let none : Adds effect_of_entry (state_of before) [] (state_of (log_of new)) = subst (λ l. Adds effect_of_entry (state_of before) [] (state_of l)) (sym same) (Adds-none effect_of_entry (state_of before)) in
      record {
        added = λ _. tt;
        refused = λ _ _. none;
        usable = usable;
        opened = λ _. ap (λ l. is_open (state_of l).pending) same;
        sound = λ _ is. cc;
        stop = λ _. left-same [] same;
        cause = record {
          failed_reads = subst (λ n. (counts old).failed_reads ≤ n) (sym failed) (not_less (counts old).failed_reads);
          write_faults = omega (arith, faults);
          read = λ _. subst (HasGrown (counts old).failed_reads) (sym failed) (grows (counts old).failed_reads);
          write = λ is. cc;
        };
        reads = reads;
      }

  module _ {T : Type 0} (own : ℕ) (events : T → List (Event Entry)) (begun : List (Event Message))
      (usable : may old ≡ true) (failed : (counts new).failed_reads ≡ (counts old).failed_reads) (faults : (counts new).write_faults ≡ one_more (counts old).write_faults) (reads : (counts new).reads ≡ own) where
    abbrev Failed : Type 0
    Failed = (let result : Result T LogError = Err WriteFault in CalledOver own events begun result)

    -- after a write that fails it is not called again
    called_failed : Leaves begun → Failed
    called_failed stop =
        let none = eqb-true (counts old).write_faults 0 usable in
        let never : may new ≡ false = ap (λ n. n == 0) (faults ∙ ap one_more none) in
        record {
          added = λ _. tt;
          refused = λ _ clear. absurd (true≢false clear);
          usable = never;
          opened = λ clear. absurd (true≢false clear);
          sound = λ _ is. cc;
          stop = λ _. stop;
          cause = record {
            failed_reads = omega (arith, failed);
            write_faults = subst (λ n. (counts old).write_faults ≤ n) (sym faults) (not_less (counts old).write_faults);
            read = λ is. cc;
            write = λ _. subst (HasGrown (counts old).write_faults) (sym faults) (grows (counts old).write_faults);
          };
          reads = reads;
        }

    -- It wrote nothing, or what it did may be there.
    pub called_unwritten : log_of new ≡ log_of old → Failed
    called_unwritten same = called_failed (left-same begun same)

    pub called_behind : {S : Type 0} (count : ℕ) (others : S → List (Event Entry)) (result : Result S LogError) → Called ⊤ state_of clock_of might_have_left counts_of (log_of old) (log_of new) count others begun result → Failed
    called_behind count others result called =
        called_failed (leaves begun (Called-stop state_of clock_of might_have_left counts_of (log_of old) (log_of new) count others begun result tt called))
