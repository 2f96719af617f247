-- What a call of the log in memory does, for each way in which it ends.
use Rattle.sled_log.proofs.Names.{◌≡◌, inl, inr, ⊎_elim, ◌≤◌, ◌<◌, ◌+◌, ℕ, false, Result, Ok, Err, List, [], refl, sym, ◌∙◌, ap, subst, arith, ⊤, cases_lt, append-nil, is_open, Called, Event, state_at, items_settled_at, Adds-none, IsLeft-behind, IsLeft-more, kept_in, state_of, clock_of, was_at, might_have_left, counts_of, Remembers, Entry, Message, Messages, effect_of, effect_of_entry, LogState, Adds, IsLeft, CrashesSinceLeave, unplaced_state, unplaced_events, Adds-unplaced, opened-Adds, LogError, Memory, MemLog}
use Rattle.sled_log.proofs.Moments.{pending_events, adds-settled, state_at-settled}

-- the log knows whether a batch is open
pub batch-says : (self : MemLog) → self.batch ≡ is_open (state_of self).pending
batch-says self = self.batch_is ∙ ap is_open (sym (pending_events self.clock self.stable (kept_in self) self.in_order))

-- what is left at some moment from `since` on, by what the log was then
abbrev pub WasLeftBy : (LogState Entry → List Messages → Type 0) → MemLog → ℕ → List Messages → Type 0
WasLeftBy Left log since pages = (at : ℕ) × (since ≤ at) × (at ≤ clock_of log) × Left (was_at at log) pages

-- A crash at any moment of a call leaves what one before it left, or what one behind it leaves.
pub stops : (Left : LogState Entry → List Messages → Type 0) (old new : MemLog) (P : List Messages → Type 0)
    → ((pages : List Messages) → Left (state_of old) pages → P pages)
    → ((pages : List Messages) → Left (state_of new) pages → P pages)
    → Remembers old new → CrashesSinceLeave clock_of (WasLeftBy Left) old new P
stops Left old new P was is past =
    let later = past.later in
    let one = past.one in
    let of_new : (at : ℕ) (pages : List Messages) → clock_of old < at → at ≤ clock_of new → Left (was_at at new) pages → P pages = λ at pages lt le left. is pages (subst (λ moment. Left (was_at moment new) pages) (omega arith) left) in
    let of_old : (at : ℕ) (pages : List Messages) → at ≤ clock_of old → Left (was_at at new) pages → Left (was_at at old) pages = λ at pages le left. subst (λ (s : LogState Entry). Left s pages) (past.past at le) left in
    record {
      later = later;
      each = λ pages left.
          let from = left.1 in
          ⊎_elim (λ lt. of_new left.0 pages lt left.2 left.3) (λ le. was pages (subst (λ moment. Left (was_at moment old) pages) (omega arith) (of_old left.0 pages le left.3))) (cases_lt (clock_of old) left.0);
      before = λ t pages le left. ⊎_elim (λ lt. inr (of_new left.0 pages lt left.2 left.3)) (λ le. inl (left.0, left.1, le, of_old left.0 pages le left.3)) (cases_lt (clock_of old) left.0);
      kept = λ t pages le left. let to = left.2 in (left.0, left.1, omega arith, subst (λ (s : LogState Entry). Left s pages) (sym (past.past left.0 to)) left.3);
    }

module _ (old new : MemLog) where
  -- so a call leaves what was pending and what it added, up to a fair cut
  stop : (events : List (Event Entry)) → Remembers old new → Adds effect_of_entry (state_of old) events (state_of new)
      → CrashesSinceLeave clock_of might_have_left old new (IsLeft effect_of (unplaced_state (state_of old)) (unplaced_events events))
  stop events past adds =
      let before : LogState Message = unplaced_state (state_of old) in
      let comes : List (Event Message) = unplaced_events events in
      let s =
      stops (λ state pages. IsLeft effect_of (unplaced_state state) [] pages) old new (IsLeft effect_of before comes) (IsLeft-more effect_of before [] comes)
      (λ pages left. subst (λ (l : List (Event Message)). IsLeft effect_of before l pages) (append-nil comes) (IsLeft-behind effect_of before (unplaced_state (state_of new)) comes [] pages (Adds-unplaced (state_of old) (state_of new) events adds) left)) past in
      record {
        later = s.later;
        each = λ pages l. s.each pages (l.at, l.from, l.to, l.left);
        before = λ t pages le l. ⊎_elim (λ k. inl (record { at = k.0; from = k.1; to = k.2; left = k.3 })) inr (s.before t pages le (l.at, l.from, l.to, l.left));
        kept = λ t pages le l. let k = s.kept t pages le (l.at, l.from, l.to, l.left) in record { at = k.0; from = k.1; to = k.2; left = k.3 };
      }

  -- the events were added
  pub called_ok : {T : Type 0} (answer : T) (count : ℕ) (events : T → List (Event Entry)) (begun : List (Event Message)) → unplaced_events (events answer) ≡ begun
      → Adds effect_of_entry (state_of old) (events answer) (state_of new) → Remembers old new → new.reads ≡ count
      → Called ⊤ state_of clock_of might_have_left counts_of old new count events begun (Ok answer)
  called_ok answer count events begun tells adds past reads = record {
    added = λ _. adds;
    refused = λ _. tt;
    usable = refl;
    opened = λ _. opened-Adds (state_of old) (state_of new) (events answer) begun tells adds;
    stop = λ _. subst (λ (l : List (Event Message)). CrashesSinceLeave clock_of might_have_left old new (IsLeft effect_of (unplaced_state (state_of old)) l)) tells (stop (events answer) past adds);
    sound = λ _ is. absurd cc;
    cause = record { failed_reads = omega arith; write_faults = omega arith; read = λ is. absurd cc; write = λ is. absurd cc };
    reads = reads;
  }

  module _ (clock : new.clock ≡ old.clock) (kept : kept_in new ≡ kept_in old) where
    remembers_same : Remembers old new
    remembers_same = record { later = omega arith; one = omega arith; past = λ moment le. ap (state_at moment) kept }

    adds_same : Adds effect_of_entry (state_of old) [] (state_of new)
    adds_same = rw (kept, clock) (Adds-none effect_of_entry (state_of old))

    -- nothing was added
    pub called_memory : {T : Type 0} (count : ℕ) (events : T → List (Event Entry)) (begun : List (Event Message)) → new.reads ≡ count
        → (let result : Result T LogError = Err Memory in Called ⊤ state_of clock_of might_have_left counts_of old new count events begun result)
    called_memory count events begun reads = record {
      added = λ _. tt;
      refused = λ _ clear. adds_same;
      usable = refl;
      opened = λ _. opened-Adds (state_of old) (state_of new) [] [] refl adds_same;
      stop = λ _. stop [] remembers_same adds_same;
      sound = λ _ is. absurd cc;
      cause = record { failed_reads = omega arith; write_faults = omega arith; read = λ is. absurd cc; write = λ is. absurd cc };
      reads = reads;
    }

    -- nothing was added, and the call was answered
    pub called_same : {T : Type 0} (answer : T) (count : ℕ) → new.reads ≡ count → Called ⊤ state_of clock_of might_have_left counts_of old new count (λ _. []) [] (Ok answer)
    called_same answer count reads = called_ok answer count (λ _. []) [] refl adds_same remembers_same reads

  module _ (clock : new.clock ≡ old.clock + 1) (kept : kept_in new ≡ items_settled_at (old.clock + 1) old.stable (kept_in old)) where
    -- all that was pending became stable, and what the log was before stays
    pub remembers_settled : Remembers old new
    remembers_settled = record {
      later = omega arith;
      one = omega arith;
      past = λ moment le. ap (state_at moment) kept ∙ state_at-settled old.clock (old.clock + 1) old.stable (kept_in old) (omega arith) old.in_order moment le;
    }

    pub called_settled : {T : Type 0} (answer : T) → is_open (state_of old).pending ≡ false → new.reads ≡ old.reads → Called ⊤ state_of clock_of might_have_left counts_of old new old.reads (λ _. []) [] (Ok answer)
    called_settled answer closed reads = called_ok answer old.reads (λ _. []) [] refl
        (rw (kept, clock) (adds-settled old.clock (old.clock + 1) old.stable (kept_in old) (omega arith) old.in_order (ap is_open (sym (pending_events old.clock old.stable (kept_in old) old.in_order)) ∙ closed)))
        remembers_settled reads
