-- A call of the log in memory, behind which all is made stable that may be, is the same call.
use Rattle.sled_log.proofs.Names.{◌≡◌, ℕ, false, Result, Ok, Err, List, [], refl, sym, ◌∙◌, ap, subst, arith, ⊤, append-nil, Called, HasCause, begun_by, is_write_fault, Event, Adds-then, CrashesSinceLeave-then, is_open-Adds, state_of, clock_of, might_have_left, counts_of, Entry, Message, effect_of, effect_of_entry, Adds, IsLeft, CrashesSinceLeave, unplaced_state, unplaced_events, Adds-unplaced, LogError, Memory, Full, ReadFault, WriteFault, Corruption, MemLog}

-- a call of a log that holds one in memory, from `old` to `mid`, behind which something becomes stable
module _ {L : Type 0} (inner : L → MemLog) (from to : L) (mid : MemLog)
    (adds : Adds effect_of_entry (state_of mid) [] (state_of (inner to)))
    (stop : CrashesSinceLeave clock_of might_have_left mid (inner to) (IsLeft effect_of (unplaced_state (state_of mid)) []))
    (counts : counts_of (inner to) ≡ counts_of mid) where
  abbrev old : MemLog
  old = inner from

  abbrev new : MemLog
  new = inner to

  abbrev CalledEager : {T : Type 0} → ℕ → (T → List (Event Entry)) → List (Event Message) → Result T LogError → Type 0
  CalledEager count events begun result = Called ⊤ (λ log. state_of (inner log)) (λ log. clock_of (inner log)) (λ log. might_have_left (inner log)) (λ log. counts_of (inner log)) from to count events begun result

  adds_settled : (events : List (Event Entry)) → Adds effect_of_entry (state_of old) events (state_of mid) → Adds effect_of_entry (state_of old) events (state_of new)
  adds_settled events first =
      subst (λ (l : List (Event Entry)). Adds effect_of_entry (state_of old) l (state_of new)) (append-nil events)
      (Adds-then effect_of_entry (state_of old) (state_of mid) (state_of new) events [] first adds)

  stop_settled : (events : List (Event Entry)) (begun : List (Event Message)) → unplaced_events events ≡ begun → Adds effect_of_entry (state_of old) events (state_of mid)
      → CrashesSinceLeave clock_of might_have_left old mid (IsLeft effect_of (unplaced_state (state_of old)) begun)
      → CrashesSinceLeave (λ log. clock_of (inner log)) (λ log. might_have_left (inner log)) from to (IsLeft effect_of (unplaced_state (state_of old)) begun)
  stop_settled events begun tells first before =
      let state = unplaced_state (state_of old) in
      let after = unplaced_state (state_of mid) in
      let told = subst (λ (l : List (Event Message)). Adds effect_of state l after) tells (Adds-unplaced (state_of old) (state_of mid) events first) in
      let stops =
      subst (λ (l : List (Event Message)). CrashesSinceLeave clock_of might_have_left old new (IsLeft effect_of state l)) (append-nil begun)
      (CrashesSinceLeave-then clock_of might_have_left old mid new state after begun [] told before stop) in
      record { later = stops.later; each = stops.each; before = stops.before; kept = stops.kept }

  module _ {T : Type 0} (count : ℕ) (events : T → List (Event Entry)) (begun : List (Event Message)) where
    -- a refusal that is no write fault, and so begins nothing
    refused_settled : (e : LogError)
        → (let result : Result T LogError = Err e in
        (is_write_fault result ≡ false) × ([] ≡ begun_by result begun) × Called ⊤ state_of clock_of might_have_left counts_of old mid count events begun result → CalledEager count events begun result)
    refused_settled e (clear, none, called) = record {
      added = λ _. tt;
      refused = λ _ _. adds_settled [] (called.refused tt clear);
      usable = called.usable;
      opened = λ clear. is_open-Adds effect_of_entry (state_of mid) (state_of new) [] adds ∙ called.opened clear;
      stop = λ _. stop_settled [] _ none (called.refused tt clear) (called.stop tt);
      sound = called.sound;
      cause = subst (λ c. HasCause {T = T} (counts_of old) c (Err e)) (sym counts) called.cause;
      reads = ap (λ c. c.reads) counts ∙ called.reads;
    }

    -- No device fails, so there is no write fault.
    pub called_settled : (result : Result T LogError) → ((answer : T) → unplaced_events (events answer) ≡ begun) → Called ⊤ state_of clock_of might_have_left counts_of old mid count events begun result → CalledEager count events begun result
    called_settled (Ok answer) tells called = record {
      added = λ _. adds_settled (events answer) (called.added tt);
      refused = λ _. tt;
      usable = refl;
      opened = λ clear. is_open-Adds effect_of_entry (state_of mid) (state_of new) [] adds ∙ called.opened clear;
      stop = λ _. stop_settled (events answer) begun (tells answer) (called.added tt) (called.stop tt);
      sound = called.sound;
      cause = subst (λ c. HasCause (counts_of old) c (Ok answer)) (sym counts) called.cause;
      reads = ap (λ c. c.reads) counts ∙ called.reads;
    }
    called_settled (Err Memory) tells called = refused_settled Memory (refl, refl, called)
    called_settled (Err Full) tells called = refused_settled Full (refl, refl, called)
    called_settled (Err ReadFault) tells called = refused_settled ReadFault (refl, refl, called)
    called_settled (Err WriteFault) tells called = absurd (omega (arith, called.cause.write refl))
    called_settled (Err Corruption) tells called = refused_settled Corruption (refl, refl, called)
