-- What a log is, what its calls add to it, and the crash states that a crash at any moment leaves of it.
use Rattle.std.specs.Prelude.{◌≡◌, ◌⊎◌, ◌≤◌, ℕ, Bool, List, ◌++◌, take, drop, map}
use Rattle.sled_base.specs.declared.kinds.LogKind.{LogKind}
use Rattle.sled_log.specs.Events.{IsFair, Event, seen_event}
use Rattle.sled_log.specs.Chains.{chains_after}
use Rattle.sled_log.specs.Messages.{Message, Entry, Messages, message_in}

-- The durable chains, the pending events, which came after them, and whether the log may be called. After a write fault it may
-- not, and only its crash states are known.
pub record LogState (E : Type 0) : Type 0 where
  pub stable : List (List E)
  pub pending : List (Event E)
  pub usable : Bool

-- the first list is a prefix of the second
abbrev pub IsPrefix : {E : Type 0} → List (Event E) → List (Event E) → Type 0
IsPrefix {E} part events = (rest : List (Event E)) × (part ++ rest ≡ events)

-- Durable and pending events, for any type of events.
module _ {E S : Type 0} (after : S → List (Event E) → S) where
  -- The events were added after the pending ones. A prefix of all of them, up to a fair cut, became durable.
  pub record AddsEvents (durable : S) (waiting events : List (Event E)) (durable_then : S) (waiting_then : List (Event E)) : Type 0 where
    pub cut : ℕ
    pub fair : IsFair (waiting ++ events) cut
    pub stable : durable_then ≡ after durable (take cut (waiting ++ events))
    pub pending : waiting_then ≡ drop cut (waiting ++ events)

  -- What a crash keeps: some prefix of the events had come by then, and it kept what was durable and what was pending by then, up
  -- to a fair cut. `Is` holds of this.
  pub record CrashKeeps (durable : S) (waiting events : List (Event E)) (Is : S → Type 0) : Type 0 where
    pub came : List (Event E)
    pub beginning : IsPrefix came events
    pub cut : ℕ
    pub fair : IsFair (waiting ++ came) cut
    pub is : Is (after durable (take cut (waiting ++ came)))

module _ {E : Type 0} (effect : E → LogKind) where
  -- what the log holds now
  abbrev pub now : LogState E → List (List E)
  now state = chains_after effect state.stable state.pending

  -- the log after these events were added
  abbrev pub Adds : LogState E → List (Event E) → LogState E → Type 0
  Adds old events new = AddsEvents (chains_after effect) old.stable old.pending events new.stable new.pending

  -- a crash state of a log that was `old` before these events began to be added
  abbrev pub IsLeft : LogState E → List (Event E) → List (List E) → Type 0
  IsLeft old events pages = CrashKeeps (chains_after effect) old.stable old.pending events (λ kept. pages ≡ kept)

-- the state, with `see` applied to each change
abbrev pub seen_state : {E F : Type 0} → (E → F) → LogState E → LogState F
seen_state see state = record { stable = map (map see) state.stable; pending = map (seen_event see) state.pending; usable = state.usable }

-- the state without the places
abbrev pub unplaced_state : LogState Entry → LogState Message
unplaced_state state = seen_state message_in state

-- The pages that a crash at any moment since `old` leaves satisfy P.
pub record CrashesSinceLeave {L : Type 0} (moment : L → ℕ) (left_since : L → ℕ → List Messages → Type 0) (old new : L) (P : List Messages → Type 0) : Type 0 where
  pub later : moment old ≤ moment new
  pub each : (pages : List Messages) → left_since new (moment old) pages → P pages
  -- the same for a sequence of calls that began earlier
  pub before : (t : ℕ) (pages : List Messages) → t ≤ moment old → left_since new t pages → left_since old t pages ⊎ P pages
  -- no crash state is forgotten
  pub kept : (t : ℕ) (pages : List Messages) → t ≤ moment old → left_since old t pages → left_since new t pages
