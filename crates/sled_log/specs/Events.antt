-- The events of a log, in order: changes of pages and the marks of batches; and where a crash may cut them.
use Rattle.std.specs.Prelude.{ℕ, ◌≡◌, ◌≤◌, Bool, true, false, List, [], ◌∷◌, length, take, drop}
use Rattle.std.proofs.Common.{◌≡◌, ℕ, Bool, true, false, List, [], ◌∷◌, length, map, take, drop}

pub data Event (E : Type 0) : Type 0 where
  Change : (id : ℕ) (said : E) → Event E
  Pin : Event E
  Seal : Event E
  Cancel : Event E

module _ {E F : Type 0} (see : E → F) where
  -- the event, with `see` applied to its change
  abbrev pub seen_event : Event E → Event F
  seen_event (Change id said) = Change id (see said)
  seen_event Pin = Pin
  seen_event Seal = Seal
  seen_event Cancel = Cancel

module _ {E : Type 0} where
  -- whether a batch is open after these events, if the first argument says whether one is open before them
  abbrev pub open_after : Bool → List (Event E) → Bool
  open_after was [] = was
  open_after was (Change id said ∷ events) = open_after was events
  open_after was (Pin ∷ events) = open_after true events
  open_after was (Seal ∷ events) = open_after false events
  open_after was (Cancel ∷ events) = open_after false events

  -- whether these events leave a batch open
  abbrev pub is_open : List (Event E) → Bool
  is_open events = open_after false events

  -- whether these events cancel a batch that is open before them: not if they seal it or leave it open
  abbrev pub is_cancelled : List (Event E) → Bool
  is_cancelled [] = false
  is_cancelled (Change id said ∷ events) = is_cancelled events
  is_cancelled (Pin ∷ events) = is_cancelled events
  is_cancelled (Seal ∷ events) = false
  is_cancelled (Cancel ∷ events) = true

  -- A crash may keep the first `cut` of these events, a prefix that splits no batch: no batch is open at the cut, except one that
  -- is cancelled after it.
  pub record IsFair (events : List (Event E)) (cut : ℕ) : Type 0 where
    pub within : cut ≤ length events
    pub no_part : is_open (take cut events) ≡ true → is_cancelled (drop cut events) ≡ true

module _ {E F : Type 0} (see : E → F) where
  abbrev pub seen_events : List (Event E) → List (Event F)
  seen_events events = map (seen_event see) events
