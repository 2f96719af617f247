-- A log of which nothing is pending is the one of the bytes of its file.
use Rattle.std.proofs.Common.{◌≡◌, ◌∙◌, ℕ, Bool, true, List, [], ap}
use Rattle.std.specs.Prelude.{Option}
use Rattle.sled_log.specs.Chains.{chains_after}
use Rattle.sled_log.specs.Events.{Event}
use Rattle.sled_log.specs.LogState.{LogState}
use Rattle.sled_log.specs.Messages.{Entry, effect_of_entry}
use Rattle.sled_disk.specs.Format.{IsBytes, Record}
use Rattle.sled_disk.specs.Pending.{state_in}
use Rattle.sled_disk.specs.RecoveredLog.{IsLogOf}
use Rattle.sled_disk.specs.RecoveredLogLaws.{stands-described}
use Rattle.sled_disk.specs.LogContents.{Stands, events_in}
use Rattle.sled_disk.specs.declared.recovery.head.Head.{Head}

module _ (seen : List ℕ) (gate : ℕ) (spilled : Bool) (rs : List Record) (batch : Option ℕ) (heads : List (List Head)) (fits : IsBytes seen) (s : Stands seen gate spilled rs batch heads) (buffer : List ℕ) (usable : Bool) where
  -- with this pending
  abbrev then : List (Event Entry) → Bool → LogState Entry
  then pending usable = record { stable = chains_after effect_of_entry [] (events_in seen); pending = pending; usable = usable }

  pub of-its-bytes : usable ≡ true → (state_in seen gate spilled buffer usable).pending ≡ [] → IsLogOf seen (state_in seen gate spilled buffer usable)
  of-its-bytes ok none = (events_in seen, (gate, stands-described seen gate spilled rs batch heads fits s), ap (λ (l : List (Event Entry)). then l usable) none ∙ ap (λ (b : Bool). then [] b) ok)
