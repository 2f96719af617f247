-- What is known of a log after calls in a row, if nothing else is known of it.
use Rattle.std.proofs.Common.{◌≡◌, ◌≢◌, ℕ, Bool, true, false, not, List, [], Result, Ok, Err, refl, ◌∙◌, ap}
use Rattle.sled_log.specs.Events.{is_open, open_after, Event}
use Rattle.sled_log.specs.Calls.{Called, Counts, begun_by, is_write_fault}
use Rattle.sled_log.specs.Chains.{chains_after}
use Rattle.sled_log.specs.Inside.Laws.{now-Adds}
use Rattle.sled_log.specs.Messages.{Entry, Message, Chain, Messages, effect_of_entry}
use Rattle.sled_log.specs.LogState.{LogState, now}
use Rattle.sled_log.specs.declared.log.LogError.{LogError}
use Rattle.sled_log.specs.declared.log.LogError.TheVariants.{Memory, Full, ReadFault, WriteFault, Corruption}

-- It may be called, `batch` says whether a batch is open, and if it tells its bytes, these are its chains.
pub record Stands {L : Type 0} (tells : Type 0) (state : L → LogState Entry) (log : L) (batch : Bool) (chains : List Chain) : Type 0 where
  pub usable : (state log).usable ≡ true
  pub opened : is_open (state log).pending ≡ batch
  pub holds : tells → now effect_of_entry (state log) ≡ chains

begun_by-none : {T : Type 0} (result : Result T LogError) → begun_by result [] ≡ []
begun_by-none (Ok answer) = refl
begun_by-none (Err Memory) = refl
begun_by-none (Err Full) = refl
begun_by-none (Err ReadFault) = refl
begun_by-none (Err WriteFault) = refl
begun_by-none (Err Corruption) = refl

clear-unless : (T : Type 0) (e : LogError) → e ≢ WriteFault → (let result : Result T LogError = Err e in is_write_fault result ≡ false)
clear-unless T Memory h = refl
clear-unless T Full h = refl
clear-unless T ReadFault h = refl
clear-unless T WriteFault h = absurd (h refl)
clear-unless T Corruption h = refl

module _ {L T : Type 0} {tells : Type 0} {state : L → LogState Entry} {moment : L → ℕ} {left_since : L → ℕ → List Messages → Type 0} {counts : L → Counts} {old new : L} {count : ℕ} {events : T → List (Event Entry)} {batch : Bool} {chains : List Chain} where
  -- after a call at Ok
  pub stands-on : {begun : List (Event Message)} (answer : T) → Stands tells state old batch chains → (let result : Result T LogError = Ok answer in Called tells state moment left_since counts old new count events begun result)
      → Stands tells state new (open_after batch begun) (chains_after effect_of_entry chains (events answer))
  stands-on {begun} answer s called = record {
    usable = called.usable;
    opened = called.opened refl ∙ ap (λ b. open_after b begun) s.opened;
    holds = λ told. now-Adds effect_of_entry (state old) (state new) (events answer) (called.added told) ∙ ap (λ (l : List Chain). chains_after effect_of_entry l (events answer)) (s.holds told);
  }

  -- after an error other than a write fault of a call that begins nothing
  pub stands-still : (e : LogError) → Stands tells state old batch chains → e ≢ WriteFault
      → (let result : Result T LogError = Err e in Called tells state moment left_since counts old new count events [] result → Stands tells state new batch chains)
  stands-still e s not_write called =
      let result : Result T LogError = Err e in
      let clear : is_write_fault result ≡ false = clear-unless T e not_write in
      record {
        usable = called.usable ∙ ap not clear;
        opened = called.opened clear ∙ ap (open_after (is_open (state old).pending)) (begun_by-none result) ∙ s.opened;
        holds = λ told. now-Adds effect_of_entry (state old) (state new) [] (called.refused told clear) ∙ s.holds told;
      }
