-- The log with its places, and without them, agree.
use Rattle.std.proofs.Common.{◌≡◌, ℕ, false, List, map, refl, sym, ◌∙◌, ap}
use Rattle.sled_base.specs.declared.kinds.MessageKind.{MessageKind}
use Rattle.sled_log.specs.Events.{open_after, is_open, IsFair, Event}
use Rattle.sled_log.specs.Calls.{can_append}
use Rattle.sled_log.specs.Chains.{chains_after}
use Rattle.sled_log.specs.Inside.Laws.{is_open-Adds}
use Rattle.sled_log.specs.Messages.{Message, Entry, Chain, messages_of, message_in, effect_of, effect_of_entry, unplaced_events}
use Rattle.sled_log.specs.Inside.SeenLaws.{open_after-seen, IsFair-seen, chains_after-seen, now-seen, Adds-seen, can_append-seen}
use Rattle.sled_log.specs.LogState.{LogState, now, Adds, unplaced_state}

-- folding chains and folding them without their places agree
pub chains_after-unplaced : (chains : List Chain) (events : List (Event Entry)) → map messages_of (chains_after effect_of_entry chains events) ≡ chains_after effect_of (map messages_of chains) (unplaced_events events)
chains_after-unplaced = chains_after-seen effect_of_entry effect_of message_in (λ entry. refl)

pub is_open-unplaced : (events : List (Event Entry)) → is_open (unplaced_events events) ≡ is_open events
is_open-unplaced = open_after-seen message_in false

-- a cut is fair in the one if it is in the other
pub IsFair-unplaced : (events : List (Event Entry)) (cut : ℕ) → IsFair events cut → IsFair (unplaced_events events) cut
IsFair-unplaced = IsFair-seen message_in

-- what is added to the one is added to the other
pub Adds-unplaced : (old new : LogState Entry) (events : List (Event Entry)) → Adds effect_of_entry old events new → Adds effect_of (unplaced_state old) (unplaced_events events) (unplaced_state new)
Adds-unplaced = Adds-seen effect_of_entry effect_of message_in (λ entry. refl)

-- whether a batch is open is what the marks say
pub opened-Adds : (old new : LogState Entry) (events : List (Event Entry)) (begun : List (Event Message)) → unplaced_events events ≡ begun → Adds effect_of_entry old events new → is_open new.pending ≡ open_after (is_open old.pending) begun
opened-Adds old new events begun tells a =
    is_open-Adds effect_of_entry old new events a ∙ sym (open_after-seen message_in (is_open old.pending) events) ∙ ap (open_after (is_open old.pending)) tells

-- what the log holds now, and what may be appended to it
pub now-unplaced : (state : LogState Entry) → map messages_of (now effect_of_entry state) ≡ now effect_of (unplaced_state state)
now-unplaced = now-seen effect_of_entry effect_of message_in (λ entry. refl)

pub can_append-unplaced : (chains : List Chain) (pid : ℕ) (kind : MessageKind) → can_append effect_of (map messages_of chains) pid kind ≡ can_append effect_of_entry chains pid kind
can_append-unplaced = can_append-seen effect_of_entry effect_of message_in (λ entry. refl)
