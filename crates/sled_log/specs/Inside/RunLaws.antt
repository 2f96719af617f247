-- What calls of a log in a row make together.
use Rattle.std.proofs.Common.{◌≡◌, inl, inr, ⊎_elim, ◌≤◌, ℕ, Bool, true, List, [], ◌∷◌, ◌++◌, Result, Ok, Err, refl, sym, ◌∙◌, ap, subst, arith}
use Rattle.std.specs.Global.{Vec}
use Rattle.sled_base.specs.declared.kinds.MessageKind.{MessageKind}
use Rattle.sled_log.specs.Events.{is_open, open_after, Event, Change}
use Rattle.sled_log.specs.Calls.{Called, Counts, HasCause, begun_by, can_append}
use Rattle.sled_log.specs.Chains.{chains_after}
use Rattle.sled_log.specs.Inside.Laws.{Adds-none, Adds-then, IsLeft-more, CrashesSinceLeave-none, CrashesSinceLeave-then, now-Adds, is_open-Adds}
use Rattle.sled_log.specs.Messages.{Message, Entry, Messages, effect_of, effect_of_entry, unplaced_events}
use Rattle.sled_log.specs.Runs.{events_of, leaves_open, can_make}
use Rattle.sled_log.specs.LogState.{LogState, now, Adds, IsLeft, CrashesSinceLeave, unplaced_state}
use Rattle.sled_log.specs.Inside.UnplacedLaws.{Adds-unplaced, is_open-unplaced, now-unplaced, can_append-unplaced}
use Rattle.sled_log.specs.declared.log.LogError.{LogError}
use Rattle.sled_log.specs.declared.log.LogError.TheVariants.{Memory, Full, ReadFault, WriteFault, Corruption}
use Rattle.sled_log.specs.declared.runs.LogCall.{LogCall}
use Rattle.sled_log.specs.declared.runs.LogCall.TheVariants.{Append, MakeStable, Pin, Seal, Cancel}

-- what a crash finds of a call is part of what it adds
IsLeft-begun : {T : Type 0} (old : LogState Message) (result : Result T LogError) (begun : List (Event Message)) (pages : List Messages) → IsLeft effect_of old (begun_by result begun) pages → IsLeft effect_of old begun pages
IsLeft-begun old (Ok _) begun pages left = left
IsLeft-begun old (Err WriteFault) begun pages left = left
IsLeft-begun old (Err Memory) begun pages left = IsLeft-more effect_of old [] begun pages left
IsLeft-begun old (Err Full) begun pages left = IsLeft-more effect_of old [] begun pages left
IsLeft-begun old (Err ReadFault) begun pages left = IsLeft-more effect_of old [] begun pages left
IsLeft-begun old (Err Corruption) begun pages left = IsLeft-more effect_of old [] begun pages left

-- whether a batch is open after a call is what its events say
pub open-events : (batch : Bool) (call : LogCall) → open_after batch (events_of call) ≡ leaves_open batch call
open-events batch (Append kind pid payload) = refl
open-events batch MakeStable = refl
open-events batch Pin = refl
open-events batch Seal = refl
open-events batch Cancel = refl

-- an append, by the bytes that it is given
pub append-events : (call : LogCall) (kind : MessageKind) (pid : ℕ) (payload : Vec ℕ) (bytes : List ℕ) → call ≡ Append kind pid payload → bytes ≡ payload.items → (let message : Message = record { kind = kind; payload = bytes } in events_of call ≡ Change pid message ∷ [])
append-events call kind pid payload bytes is same =
    let event : List ℕ → List (Event Message) = λ bytes. Change pid (record { kind = kind; payload = bytes }) ∷ [] in
    ap events_of is ∙ ap event (sym same)

module _ {L : Type 0} (state : L → LogState Entry) (moment : L → ℕ) (left_since : L → ℕ → List Messages → Type 0) (counts : L → Counts) where
  pub CrashesSinceLeave-weaker : (old new : L) (P Q : List Messages → Type 0) → ((pages : List Messages) → P pages → Q pages) → CrashesSinceLeave moment left_since old new P → CrashesSinceLeave moment left_since old new Q
  CrashesSinceLeave-weaker old new P Q weaker stop = record {
    later = stop.later;
    each = λ pages left. weaker pages (stop.each pages left);
    before = λ t pages le left. ⊎_elim (λ l. inl l) (λ p. inr (weaker pages p)) (stop.before t pages le left);
    kept = stop.kept;
  }

  -- a call, without its places
  pub Called-stop : {T tells : Type 0} (old new : L) (count : ℕ) (events : T → List (Event Entry)) (begun : List (Event Message)) (result : Result T LogError)
      → tells → Called tells state moment left_since counts old new count events begun result
      → CrashesSinceLeave moment left_since old new (IsLeft effect_of (unplaced_state (state old)) begun)
  Called-stop old new count events begun result told called =
      CrashesSinceLeave-weaker old new (IsLeft effect_of (unplaced_state (state old)) (begun_by result begun)) (IsLeft effect_of (unplaced_state (state old)) begun) (IsLeft-begun (unplaced_state (state old)) result begun) (called.stop told)

  pub call-stop : {T tells : Type 0} (old new : L) (call : LogCall) (count : ℕ) (events : T → List (Event Entry)) (begun : List (Event Message)) (result : Result T LogError) → events_of call ≡ begun
      → tells → Called tells state moment left_since counts old new count events begun result
      → CrashesSinceLeave moment left_since old new (IsLeft effect_of (unplaced_state (state old)) (events_of call))
  call-stop old new call count events begun result is told called =
      subst (λ (l : List (Event Message)). CrashesSinceLeave moment left_since old new (IsLeft effect_of (unplaced_state (state old)) l)) (sym is) (Called-stop old new count events begun result told called)

  pub call-added : (old new : L) (call : LogCall) (events : List (Event Entry)) → events_of call ≡ unplaced_events events → Adds effect_of_entry (state old) events (state new) → Adds effect_of (unplaced_state (state old)) (events_of call) (unplaced_state (state new))
  call-added old new call events is added =
      subst (λ (l : List (Event Message)). Adds effect_of (unplaced_state (state old)) l (unplaced_state (state new))) (sym is) (Adds-unplaced (state old) (state new) events added)

  -- What calls in a row have made: the events were added, and a crash leaves a prefix of them.
  pub record Ran (old new : L) (events : List (Event Message)) : Type 0 where
    pub usable : (state new).usable ≡ true
    pub added : Adds effect_of (unplaced_state (state old)) events (unplaced_state (state new))
    pub stop : CrashesSinceLeave moment left_since old new (IsLeft effect_of (unplaced_state (state old)) events)
    pub failed_reads : (counts old).failed_reads ≤ (counts new).failed_reads
    pub write_faults : (counts old).write_faults ≤ (counts new).write_faults

  pub Ran-none : (log : L) → (state log).usable ≡ true → ((pages : List Messages) → left_since log (moment log) pages → IsLeft effect_of (unplaced_state (state log)) [] pages) → Ran log log []
  Ran-none log usable only = record {
    usable = usable;
    added = Adds-none effect_of (unplaced_state (state log));
    stop = CrashesSinceLeave-none moment left_since log (IsLeft effect_of (unplaced_state (state log)) []) only;
    failed_reads = omega arith;
    write_faults = omega arith;
  }

  pub Ran-stop : (old mid new : L) (first second : List (Event Message)) → Ran old mid first
      → CrashesSinceLeave moment left_since mid new (IsLeft effect_of (unplaced_state (state mid)) second)
      → CrashesSinceLeave moment left_since old new (IsLeft effect_of (unplaced_state (state old)) (first ++ second))
  Ran-stop old mid new first second ran stop = CrashesSinceLeave-then moment left_since old mid new (unplaced_state (state old)) (unplaced_state (state mid)) first second ran.added ran.stop stop

  -- one more call
  pub Ran-more : {T : Type 0} (old mid new : L) (first second : List (Event Message)) (answer : T) → Ran old mid first
      → (state new).usable ≡ true
      → Adds effect_of (unplaced_state (state mid)) second (unplaced_state (state new))
      → CrashesSinceLeave moment left_since mid new (IsLeft effect_of (unplaced_state (state mid)) second)
      → (let result : Result T LogError = Ok answer in HasCause (counts mid) (counts new) result)
      → Ran old new (first ++ second)
  Ran-more old mid new first second answer ran usable added stop cause = record {
    usable = usable;
    added = Adds-then effect_of (unplaced_state (state old)) (unplaced_state (state mid)) (unplaced_state (state new)) first second ran.added added;
    stop = Ran-stop old mid new first second ran stop;
    failed_reads = let a = ran.failed_reads in let b = cause.failed_reads in omega arith;
    write_faults = let a = ran.write_faults in let b = cause.write_faults in omega arith;
  }

-- whether a batch is open after one more call
pub open-call : (old new : LogState Entry) (call : LogCall) → Adds effect_of (unplaced_state old) (events_of call) (unplaced_state new) → is_open new.pending ≡ leaves_open (is_open old.pending) call
open-call old new call added =
    sym (is_open-unplaced new.pending) ∙ is_open-Adds effect_of (unplaced_state old) (unplaced_state new) (events_of call) added ∙ ap (λ b. open_after b (events_of call)) (is_open-unplaced old.pending) ∙ open-events (is_open old.pending) call

-- the pages after one more call
pub now-call : (old new : LogState Entry) (call : LogCall) → Adds effect_of (unplaced_state old) (events_of call) (unplaced_state new) → now effect_of (unplaced_state new) ≡ chains_after effect_of (now effect_of (unplaced_state old)) (events_of call)
now-call old new call added = now-Adds effect_of (unplaced_state old) (unplaced_state new) (events_of call) added

-- a call that may be made appends what may be appended
pub tells-call : (state : LogState Entry) (call : LogCall) (kind : MessageKind) (pid : ℕ) (payload : Vec ℕ) → call ≡ Append kind pid payload
    → can_make (now effect_of (unplaced_state state)) (is_open state.pending) call ≡ true
    → can_append effect_of_entry (now effect_of_entry state) pid kind ≡ true
tells-call state call kind pid payload is can =
    sym (can_append-unplaced (now effect_of_entry state) pid kind)
    ∙ ap (λ (pages : List Messages). can_append effect_of pages pid kind) (now-unplaced state)
    ∙ ap (can_make (now effect_of (unplaced_state state)) (is_open state.pending)) (sym is)
    ∙ can
