-- One record more behind a file.
use Rattle.std.proofs.Common.{◌≡◌, ◌≢◌, ℕ, ◌+◌, ◌^◌, ◌<◌, Bool, true, false, List, [], ◌∷◌, ◌++◌, length, map, refl, ap, sym, ◌∙◌, append_assoc, subst, pos}
use Rattle.std.specs.Prelude.{Some, None, Option, ◌==◌, Result, Err, IsErrOf}
use Rattle.std.specs.List.{list_all}
use Rattle.std.proofs.lemmas.Bool.{false≢true}
use Rattle.sled_base.specs.Kinds.{log_kind_of}
use Rattle.sled_base.specs.declared.kinds.MessageKind.{MessageKind}
use Rattle.sled_base.specs.declared.kinds.MessageKind.TheVariants as kinds
use Rattle.sled_base.specs.declared.types.DiskPtr.TheVariants.{Inline}
use Rattle.sled_log.specs.Calls.{can_append}
use Rattle.sled_log.specs.Events.{Event, Change}
use Rattle.sled_log.specs.LogState.{now}
use Rattle.sled_log.specs.Messages.{Entry, Chain, effect_of_entry, message, placed_entry}
use Rattle.sled_log.specs.Inside.SeenLaws.{can_append-seen}
use Rattle.sled_log.specs.declared.log.LogError.{LogError}
use Rattle.sled_log.specs.declared.log.LogError.TheVariants as errors
use Rattle.sled_disk.specs.declared.recovery.head.Head.{Head}
use Rattle.sled_disk.specs.Format.{Record, number_bytes, body, opening, frames_bytes, is_closing, is_changing, begin_record, closing_record, IsBytes}
use Rattle.sled_disk.specs.Pending.{is_own, pending_event, pending_events, batch_events, pending_in, state_in}
use Rattle.sled_disk.specs.PendingLaws.{pending-more}
use Rattle.sled_disk.specs.Reading.{step_head, may_stand, effect_of_head, entry_in, step, Made}
use Rattle.sled_disk.specs.EncodingLaws.{number_bytes-length}
use Rattle.sled_disk.specs.LogContents.{Stands, records_behind, inside_in}
use Rattle.sled_disk.specs.LogContentsLaws.{Parsed, parsed, stands, heads-stand, one-record, step-more}
use Rattle.sled_disk.specs.StepLaws.{IsTaken, changing, record_of, change-taken, begin-taken, closing-taken}

-- what may be appended is a change
pub is-change : (kind : MessageKind) (chains : List Chain) (pid place : ℕ) (payload : List ℕ) → can_append effect_of_entry chains pid kind ≡ true
    → pending_event place (record_of kind pid payload) ≡ Change pid (placed_entry (message kind payload) (pos place, Inline place, 17 + length payload)) ∷ []
is-change kinds.Free chains pid place payload h = refl
is-change kinds.Counter chains pid place payload h = refl
is-change kinds.InlineMeta chains pid place payload h = refl
is-change kinds.InlineNode chains pid place payload h = refl
is-change kinds.InlineLink chains pid place payload h = refl
is-change kinds.Corrupted chains pid place payload h = absurd (false≢true h)
is-change kinds.Canceled chains pid place payload h = absurd (false≢true h)
is-change kinds.Cap chains pid place payload h = absurd (false≢true h)
is-change kinds.BatchManifest chains pid place payload h = absurd (false≢true h)
is-change kinds.BlobMeta chains pid place payload h = absurd (false≢true h)
is-change kinds.BlobNode chains pid place payload h = absurd (false≢true h)
is-change kinds.BlobLink chains pid place payload h = absurd (false≢true h)

-- and may stand
can-stand : (kind : MessageKind) (chains : List (List Head)) (pid : ℕ) → can_append effect_of_head chains pid kind ≡ true → may_stand kind chains pid ≡ true
can-stand kinds.Free chains pid h = h
can-stand kinds.Counter chains pid h = h
can-stand kinds.InlineMeta chains pid h = h
can-stand kinds.InlineNode chains pid h = h
can-stand kinds.InlineLink chains pid h = h
can-stand kinds.Corrupted chains pid h = absurd (false≢true h)
can-stand kinds.Canceled chains pid h = absurd (false≢true h)
can-stand kinds.Cap chains pid h = absurd (false≢true h)
can-stand kinds.BatchManifest chains pid h = absurd (false≢true h)
can-stand kinds.BlobMeta chains pid h = absurd (false≢true h)
can-stand kinds.BlobNode chains pid h = absurd (false≢true h)
can-stand kinds.BlobLink chains pid h = absurd (false≢true h)

pub append-taken : (chains : List (List Head)) (pid : ℕ) (head : Head) → can_append effect_of_head chains pid head.kind ≡ true → step_head chains pid head ≢ None
unfolding step_head
append-taken chains pid head can none = let h = rw (can-stand head.kind chains pid can) at none in cc

-- what is pending with one record more
pub waiting-more : (seen : List ℕ) (gate : ℕ) (spilled : Bool) (buffer after : List ℕ) (r : Record) → records_behind after ≡ records_behind buffer ++ r ∷ []
    → pending_in seen gate spilled after ≡ pending_in seen gate spilled buffer ++ pending_event ((gate + 9) + length (body (records_behind buffer))) r
waiting-more seen gate spilled buffer after r records =
    let batch = batch_events spilled (inside_in seen) in
    ap (λ (rs : List Record). batch ++ pending_events (gate + 9) rs) records
    ∙ ap (λ (l : List (Event Entry)). batch ++ l) (pending-more (gate + 9) (records_behind buffer) r)
    ∙ sym (append_assoc batch (pending_events (gate + 9) (records_behind buffer)) (pending_event ((gate + 9) + length (body (records_behind buffer))) r))

module _ (seen : List ℕ) (gate : ℕ) (spilled : Bool) (buffer : List ℕ) (batch : Option ℕ) (heads : List (List Head)) (fits : IsBytes seen) (s : Stands seen gate spilled (records_behind buffer) batch heads) where
  abbrev rs : List Record
  rs = records_behind buffer

  pub p : Parsed seen gate spilled rs batch heads
  p = parsed seen gate spilled rs batch heads fits s

  -- the bytes of the file up to its gate, and of the records
  abbrev pub bytes : List ℕ
  bytes = opening ++ (frames_bytes p.frames ++ 0 ∷ (number_bytes 0 ++ body rs))

  -- the heads stand for what the log holds
  pub heads-now : (usable : Bool) → list_all is_own rs ≡ true → map (map (entry_in bytes)) heads ≡ now effect_of_entry (state_in seen gate spilled buffer usable)
  heads-now usable own = heads-stand seen gate spilled rs batch heads p bytes (number_bytes 0) (number_bytes-length 0) refl own

  -- what may be appended to what the log holds may be appended to its heads
  pub can-heads : (usable : Bool) (kind : MessageKind) (pid : ℕ) → list_all is_own rs ≡ true → can_append effect_of_entry (now effect_of_entry (state_in seen gate spilled buffer usable)) pid kind ≡ true → can_append effect_of_head heads pid kind ≡ true
  can-heads usable kind pid own can =
      sym (can_append-seen effect_of_head effect_of_entry (entry_in bytes) (λ head. refl) heads pid kind) ∙ ap (λ (l : List Chain). can_append effect_of_entry l pid kind) (heads-now usable own) ∙ can

  -- a record that was taken stands
  taken-stands : (r : Record) (place : ℕ) (after : List ℕ) (batch_then : Option ℕ) (last : List (List Head)) → place ≡ (gate + 9) + length (body rs) → IsTaken p.last batch_then place r false last → records_behind after ≡ rs ++ r ∷ []
      → Stands seen gate spilled (records_behind after) batch_then last
  taken-stands r place after batch_then last at t records =
      let here = subst (λ n. step p.last n r false ≡ Some t.next) at t.taken in
      subst (λ (l : List Record). Stands seen gate spilled l batch_then last) (sym records)
      (stands seen gate spilled (rs ++ r ∷ []) batch_then last
      (one-record seen gate spilled rs batch batch_then heads last r p t.next (step-more p.last ((gate + 9) + length (body rs)) r false _ t.next (λ no. absurd (false≢true no)) here) t.ends t.all))

  pub change-stands : (kind : MessageKind) (pid place : ℕ) (payload after : List ℕ) (last : List (List Head)) → place ≡ (gate + 9) + length (body rs) → is_changing (log_kind_of kind) ≡ true
      → step_head heads pid (record { kind = kind; place = place; len = length payload }) ≡ Some last → records_behind after ≡ rs ++ record_of kind pid payload ∷ [] → Stands seen gate spilled (records_behind after) batch last
  change-stands kind pid place payload after last at is made records =
      taken-stands (record_of kind pid payload) place after batch last at (change-taken p.last batch place kind pid payload heads last p.ends p.all (changing kind is) made) records

-- ---- batches

pub pin-stands : (seen : List ℕ) (gate : ℕ) (spilled : Bool) (buffer after : List ℕ) (batch : Option ℕ) (place : ℕ) (heads : List (List Head)) → IsBytes seen → batch ≡ None → place ≡ (gate + 9) + length (body (records_behind buffer))
    → Stands seen gate spilled (records_behind buffer) batch heads → records_behind after ≡ records_behind buffer ++ begin_record ∷ [] → Stands seen gate spilled (records_behind after) (Some place) heads
pin-stands seen gate spilled buffer after batch place heads fits closed at s records =
    let t : Stands seen gate spilled (records_behind buffer) None heads = subst (λ (b : Option ℕ). Stands seen gate spilled (records_behind buffer) b heads) closed s in
    let q = p seen gate spilled buffer None heads fits t in
    taken-stands seen gate spilled buffer None heads fits t begin_record place after (Some place) heads at (begin-taken q.last place heads q.ends q.all) records

pub closing-stands : (seen : List ℕ) (gate : ℕ) (spilled : Bool) (buffer after : List ℕ) (batch : Option ℕ) (begin kind : ℕ) (heads : List (List Head)) → IsBytes seen → batch ≡ Some begin → begin < 2 ^ 64 → is_closing kind ≡ true → kind == 14 ≡ false
    → Stands seen gate spilled (records_behind buffer) batch heads → records_behind after ≡ records_behind buffer ++ closing_record kind begin ∷ [] → Stands seen gate spilled (records_behind after) None heads
closing-stands seen gate spilled buffer after batch begin kind heads fits opened small closing kept s records =
    let t : Stands seen gate spilled (records_behind buffer) (Some begin) heads = subst (λ (b : Option ℕ). Stands seen gate spilled (records_behind buffer) b heads) opened s in
    let q = p seen gate spilled buffer (Some begin) heads fits t in
    let place = (gate + 9) + length (body (records_behind buffer)) in
    taken-stands seen gate spilled buffer (Some begin) heads fits t (closing_record kind begin) place after None heads refl (closing-taken q.last begin place kind heads small closing kept q.ends q.all) records

-- ---- answers of the code

pub made-none : {S : Type 0} (e : LogError) (now : S) (part : Option S) → Made {T = Unit {0}} (Err e) now part → e ≡ errors.Corruption → part ≡ None
made-none errors.Memory now part h is = absurd cc
made-none errors.Corruption now part h is = h
made-none errors.Full now part h is = absurd h
made-none errors.ReadFault now part h is = absurd h
made-none errors.WriteFault now part h is = absurd h

pub same-error : {T : Type 0} (result : Result T LogError) (e wanted : LogError) → result ≡ Err e → IsErrOf result wanted → e ≡ wanted
same-error result e wanted is h = cc
