-- What the write of the pending records makes of a file.
use Rattle.std.proofs.Common.{◌≡◌, ◌≢◌, ℤ, ◌-◌, inl, inr, ⊎_elim, ℕ, ◌+◌, ◌^◌, ◌<◌, ◌≤◌, Bool, true, false, List, [], ◌∷◌, ◌++◌, length, take, drop, refl, ap, sym, ◌∙◌, subst, append_assoc, arith}
use Rattle.std.specs.Prelude.{Option, Some, None, Result, Ok, Err, OnOk, OnErr, is_ok, if◌then◌else◌, nat_le}
use Rattle.std.proofs.lemmas.Bool.{cases_lt, le-leb, leb-true}
use Rattle.sled_base.specs.declared.kinds.MessageKind.{MessageKind}
use Rattle.sled_base.specs.declared.types.DiskPtr.{DiskPtr}
use Rattle.sled_log.specs.Calls.{can_append}
use Rattle.sled_log.specs.Events.{Event, Change}
use Rattle.std.specs.List.{AllByRecursion, list_all}
use Rattle.sled_disk.specs.declared.recovery.head.Head.{Head}
use Rattle.sled_disk.specs.declared.format.next_frame.NextFrame.{NextFrame}
use Rattle.sled_disk.specs.PendingFrame.{batch_of, place_of, said_of, records_with, events_of, events_with}
use Rattle.sled_disk.specs.StepLaws.{record_of}
use Rattle.sled_disk.proofs.Frames.RecordAppend.{waiting-more, is-change}
use Rattle.sled_disk.specs.Crash.{BytesLeft, IsClosed, IsShutOrOpened, IsWhole}
use Rattle.sled_log.specs.Messages.{Entry, Chain, effect_of_entry, message, placed_entry}
use Rattle.sled_disk.specs.AppendedFrame.{MayFollow, IsWritten}
use Rattle.sled_disk.specs.AppendedFrameLaws.{behind-gate, one-more}
use Rattle.sled_disk.specs.Format.{opening, frames_bytes, Record, Fits, Begun, number_bytes, body, room_for, Describes, IsBytes}
use Rattle.sled_disk.specs.RecoveredHeads.{AreRead}
use Rattle.sled_disk.specs.Pending.{frame_in, frame_size, is_own, open_by, room_after, pending_event, pending_events, pending_in, batch_events}
use Rattle.sled_disk.specs.PendingLaws.{Settles, settles}
use Rattle.sled_disk.specs.Reading.{Read, records_of, frames_of}
use Rattle.sled_disk.specs.RecoveredLog.{IsEither}
use Rattle.sled_disk.specs.RecoveredLogLaws.{none-behind, read-stands, stands-closed}
use Rattle.sled_disk.specs.LogContents.{Stands, or_none, records_behind, events_in, progress_in, progress_then, inside_in, is_begun}
use Rattle.sled_disk.specs.LogContentsLaws.{Parsed, IsFile, frames-more, parsed, stands, described, may-follow, one-frame, is_open_by, begins-is, spilled-is, described-begun, frame-says, progress-then}
use Rattle.sled_disk.specs.EncodingLaws.{number_bytes-length}
use Rattle.sled_disk.proofs.Frames.PendingBuffer.{waits, waits-length, place-is}

pub on_ok_by : {T E A : Type 0} (r : Result T E) → (is_ok r ≡ true → A) → OnOk r A
on_ok_by (Ok x) k = k refl
on_ok_by (Err e) k = tt

pub on_ok : {T E A : Type 0} (r : Result T E) → OnOk r A → is_ok r ≡ true → A
on_ok (Ok x) a h = a
on_ok (Err e) a h = absurd cc

pub on_ok_map : {T E A B : Type 0} (r : Result T E) → (A → B) → OnOk r A → OnOk r B
on_ok_map (Ok x) f a = f a
on_ok_map (Err e) f a = _

-- what was read stands, with an empty buffer behind it
pub new-stands : (seen buffer : List ℕ) (gate : ℕ) (read : Read) → length buffer ≤ 8 → IsBytes seen → AreRead seen gate read → read.begun ≡ None → Stands seen gate false (records_behind buffer) None read.settled
new-stands seen buffer gate read le fits are closed = subst (λ (rs : List Record). Stands seen gate false rs None read.settled) (sym (none-behind buffer le)) (read-stands seen gate read fits are closed)

pub closes : (seen : List ℕ) (gate : ℕ) (spilled : Bool) (rs : List Record) (batch : Option ℕ) (heads : List (List Head)) → IsBytes seen → Stands seen gate spilled rs batch heads → IsClosed gate seen
closes seen gate spilled rs batch heads fits s = stands-closed seen gate spilled rs batch heads fits s

-- ---- the batch that is open

pub open-is : (next : NextFrame) → is_open_by (batch_of next) ≡ next.batch
open-is next = by next.batch
  where
    by : (b : Bool) → is_open_by (if b then Some next.batch_place else None) ≡ b
    by true = refl
    by false = refl

pub room-small : (next : NextFrame) → next.gate + 1 + length next.buffer.items + room_after next.batch < 2 ^ 63 → next.gate + 1 + length next.buffer.items + room_after (is_open_by (batch_of next)) < 2 ^ 63
room-small next small = subst (λ (b : Bool). next.gate + 1 + length next.buffer.items + room_after b < 2 ^ 63) (sym (open-is next)) small

pub open-by-batch : (old new : NextFrame) → new.batch ≡ old.batch → new.batch_place ≡ old.batch_place → batch_of new ≡ batch_of old
open-by-batch old new batch place = ap (λ b. if b then Some new.batch_place else None) batch ∙ ap (λ n. if old.batch then Some n else None) place

pub open-batch : (next : NextFrame) → next.batch ≡ true → batch_of next ≡ Some next.batch_place
open-batch next is = ap (λ b. if b then Some next.batch_place else None) is

pub closed-batch : (next : NextFrame) → next.batch ≡ false → batch_of next ≡ None
closed-batch next is = ap (λ b. if b then Some next.batch_place else None) is

-- the same batch, or none in both
pub flag-of : (a b : NextFrame) → batch_of a ≡ batch_of b → a.batch ≡ b.batch
flag-of a b same = sym (open-is a) ∙ ap is_open_by same ∙ open-is b

room-is : {E : Type 0} (b : Option (Begun E)) → room_for b ≡ room_after (is_begun b)
room-is None = refl
room-is (Some b) = refl

module _ (seen : List ℕ) (gate : ℕ) (spilled : Bool) (buffer : List ℕ) (batch : Option ℕ) (heads : List (List Head)) (fits : IsBytes seen) (s : Stands seen gate spilled (records_behind buffer) batch heads)
    (are : IsBytes buffer) (read : records_of (drop 8 buffer) ≡ Some (records_behind buffer)) (long : 8 < length buffer) (small : gate + 1 + length buffer + room_after (is_open_by batch) < 2 ^ 63) where
  abbrev rs : List Record
  rs = records_behind buffer

  front : 8 ≤ length buffer
  front = omega (arith, long)

  is-body : drop 8 buffer ≡ body rs
  is-body = (waits buffer are read).0

  all-fit : AllByRecursion Fits rs
  all-fit = (waits buffer are read).1

  some : rs ≢ []
  some e = absurd (let l = waits-length buffer are front read in let k : length (body rs) ≡ 0 = ap (λ (x : List Record). length (body x)) e in omega (arith, long, l, k))

  place : gate + 1 + length buffer ≡ gate + (9 + length (body rs))
  place = omega (arith, waits-length buffer are front read)

  p : Parsed seen gate spilled rs batch heads
  p = parsed seen gate spilled rs batch heads fits s

  room : room_for p.last.begun ≡ room_after (is_open_by batch)
  room = room-is p.last.begun ∙ ap room_after (begins-is batch p.last.begun p.ends)

  end : gate + (9 + length (body rs)) + room_for p.last.begun < 2 ^ 63
  end = omega (arith, small, place, room)

  pub frame-is : (rest : List ℕ) → frame_in buffer ++ rest ≡ (number_bytes (length (body rs)) ++ body rs) ++ 0 ∷ rest
  frame-is rest = ap (λ (d : List ℕ). ((number_bytes (length d) ++ d) ++ 0 ∷ []) ++ rest) is-body ∙ append_assoc (number_bytes (length (body rs)) ++ body rs) (0 ∷ []) rest

  written : (byte : ℕ) (rest after : List ℕ) → after ≡ take gate seen ++ byte ∷ (frame_in buffer ++ rest) → IsWritten gate seen (record { gate = byte; records = rs }) after
  written byte rest after is = (rest, is ∙ ap (λ (l : List ℕ). take gate seen ++ byte ∷ l) (frame-is rest))

  opened-means : (byte : ℕ) (rest after : List ℕ) → byte ≢ 0 → after ≡ take gate seen ++ byte ∷ (frame_in buffer ++ rest) → Describes after (progress_then seen gate rs).settled
  opened-means byte rest after opens is =
      (gate + (9 + length (body rs)), one-more gate seen (events_in seen) (progress_then seen gate rs).settled (record { gate = byte; records = rs }) after (described seen gate spilled rs batch heads p) (subst (λ (b : Option (Begun Entry)). MayFollow gate (events_in seen) b (record { gate = byte; records = rs }) (progress_then seen gate rs).settled) (sym (described-begun seen gate spilled rs batch heads p)) (may-follow seen gate spilled rs batch heads p byte opens some all-fit end)) (written byte rest after is))

  -- what a crash leaves of the write
  pub before-or-after : (left : List ℕ) → IsShutOrOpened gate (frame_in buffer) seen left → IsEither (events_in seen) (progress_then seen gate rs).settled left
  before-or-after left (inl shut) = inl (gate, behind-gate gate seen left (events_in seen) (described seen gate spilled rs batch heads p) shut)
  before-or-after left (inr (byte, rest, opens, is)) = inr (opened-means byte rest left opens is)

  opens-one : ◌≢◌ {A = ℕ} 1 0
  opens-one e = absurd (omega (arith, e))

  pub after-parsed : (after : List ℕ) → IsWhole gate (frame_in buffer) seen after → Parsed after (gate + (9 + length (body rs))) (is_open_by batch) [] batch heads
  after-parsed after (rest, is) = one-frame seen after gate spilled rs batch heads 1 opens-one p some all-fit end (written 1 rest after is)

  -- what was written stands
  pub written-stands : (after next : List ℕ) → length next ≤ 8 → IsWhole gate (frame_in buffer) seen after → Stands after (gate + 1 + length buffer) (is_open_by batch) (records_behind next) batch heads
  written-stands after next le whole =
      subst (λ n. Stands after n (is_open_by batch) (records_behind next) batch heads) (sym place)
      (subst (λ (l : List Record). Stands after (gate + (9 + length (body rs))) (is_open_by batch) l batch heads) (sym (none-behind next le)) (stands after (gate + (9 + length (body rs))) (is_open_by batch) [] batch heads (after-parsed after whole)))

  -- and what it says is what was said then
  pub written-says : (after : List ℕ) → IsWhole gate (frame_in buffer) seen after → progress_in after ≡ progress_then seen gate rs
  written-says after (rest, is) = frame-says seen after gate spilled rs batch heads 1 opens-one p some all-fit end (written 1 rest after is)

  -- what counts then, and what stays pending
  pub settles-then : list_all is_own rs ≡ true → Settles (progress_in seen) (progress_then seen gate rs) (pending_events (gate + 9) rs)
  settles-then own =
      let bytes : List ℕ = opening ++ (frames_bytes p.frames ++ 0 ∷ (number_bytes 0 ++ body rs)) in
      settles (gate + 9) (progress_in seen) (progress_then seen gate rs) rs own (progress-then seen gate spilled rs batch heads p bytes (number_bytes 0) (number_bytes-length 0) refl).0

  pub begins-now : is_begun (progress_in seen).begun ≡ spilled
  begins-now = spilled-is seen gate spilled rs batch heads p

  -- as one frame more of the file
  pub written-frames : (after : List ℕ) → IsWhole gate (frame_in buffer) seen after → or_none (frames_of (drop 8 after)) ≡ or_none (frames_of (drop 8 seen)) ++ record { gate = 1; records = rs } ∷ []
  written-frames after (rest, is) =
      let file : IsFile seen gate p.before = record { frames = p.frames; each = p.each; rest = p.rest; is = p.is; opened = p.opened } in
      frames-more seen after gate p.before p.last rs 1 opens-one file p.made some all-fit end (written 1 rest after is)

-- each crash state has what P says
pub left-so : {D : Type 0} {moment : D → ℕ} {left_since : D → ℕ → List ℕ → Type 0} {old new : D} (P Q : List ℕ → Type 0) → ((left : List ℕ) → P left → Q left) → BytesLeft moment left_since old new P → BytesLeft moment left_since old new Q
left-so P Q so l = record {
  later = l.later;
  each = λ left was. so left (l.each left was);
  before = λ t left le was. ⊎_elim (λ earlier. inl earlier) (λ now. inr (so left now)) (l.before t left le was);
  kept = l.kept;
}

pub on_err : {T E A : Type 0} (r : Result T E) → A → OnErr r A
on_err (Ok x) a = _
on_err (Err e) a = a

-- ---- a message more, and what waits

pub change-waits : (next : NextFrame) (kind : MessageKind) (pid : ℕ) (payload : List ℕ) (said : ℤ × DiskPtr × ℕ) (seen after : List ℕ) → records_behind after ≡ records_with next kind pid payload → (chains : List Chain) → can_append effect_of_entry chains pid kind ≡ true → said ≡ said_of next payload
    → pending_in seen next.gate next.spilled after ≡ pending_in seen next.gate next.spilled next.buffer.items ++ Change pid (placed_entry (message kind payload) said) ∷ []
change-waits next kind pid payload said seen after records chains can is =
    let at = place-is next.gate next.buffer.items next.are_bytes next.front next.parsed in
    waiting-more seen next.gate next.spilled next.buffer.items after (record_of kind pid payload) records
    ∙ ap (λ n. pending_in seen next.gate next.spilled next.buffer.items ++ pending_event n (record_of kind pid payload)) (sym at)
    ∙ ap (λ (l : List (Event Entry)). pending_in seen next.gate next.spilled next.buffer.items ++ l) (is-change kind chains pid (place_of next) payload can)
    ∙ ap (λ said. pending_in seen next.gate next.spilled next.buffer.items ++ Change pid (placed_entry (message kind payload) said) ∷ []) (sym is)

pub events-added : (seen then_seen : List ℕ) (old new : NextFrame) (kind : MessageKind) (pid : ℕ) (payload : List ℕ) → then_seen ≡ seen → new.gate ≡ old.gate → records_behind new.buffer.items ≡ records_with old kind pid payload → events_of then_seen new ≡ events_with seen old kind pid payload
events-added seen then_seen old new kind pid payload same gate records =
    ap (λ (l : List ℕ). (progress_then l new.gate (records_behind new.buffer.items)).settled) same
    ∙ ap (λ n. (progress_then seen n (records_behind new.buffer.items)).settled) gate
    ∙ ap (λ (rs : List Record). (progress_then seen old.gate rs).settled) records

-- whether the file ends inside a batch
pub begins-after : (seen : List ℕ) (next : NextFrame) (heads : List (List Head)) → IsBytes seen → Stands seen next.gate next.spilled (records_behind next.buffer.items) (batch_of next) heads → is_begun (progress_in seen).begun ≡ next.spilled
begins-after seen next heads fits s = spilled-is seen next.gate next.spilled (records_behind next.buffer.items) (batch_of next) heads (parsed seen next.gate next.spilled (records_behind next.buffer.items) (batch_of next) heads fits s)

-- nothing waits where no record does and no batch is open
pub none-waits : (seen : List ℕ) (next : NextFrame) → length next.buffer.items ≤ 8 → open_by next.spilled (records_behind next.buffer.items) ≡ false → pending_in seen next.gate next.spilled next.buffer.items ≡ []
none-waits seen next le closed =
    let none = none-behind next.buffer.items le in
    ap (λ (rs : List Record). batch_events next.spilled (inside_in seen) ++ pending_events (next.gate + 9) rs) none
    ∙ ap (λ b. batch_events b (inside_in seen) ++ []) (sym (ap (open_by next.spilled) none) ∙ closed)

-- ---- what is to write

pub size-zero : (buffer : List ℕ) → length buffer ≤ 8 → frame_size buffer ≡ 0
size-zero buffer le = rw (le-leb (length buffer) 8 le) refl

pub size-some : (buffer : List ℕ) → 8 < length buffer → frame_size buffer ≢ 0
size-some buffer lt is = by (nat_le (length buffer) 8) refl is
  where
    by : (b : Bool) → nat_le (length buffer) 8 ≡ b → (if b then 0 else length buffer - 8 + 10) ≡ 0 → ⊥
    by true e h = let le = leb-true (length buffer) 8 e in absurd (omega (arith, le, lt))
    by false e h = absurd (omega (arith, h))

pub size-none : (buffer : List ℕ) → frame_size buffer ≡ 0 → length buffer ≤ 8
size-none buffer is = by (nat_le (length buffer) 8) refl is
  where
    by : (b : Bool) → nat_le (length buffer) 8 ≡ b → (if b then 0 else length buffer - 8 + 10) ≡ 0 → length buffer ≤ 8
    by true e h = leb-true (length buffer) 8 e
    by false e h = absurd (omega (arith, h))

pub size-not : (buffer : List ℕ) → frame_size buffer ≢ 0 → 8 < length buffer
size-not buffer not = ⊎_elim (λ lt. lt) (λ le. absurd (not (size-zero buffer le))) (cases_lt 8 (length buffer))
