-- Where a log goes on to look for a message to be named, and what it has still to name.
use Rattle.std.proofs.Common.{◌≡◌, ◌⊎◌, inl, inr, ⊎_elim, ℕ, ◌+◌, ◌-◌, ◌≤◌, ◌<◌, ◌^◌, List, [], ◌∷◌, ◌++◌, Bool, true, false, length, take, drop, refl, ap, sym, ◌∙◌, subst, arith}
use Rattle.std.specs.Prelude.{Option, Some, None, Result, Ok, Err, IfErr, IsErrOf, nat_lt, ◌==◌, ◌&&◌, if◌then◌else◌}
use Rattle.std.specs.List.{AllByRecursion, list_all}
use Rattle.std.proofs.lemmas.Bool.{cases_lt}
use Rattle.std.proofs.lemmas.List.{take-append-drop, length-take, append-nil}
use Rattle.sled_disk.specs.declared.recovery.head.Head.{Head}
use Rattle.sled_disk.specs.declared.format.record.RawHead.{RawHead}
use Rattle.sled_disk.specs.Cursor.{is_among, IsAmong, IsFront}
use Rattle.sled_disk.specs.CountedMessages.{placed, placed_in, placed_from, counted_messages, IsLooked}
use Rattle.sled_disk.specs.Format.{opening, Record, Fits, Frame, size, number, body, is_closing, said_by, IsBytes}
use Rattle.sled_disk.specs.MeaningLaws.{gate_after}
use Rattle.sled_log.specs.Calls.{Counts, HasGrown}
use Rattle.sled_log.specs.Moves.{Moves}
use Rattle.sled_log.specs.declared.log.LogError.{LogError}
use Rattle.sled_log.specs.declared.log.LogError.TheVariants.{ReadFault, Corruption}
use Rattle.sled_disk.specs.declared.disk.Disk.{Ghosts}
use Rattle.sled_disk.specs.declared.log.DiskLog.{DiskLog}
use Rattle.sled_disk.specs.declared.log.names.Names.{Names}
use Rattle.sled_disk.specs.declared.format.next_frame.NextFrame.{NextFrame}
use Rattle.sled_disk.specs.Names.{messages_in, all_messages, from_place, one_or_none, moves_in, looks_at, frame_of, behind_gate, behind_begin, behind_closing, behind_record, IsStep}
use Rattle.sled_disk.specs.DiskReads.{ReadFaults}
use Rattle.sled_disk.specs.PendingFrame.{batch_of}
use Rattle.sled_disk.specs.Reading.{chains_of, frames_of, records_of}
use Rattle.sled_disk.specs.Pending.{is_own, batch_events, pending_events, pending_in}
use Rattle.sled_disk.specs.LogContents.{or_none, Stands, events_in, progress_in, inside_of, records_behind}
use Rattle.sled_disk.specs.LogContentsLaws.{Parsed, parsed, ends-at, gate-small, frames-read, progress-in, spilled-is}
use Rattle.sled_disk.proofs.Moves.RecordPlaces.{StandsIn, stands, is-among, InFrame, IsDurable, in-frame, from-inside, Here, here, front-says, between-least, between-most, records-dropped}
use Rattle.sled_disk.proofs.Moves.CountedMessages.{all-count}
use Rattle.sled_disk.proofs.Moves.SearchProgress.{passed_by, went-record, went-gate, went-end, none-left, looks-alike}
use Rattle.sled_disk.proofs.Frames.PendingBuffer.{waits, place-is}

-- what a log on a disk that tells its bytes keeps of its file, of what is pending, and of the place up to which it looked for messages
pub record IsKept (seen : List ℕ) (gate : ℕ) (buffer : List ℕ) (at_gate at : ℕ) : Type 0 where
  pub spilled : Bool
  pub batch : Option ℕ
  pub heads : List (List Head)
  pub fits : IsBytes seen
  pub stands : Stands seen gate spilled (records_behind buffer) batch heads
  pub own : list_all is_own (records_behind buffer) ≡ true
  pub are_bytes : IsBytes buffer
  pub front : 8 ≤ length buffer
  pub parsed : records_of (drop 8 buffer) ≡ Some (records_behind buffer)
  pub stood : IsAmong seen (records_behind buffer) at_gate at

-- the frame ends there, as it is read
abbrev pub IsEnd : List ℕ → ℕ → List ℕ → ℕ → ℕ → Type 0
IsEnd seen gate buffer at_gate end = (at_gate < gate → end ≡ at_gate + 9 + number (take 8 (drop (at_gate + 1) seen))) × (gate ≤ at_gate → end ≡ gate + 1 + length buffer)

-- the head of the record that stands there, as it is read
abbrev pub IsHead : List ℕ → ℕ → List ℕ → ℕ → RawHead → ℕ → Type 0
IsHead seen gate buffer at raw len = (at ≤ gate → IsFront (drop at seen) raw len) × (gate < at → IsFront (drop (at - (gate + 1)) buffer) raw len)

-- a record was gone over
pub record Passed (seen : List ℕ) (gate : ℕ) (buffer : List ℕ) (at_gate at : ℕ) (raw : RawHead) (len : ℕ) : Type 0 where
  pub it : Record
  pub kind : raw.kind ≡ it.kind
  pub page : raw.page ≡ it.id
  pub among : IsAmong seen (records_behind buffer) at_gate (at + (17 + len))
  pub records : placed_from at (placed_in seen (records_behind buffer)) ≡ (at, it) ∷ placed_from (at + (17 + len)) (placed_in seen (records_behind buffer))
  pub within : at + (17 + len) ≤ gate + 1 + length buffer

-- its frames end at the gate
pub frames-end : (seen : List ℕ) (gate : ℕ) (spilled : Bool) (rs : List Record) (batch : Option ℕ) (heads : List (List Head)) → IsBytes seen → Stands seen gate spilled rs batch heads → gate_after 8 (or_none (frames_of (drop 8 seen))) ≡ gate
frames-end seen gate spilled rs batch heads fits stands =
    let p : Parsed seen gate spilled rs batch heads = parsed seen gate spilled rs batch heads fits stands in
    ap (gate_after 8) (frames-read seen gate spilled rs batch heads p) ∙ ends-at seen gate spilled rs batch heads p

-- what a log says is what counts of its records
pub counted-all : (seen : List ℕ) (gate : ℕ) (spilled : Bool) (buffer : List ℕ) (batch : Option ℕ) (heads : List (List Head)) → IsBytes seen → Stands seen gate spilled (records_behind buffer) batch heads → list_all is_own (records_behind buffer) ≡ true
    → counted_messages true (placed_in seen (records_behind buffer)) ≡ messages_in (events_in seen ++ pending_in seen gate spilled buffer)
counted-all seen gate spilled buffer batch heads fits stands own =
    let rs = records_behind buffer in
    let p : Parsed seen gate spilled rs batch heads = parsed seen gate spilled rs batch heads fits stands in
    let frames = or_none (frames_of (drop 8 seen)) in
    let frames_are : frames ≡ p.frames = frames-read seen gate spilled rs batch heads p in
    let q = progress_in seen in
    all-count frames q rs (ap said_by frames_are ∙ (progress-in seen gate spilled rs batch heads p seen (0 ∷ p.rest) p.is).0) own
    ∙ ap (λ b. messages_in (q.settled ++ (batch_events b (inside_of q.begun) ++ pending_events (gate_after 8 frames + 9) rs))) (spilled-is seen gate spilled rs batch heads p)
    ∙ ap (λ n. messages_in (q.settled ++ (batch_events spilled (inside_of q.begun) ++ pending_events (n + 9) rs))) (ap (gate_after 8) frames_are ∙ ends-at seen gate spilled rs batch heads p)

module _ {seen : List ℕ} {gate : ℕ} {buffer : List ℕ} {at_gate at : ℕ} (k : IsKept seen gate buffer at_gate at) where
  abbrev pub frames : List Frame
  frames = or_none (frames_of (drop 8 seen))

  abbrev pub rs : List Record
  rs = records_behind buffer

  abbrev pub all : List (ℕ × Record)
  all = placed_in seen rs

  p : Parsed seen gate k.spilled rs k.batch k.heads
  p = parsed seen gate k.spilled rs k.batch k.heads k.fits k.stands

  frames-are : frames ≡ p.frames
  frames-are = frames-read seen gate k.spilled rs k.batch k.heads p

  gate-is : gate_after 8 frames ≡ gate
  gate-is = ap (gate_after 8) frames-are ∙ ends-at seen gate k.spilled rs k.batch k.heads p

  pub small : gate < 2 ^ 63
  small = gate-small seen gate k.spilled rs k.batch k.heads p

  long : gate + 1 + length buffer ≡ (gate + 9) + length (body rs)
  long = place-is gate buffer k.are_bytes k.front k.parsed

  pub f : InFrame seen 8 frames rs at_gate at
  f = subst (λ (l : List Frame). InFrame seen 8 l rs at_gate at) (sym frames-are)
      (in-frame seen opening 8 p.frames rs (0 ∷ p.rest) at_gate at p.each p.is refl (stands 8 p.frames rs at_gate at (subst (λ (l : List Frame). is_among 8 l rs at_gate at ≡ true) frames-are k.stood.known)))

  least : at_gate + 9 ≤ at
  least = between-least (at_gate + 9) f.records at f.place

  most : at ≤ at_gate + 9 + length (body f.records)
  most = between-most (at_gate + 9) f.records at f.place

  abbrev inside : List (ℕ × Record)
  inside = placed (at_gate + 9) f.records

  from : (n : ℕ) → at_gate + 9 ≤ n → n ≤ at_gate + (9 + length (body f.records)) + 9 → placed_from n all ≡ placed_from n inside ++ f.behind
  from n l m = from-inside seen 8 frames rs at_gate at f n l m

  -- the frame is one of the file where its gate stands before the last, and else the pending one
  pub is-durable : at_gate < gate → IsDurable seen 8 frames rs at_gate f.records
  is-durable lt = ⊎_elim (λ d. d) (λ (x : (at_gate ≡ gate_after 8 frames) × (f.records ≡ rs) × (f.behind ≡ [])). absurd (let same = x.0 ∙ gate-is in omega (arith, same, lt))) f.either

  pub is-pending : gate ≤ at_gate → (at_gate ≡ gate) × (f.records ≡ rs) × (f.behind ≡ [])
  is-pending le = ⊎_elim (λ (d : IsDurable seen 8 frames rs at_gate f.records). absurd (let ends = d.ends in let same = gate-is in omega (arith, ends, same, le))) (λ (x : (at_gate ≡ gate_after 8 frames) × (f.records ≡ rs) × (f.behind ≡ [])). (x.0 ∙ gate-is, x.1, x.2)) f.either

  -- no more than all of them
  pub within : at ≤ gate + 1 + length buffer
  within = ⊎_elim
      (λ (d : IsDurable seen 8 frames rs at_gate f.records). let ends = d.ends in let same = gate-is in let m = most in omega (arith, ends, same, m))
      (λ (x : (at_gate ≡ gate_after 8 frames) × (f.records ≡ rs) × (f.behind ≡ [])). let same = x.0 ∙ gate-is in let m = most in let l = long in let records = ap (λ (l : List Record). length (body l)) x.1 in omega (arith, same, m, l, records)) f.either

  -- where a frame of the file ends
  pub durable-end : at_gate < gate → at_gate + 9 + number (take 8 (drop (at_gate + 1) seen)) ≤ gate
  durable-end lt = let d = is-durable lt in let ends = d.ends in let same = gate-is in let len = d.len in omega (arith, ends, same, len)

  module _ (end : ℕ) (is_end : IsEnd seen gate buffer at_gate end) where
    pub end-is : end ≡ at_gate + 9 + length (body f.records)
    end-is = ⊎_elim
        (λ (d : IsDurable seen 8 frames rs at_gate f.records). let ends = d.ends in let same = gate-is in let len = d.len in let e = is_end.0 (omega (arith, ends, same)) in omega (arith, e, len))
        (λ (x : (at_gate ≡ gate_after 8 frames) × (f.records ≡ rs) × (f.behind ≡ [])). let same = x.0 ∙ gate-is in let l = long in let records = ap (λ (l : List Record). length (body l)) x.1 in let e = is_end.1 (omega (arith, same)) in omega (arith, same, e, l, records)) f.either

    -- the next frame
    module _ (past : end ≤ at) where
      at-end : at ≡ end
      at-end = let e = end-is in let m = most in omega (arith, e, m, past)

      pub next-among : end ≤ gate → IsAmong seen rs end (end + 9)
      next-among le =
          let e = end-is in
          let d = is-durable (omega (arith, e, le)) in
          record { known = is-among 8 frames rs end (end + 9) (subst (λ n. StandsIn 8 frames rs n (n + 9)) (omega (arith, e)) d.next) }

      pub next-same : placed_from (end + 9) all ≡ placed_from at all
      next-same =
          let e = end-is in
          let same = at-end in
          let l = least in
          from (end + 9) (omega (arith, e)) (omega (arith, e))
          ∙ ap (λ (l : List (ℕ × Record)). l ++ f.behind) (records-dropped (at_gate + 9) f.records (end + 9) (omega (arith, e)) ∙ sym (records-dropped (at_gate + 9) f.records at (omega (arith, e, same))))
          ∙ sym (from at l (omega (arith, e, same)))

      pub next-further : at + 9 ≤ end + 9
      next-further = let same = at-end in omega (arith, same)

      -- all records stand before the end of what is pending
      pub none-behind : gate < end → placed_from at all ≡ []
      none-behind lt =
          let e = end-is in
          let same = at-end in
          let l = least in
          let pending : gate ≤ at_gate = ⊎_elim
          (λ (d : IsDurable seen 8 frames rs at_gate f.records). absurd (let ends = d.ends in let g = gate-is in omega (arith, ends, g, e, lt)))
          (λ (x : (at_gate ≡ gate_after 8 frames) × (f.records ≡ rs) × (f.behind ≡ [])). let g = x.0 ∙ gate-is in omega (arith, g)) f.either in
          from at l (omega (arith, e, same))
          ∙ ap (λ (l : List (ℕ × Record)). l ++ f.behind) (records-dropped (at_gate + 9) f.records at (omega (arith, e, same)))
          ∙ (is-pending pending).2

    -- the next record
    module _ (before : at < end) where
      pub in-file : at ≤ gate → at_gate < gate
      in-file le = let l = least in omega (arith, l, le)

      pub in-buffer : gate < at → gate ≤ at_gate
      in-buffer lt = ⊎_elim
          (λ (d : IsDurable seen 8 frames rs at_gate f.records). absurd (let ends = d.ends in let g = gate-is in let e = end-is in omega (arith, ends, g, e, lt, before)))
          (λ (x : (at_gate ≡ gate_after 8 frames) × (f.records ≡ rs) × (f.behind ≡ [])). let g = x.0 ∙ gate-is in omega (arith, g)) f.either

      here-durable : at_gate < gate → Here seen 0 (at_gate + 9) f.records at
      here-durable lt =
          let d = is-durable lt in
          let e = end-is in
          let l = d.long in
          here seen d.front 0 (at_gate + 9) f.records d.behind at d.fits d.is (omega (arith, l)) f.place (omega (arith, e, before))

      here-pending : gate ≤ at_gate → Here buffer (gate + 1) (at_gate + 9) f.records at
      here-pending le =
          let x = is-pending le in
          let same = x.0 in
          let e = end-is in
          let w = waits buffer k.are_bytes k.parsed in
          let long-enough = k.front in
          let eight : length (take 8 buffer) ≡ 8 = omega (arith, length-take 8 buffer, long-enough) in
          let parts : buffer ≡ take 8 buffer ++ (body f.records ++ []) = sym (take-append-drop 8 buffer) ∙ ap (λ (l : List ℕ). take 8 buffer ++ l) (w.0 ∙ ap body (sym x.1) ∙ sym (append-nil (body f.records))) in
          here buffer (take 8 buffer) (gate + 1) (at_gate + 9) f.records [] at (subst (λ (l : List Record). AllByRecursion Fits l) (sym x.1) w.1) parts (omega (arith, eight, same)) f.place (omega (arith, e, before))

      passed-by : (bytes : List ℕ) (shift : ℕ) (raw : RawHead) (len : ℕ) → Here bytes shift (at_gate + 9) f.records at → IsFront (drop (at - shift) bytes) raw len → Passed seen gate buffer at_gate at raw len
      passed-by bytes shift raw len h front =
          let says = front-says (drop (at - shift) bytes) h.rest h.it raw len h.front h.fits front in
          let sized : at + (17 + len) ≡ at + size h.it = let n = says.2 in omega (arith, n) in
          let e = end-is in
          let l = least in
          let ends = h.within in
          let more = in-all (at + size h.it) ends in
          record {
            it = h.it;
            kind = says.0;
            page = says.1;
            among = subst (λ n. IsAmong seen rs at_gate n) (sym sized) (record { known = is-among 8 frames rs at_gate (at + size h.it) (f.again (at + size h.it) h.next) });
            records = from at l (omega (arith, before, e)) ∙ ap (λ (m : List (ℕ × Record)). m ++ f.behind) h.records
                ∙ ap (λ (m : List (ℕ × Record)). (at, h.it) ∷ m) (sym (from (at + size h.it) (omega (arith, l)) (omega (arith, ends))))
                ∙ ap (λ n. (at, h.it) ∷ placed_from n all) (sym sized);
            within = omega (arith, sized, more);
          }
        where
          in-all : (n : ℕ) → n ≤ at_gate + 9 + length (body f.records) → n ≤ gate + 1 + length buffer
          in-all n le = ⊎_elim
              (λ (d : IsDurable seen 8 frames rs at_gate f.records). let ends = d.ends in let same = gate-is in omega (arith, ends, same, le))
              (λ (x : (at_gate ≡ gate_after 8 frames) × (f.records ≡ rs) × (f.behind ≡ [])). let same = x.0 ∙ gate-is in let l = long in let records = ap (λ (l : List Record). length (body l)) x.1 in omega (arith, same, le, l, records)) f.either

      pub passed : (raw : RawHead) (len : ℕ) → IsHead seen gate buffer at raw len → Passed seen gate buffer at_gate at raw len
      passed raw len heads_are = elim (cases_lt gate at) [
        | inl lt ↦ passed-by buffer (gate + 1) raw len (here-pending (in-buffer lt)) (heads_are.1 lt)
        | inr le ↦ passed-by seen 0 raw len (here-durable (in-file le)) (subst (λ n. IsFront (drop n seen) raw len) (omega arith) (heads_are.0 le))
      ]

      -- there are enough bytes for its head
      pub enough : gate < at → length buffer < at - (gate + 1) + 17 → ⊥
      enough lt few =
          let h = here-pending (in-buffer lt) in
          let ends = h.within in
          let e = end-is in
          let last = is_end.1 (in-buffer lt) in
          omega (arith, ends, e, last, few, lt)

-- ---- what a log has still to name

abbrev moves : List (ℕ × ℕ) → ℕ → Moves
moves waiting appended = record { waiting = waiting; appended = appended }

pub same-moves : (seen : List ℕ) (next : NextFrame) (old new : Names) → new.appended ≡ old.appended → one_or_none new.read ++ from_place new.at (all_messages seen next) ≡ one_or_none old.read ++ from_place old.at (all_messages seen next)
    → moves_in seen next new ≡ moves_in seen next old
same-moves seen next old new appended waiting = ap (λ l. moves l new.appended) waiting ∙ ap (moves (one_or_none old.read ++ from_place old.at (all_messages seen next))) appended

-- where none was read, a message that is, and what is behind it
pub passed-moves : (seen : List ℕ) (next : NextFrame) (old new : Names) (named : List (ℕ × ℕ)) → old.read ≡ None → new.appended ≡ old.appended → one_or_none new.read ≡ named → from_place old.at (all_messages seen next) ≡ named ++ from_place new.at (all_messages seen next)
    → moves_in seen next new ≡ moves_in seen next old
passed-moves seen next old new named none appended read behind =
    same-moves seen next old new appended
    (ap (λ (l : List (ℕ × ℕ)). l ++ from_place new.at (all_messages seen next)) read ∙ sym behind
    ∙ ap (λ r. one_or_none r ++ from_place old.at (all_messages seen next)) (sym none))

-- nothing was read, for the device failed
pub unread : {T : Type 0} (old now : Counts) (result : Result T LogError) → ReadFaults old now result → IfErr result (λ e. (e ≡ ReadFault) ⊎ (e ≡ Corruption)) → (IsErrOf result Corruption → ⊥) → ((x : T) → result ≡ Ok x → ⊥)
    → HasGrown old.failed_reads now.failed_reads
unread old now (Ok x) faults only sound none = absurd (none x refl)
unread old now (Err e) faults only sound none = ⊎_elim (λ is. faults.read (ap (λ e. Err e) is)) (λ is. absurd (sound (ap (λ e. Err e) is))) only

pub grown-later : (old mid now : ℕ) → old ≤ mid → HasGrown mid now → HasGrown old now
grown-later old mid now le (inl lt) = inl (omega (arith, le, lt))
grown-later old mid now le (inr most) = inr most

-- ---- a step

-- the place that is looked at
pub looked-at : (seen : List ℕ) (rs : List Record) (names : Names) → IsAmong seen rs names.gate names.at → IsLooked seen rs names → IsAmong seen rs (frame_of names) (looks_at names)
looked-at seen rs names s k = by names.seeks refl
  where
    by : (b : Bool) → names.seeks ≡ b → IsAmong seen rs (if b then names.ahead_gate else names.gate) (if b then names.ahead else names.at)
    by true e = record { known = k.among e }
    by false e = s

-- what a record or a gate leaves of both places
module _ (P : ℕ → ℕ → Type 0) (names : Names) where
  record-at : (kind len : ℕ) → P names.gate names.at → P (frame_of names) (looks_at names + (17 + len)) → (let new = behind_record names kind len in P new.gate new.at)
  record-at kind len was is = by names.seeks (is_closing kind) (kind == 14) (kind == 12 && nat_lt names.at names.own) is
    where
      new : Bool → Bool → Bool → Bool → Names
      new b c z a = if b then (if c then behind_closing names z (names.ahead + (17 + len)) else record names { ahead = names.ahead + (17 + len) }) else if a then behind_begin names (names.at + (17 + len)) else record names { at = names.at + (17 + len) }

      by : (b c z a : Bool) → P (if b then names.ahead_gate else names.gate) ((if b then names.ahead else names.at) + (17 + len)) → P (new b c z a).gate (new b c z a).at
      by true true true a is = is
      by true true false a is = was
      by true false z a is = was
      by false c z true is = is
      by false c z false is = is

  record-ahead : (kind len : ℕ) → P (frame_of names) (looks_at names + (17 + len)) → (let new = behind_record names kind len in new.seeks ≡ true → P new.ahead_gate new.ahead)
  record-ahead kind len is = by names.seeks refl (is_closing kind) (kind == 14) (kind == 12 && nat_lt names.at names.own) is
    where
      new : Bool → Bool → Bool → Bool → Names
      new b c z a = if b then (if c then behind_closing names z (names.ahead + (17 + len)) else record names { ahead = names.ahead + (17 + len) }) else if a then behind_begin names (names.at + (17 + len)) else record names { at = names.at + (17 + len) }

      by : (b : Bool) → names.seeks ≡ b → (c z a : Bool) → P (if b then names.ahead_gate else names.gate) ((if b then names.ahead else names.at) + (17 + len)) → (new b c z a).seeks ≡ true → P (new b c z a).ahead_gate (new b c z a).ahead
      by true e true true a is now = absurd cc
      by true e true false a is now = absurd cc
      by true e false z a is now = is
      by false e c z true is now = is
      by false e c z false is now = absurd cc

  gate-at : (gate : ℕ) → P names.gate names.at → P gate (gate + 9) → (let new = behind_gate names gate in P new.gate new.at)
  gate-at gate was is = by names.seeks
    where
      new : Bool → Names
      new b = if b then record names { ahead = gate + 9; ahead_gate = gate } else record names { at = gate + 9; gate = gate }

      by : (b : Bool) → P (new b).gate (new b).at
      by true = was
      by false = is

  gate-ahead : (gate : ℕ) → P gate (gate + 9) → (let new = behind_gate names gate in new.seeks ≡ true → P new.ahead_gate new.ahead)
  gate-ahead gate is = by names.seeks refl
    where
      new : Bool → Names
      new b = if b then record names { ahead = gate + 9; ahead_gate = gate } else record names { at = gate + 9; gate = gate }

      by : (b : Bool) → names.seeks ≡ b → (new b).seeks ≡ true → P (new b).ahead_gate (new b).ahead
      by true e now = is
      by false e now = absurd cc

-- how far a step went
record-step : (names : Names) (kind len : ℕ) → (names.seeks ≡ true → names.at ≤ names.ahead) → IsStep names (behind_record names kind len)
record-step names kind len behind = by names.seeks refl (is_closing kind) (kind == 14) (kind == 12 && nat_lt names.at names.own)
  where
    new : Bool → Bool → Bool → Bool → Names
    new b c z a = if b then (if c then behind_closing names z (names.ahead + (17 + len)) else record names { ahead = names.ahead + (17 + len) }) else if a then behind_begin names (names.at + (17 + len)) else record names { at = names.at + (17 + len) }

    by : (b : Bool) → names.seeks ≡ b → (c z a : Bool) → IsStep names (new b c z a)
    by true e true true a = let le = behind e in inl (omega (arith, le))
    by true e true false a = inr (refl, e, inr refl)
    by true e false z a = inr (refl, e, inl (omega arith))
    by false e c z true = inl (omega arith)
    by false e c z false = inl (omega arith)

gate-step : (names : Names) (gate : ℕ) → looks_at names + 9 ≤ gate + 9 → IsStep names (behind_gate names gate)
gate-step names gate le = by names.seeks refl le
  where
    new : Bool → Names
    new b = if b then record names { ahead = gate + 9; ahead_gate = gate } else record names { at = gate + 9; gate = gate }

    by : (b : Bool) → names.seeks ≡ b → (if b then names.ahead else names.at) + 9 ≤ gate + 9 → IsStep names (new b)
    by true e le = inr (refl, e, inl le)
    by false e le = inl le

record-appended : (names : Names) (kind len : ℕ) → (behind_record names kind len).appended ≡ names.appended
record-appended names kind len = by names.seeks (is_closing kind) (kind == 14) (kind == 12 && nat_lt names.at names.own)
  where
    new : Bool → Bool → Bool → Bool → Names
    new b c z a = if b then (if c then behind_closing names z (names.ahead + (17 + len)) else record names { ahead = names.ahead + (17 + len) }) else if a then behind_begin names (names.at + (17 + len)) else record names { at = names.at + (17 + len) }

    by : (b c z a : Bool) → (new b c z a).appended ≡ names.appended
    by true true true a = refl
    by true true false a = refl
    by true false z a = refl
    by false c z true = refl
    by false c z false = refl

gate-same : (names : Names) (gate : ℕ) → ((behind_gate names gate).appended ≡ names.appended) × ((behind_gate names gate).read ≡ names.read)
gate-same names gate = by names.seeks
  where
    new : Bool → Names
    new b = if b then record names { ahead = gate + 9; ahead_gate = gate } else record names { at = gate + 9; gate = gate }

    by : (b : Bool) → ((new b).appended ≡ names.appended) × ((new b).read ≡ names.read)
    by true = (refl, refl)
    by false = (refl, refl)

-- the end of what is pending is a number
length-bound : (next : NextFrame) → next.gate + 1 + length next.buffer.items < 2 ^ 64
length-bound next = elim (cases_lt 8 (length next.buffer.items)) [
  | inl some ↦ let fits = next.fits some in omega (arith, fits)
  | inr few ↦ let small = next.small in omega (arith, small, few)
]

-- what a log keeps of both places, and of what it has still to name
pub record Keeps (seen after : List ℕ) (next : NextFrame) (old new : Names) : Type 0 where
  pub stood : IsAmong after (records_behind next.buffer.items) new.gate new.at
  pub looked : IsLooked after (records_behind next.buffer.items) new
  pub moves : moves_in seen next new ≡ moves_in seen next old

-- a log that may be called, and whose disk tells its bytes
module _ {D : Type 0} {g : Ghosts D} (log : DiskLog D g) (told : g.tells) (usable : log.usable ≡ true) (fits : IsBytes (g.seen log.disk)) where
  abbrev seen : List ℕ
  seen = g.seen log.disk

  abbrev next : NextFrame
  next = log.next

  abbrev names : Names
  names = log.names

  abbrev pending : List Record
  pending = records_behind next.buffer.items

  -- a place among its records
  pub kept-at : (at_gate at : ℕ) → IsAmong seen pending at_gate at → IsKept seen next.gate next.buffer.items at_gate at
  kept-at at_gate at stood = record { spilled = next.spilled; batch = batch_of next; heads = chains_of log.pages.items; fits = fits; stands = log.stands told usable; own = next.own; are_bytes = next.are_bytes; front = next.front; parsed = next.parsed; stood = stood }

  -- and the one that it looks at
  pub kept : IsKept seen next.gate next.buffer.items (frame_of names) (looks_at names)
  kept = kept-at (frame_of names) (looks_at names) (looked-at seen pending names (log.stood told usable) (log.looked told usable))

  all-named : counted_messages true (placed_in seen pending) ≡ all_messages seen next
  all-named = counted-all seen next.gate next.spilled next.buffer.items (batch_of next) (chains_of log.pages.items) fits (log.stands told usable) next.own

  abbrev Among : ℕ → ℕ → Type 0
  Among gate at = is_among 8 (or_none (frames_of (drop 8 seen))) pending gate at ≡ true

  -- nothing was read before, the frame of that place ends there, and this is what the disk tells afterwards
  module _ (none : names.read ≡ None) (gate at end : ℕ) (gate_is : gate ≡ frame_of names) (at_is : at ≡ looks_at names) (ends : IsEnd seen next.gate next.buffer.items gate end) (after : List ℕ) (same : after ≡ seen) where
    is-end : IsEnd seen next.gate next.buffer.items (frame_of names) end
    is-end = subst (λ n. IsEnd seen next.gate next.buffer.items n end) gate_is ends

    -- whatever was named, and whichever places it leaves
    went : (new : Names) (named : List (ℕ × ℕ)) → Among new.gate new.at → IsLooked seen pending new → new.appended ≡ names.appended → one_or_none new.read ≡ named
        → (let all = counted_messages true (placed_in seen pending) in from_place names.at all ≡ named ++ from_place new.at all) → Keeps seen after next names new
    went new named stood looked appended read parts = record {
      stood = subst (λ (l : List ℕ). IsAmong l pending new.gate new.at) (sym same) (record { known = stood });
      looked = subst (λ (l : List ℕ). IsLooked l pending new) (sym same) looked;
      moves = passed-moves seen next names new named none appended read
          (subst (λ (l : List (ℕ × ℕ)). from_place names.at l ≡ named ++ from_place new.at l) all-named parts);
    }

    -- a record was gone over
    pub record-steps : at < end → (raw : RawHead) (len : ℕ) → IsHead seen next.gate next.buffer.items at raw len → (new : Names) → (looks_at names + (17 + len) < 2 ^ 64 → new ≡ record (behind_record names raw.kind len) { read = new.read })
        → one_or_none new.read ≡ passed_by (placed_in seen pending) names raw.kind raw.page → Keeps seen after next names new × IsStep names new
    record-steps lt raw len head new is read = subst (λ (n : Names). Keeps seen after next names n × IsStep names n) (sym (is fits-all)) (keeps, record-step names raw.kind len looked.looks.behind)
      where
        passed-over : Passed seen next.gate next.buffer.items (frame_of names) (looks_at names) raw len
        passed-over = passed kept end is-end (subst (λ n. n < end) at_is lt) raw len (subst (λ n. IsHead seen next.gate next.buffer.items n raw len) at_is head)

        fits-all : looks_at names + (17 + len) < 2 ^ 64
        fits-all = let within = passed-over.within in let room = length-bound next in omega (arith, within, room)

        looked : IsLooked seen pending names
        looked = log.looked told usable

        now : Names
        now = record (behind_record names raw.kind len) { read = new.read }

        keeps : Keeps seen after next names now
        keeps =
            let p = passed-over in
            let gone = went-record (placed_in seen pending) names looked.looks p.it raw.kind len p.kind p.records in
            went now (passed_by (placed_in seen pending) names raw.kind p.it.id) (record-at Among names raw.kind len (log.stood told usable).known p.among.known)
            (record { looks = looks-alike (placed_in seen pending) (behind_record names raw.kind len) now refl gone.looks; among = record-ahead Among names raw.kind len p.among.known })
            (record-appended names raw.kind len) (read ∙ ap (λ n. passed_by (placed_in seen pending) names raw.kind n) p.page) gone.messages

    -- the frame was gone over
    module _ (past : end ≤ at) where
      behind : end ≤ looks_at names
      behind = subst (λ n. end ≤ n) at_is past

      -- and the next one is entered
      pub gate-steps : end ≤ next.gate → (new : Names) → new ≡ behind_gate names end → Keeps seen after next names new × IsStep names new
      gate-steps le new is =
          let among = next-among kept end is-end behind le in
          let further = next-further kept end is-end behind in
          let gone = went-gate (placed_in seen pending) names (log.looked told usable).looks end (next-same kept end is-end behind) (omega (arith, further)) in
          let same = gate-same names end in
          subst (λ (n : Names). Keeps seen after next names n × IsStep names n) (sym is) (
            went (behind_gate names end) [] (gate-at Among names end (log.stood told usable).known among.known) (record { looks = gone.looks; among = gate-ahead Among names end among.known })
                same.0 (ap one_or_none (same.1 ∙ none)) gone.messages,
            gate-step names end further,
          )

      -- there is no other
      module _ (last : next.gate < end) where
        none-follow : placed_from (looks_at names) (placed_in seen pending) ≡ []
        none-follow = none-behind kept end is-end behind last

        pub end-keeps : (new : Names) → new ≡ record names { seeks = false } → Keeps seen after next names new
        end-keeps new is =
            let gone = went-end (placed_in seen pending) names (log.looked told usable).looks none-follow in
            let now : Names = record names { seeks = false } in
            subst (λ (n : Names). Keeps seen after next names n) (sym is)
            (went now [] (log.stood told usable).known (record { looks = gone.looks; among = λ e. absurd cc }) refl (ap one_or_none none) gone.messages)

        pub none-waits : names.seeks ≡ false → (moves_in seen next names).waiting ≡ []
        none-waits closed =
            ap (λ r. one_or_none r ++ from_place names.at (all_messages seen next)) none
            ∙ ap (from_place names.at) (sym all-named)
            ∙ none-left (placed_in seen pending) names (log.looked told usable).looks closed none-follow
