-- The chains of a file, and their sizes.
use Rattle.std.proofs.Common.{◌≡◌, ◌⊎◌, inl, inr, ⊎_elim, ℕ, ◌+◌, ◌^◌, ◌≤◌, ◌<◌, Bool, true, false, List, [], ◌∷◌, ◌++◌, length, drop, refl, ap, sym, ◌∙◌, subst, append_assoc, arith}
use Rattle.std.specs.Prelude.{Option, Some, None, ◌==◌, ◌||◌, if◌then◌else◌}
use Rattle.std.specs.List.{AllByRecursion, list_all}
use Rattle.std.proofs.lemmas.Bool.{cases_lt, eqb-true}
use Rattle.std.proofs.lemmas.List.{length-append, append-nil, map-append}
use Rattle.std.proofs.lemmas.List.Sums.{sum_by-append}
use Rattle.sled_base.specs.Kinds.{kind_of, log_kind_of}
use Rattle.sled_base.specs.declared.kinds.LogKind.{LogKind}
use Rattle.sled_base.specs.declared.kinds.LogKind.TheVariants as effects
use Rattle.sled_base.specs.declared.kinds.MessageKind.{MessageKind}
use Rattle.sled_log.proofs.ChainLaws.{all-append, Says, AllIn, chains-all}
use Rattle.sled_log.proofs.SizeLaws.{chain_size, events_size, event_size, chains_after-size, each-below}
use Rattle.sled_log.specs.Chains.{chains_after}
use Rattle.sled_log.specs.Events.{Event, Change}
use Rattle.sled_log.specs.Inside.Laws.{chains_after-append}
use Rattle.sled_log.specs.LogState.{now}
use Rattle.sled_log.specs.Messages.{Entry, Chain, effect_of_entry, message_size}
use Rattle.sled_log.specs.Pages.{IsSized}
use Rattle.sled_disk.specs.declared.recovery.head.Head.{Head}
use Rattle.sled_disk.specs.Format.{◌>>=◌, Record, Frame, Begun, outside, within, size, record_bytes, body, opening, frames_bytes, number_bytes, is_begin, closes_from, taken, waits, plain, turn, turn_by, turns, frames_turns, marks, takes_event, entry_at, IsBytes}
use Rattle.sled_disk.specs.EncodingLaws.{number_bytes-length}
use Rattle.sled_disk.specs.MeaningLaws.{gate_after, record_bytes-length, Meant, meant_turns, meant_frames}
use Rattle.sled_disk.specs.Pending.{is_own, event_by, changes, state_in}
use Rattle.sled_disk.specs.PendingLaws.{taken-one, taken-all}
use Rattle.sled_disk.specs.Reading.{records_of}
use Rattle.sled_disk.specs.LogContents.{Stands, records_behind, progress_in, progress_then, inside_of}
use Rattle.sled_disk.specs.LogContentsLaws.{parsed, progress-in, progress-then, heads-stand, all-chains}
use Rattle.sled_disk.specs.WholeLaws.{stepped}
use Rattle.sled_disk.proofs.Frames.PendingBuffer.{waits-length}
use Rattle.sled_disk.proofs.Moves.CountedMessages.{plain-by}

abbrev log_size_of : Entry → ℕ
log_size_of entry = entry.place.log_size

abbrev total : List (Event Entry) → ℕ
total events = events_size effect_of_entry log_size_of events

-- an entry's log size is that of its message
abbrev IsOfSize : Entry → Type 0
IsOfSize entry = entry.place.log_size ≡ message_size entry.message

abbrev Sized : List (Event Entry) → Type 0
Sized events = AllByRecursion (Says effect_of_entry IsOfSize) events

event-sized : (kind : LogKind) (place : ℕ) (r : Record) → Sized (event_by kind place r)
event-sized effects.Replace place r = (refl, tt)
event-sized effects.Free place r = (refl, tt)
event-sized effects.Link place r = (refl, tt)
event-sized effects.Skip place r = tt
event-sized effects.Corrupted place r = tt

event-total : (kind : LogKind) (place : ℕ) (r : Record) → total (event_by kind place r) ≤ size r
event-total effects.Replace place r = omega arith
event-total effects.Free place r = omega arith
event-total effects.Link place r = omega arith
event-total effects.Skip place r = omega arith
event-total effects.Corrupted place r = omega arith

-- ---- what was said, whether it counts or waits

abbrev all_of : Meant → List (Event Entry)
all_of q = q.settled ++ changes (inside_of q.begun)

abbrev some_meant : Meant → Option Meant
some_meant q = Some q

same_meant : (x y : Meant) → some_meant x ≡ some_meant y → x ≡ y
same_meant x y e = cc

abbrev takes : List (Event Entry) → ℕ → Entry → Option (List (Event Entry))
takes = takes_event effect_of_entry

-- a record adds its event, or what waits is dropped
abbrev Turned : Meant → Meant → ℕ → Record → Type 0
Turned q later place r = (all_of later ≡ all_of q ++ event_by (log_kind_of (kind_of r.kind)) place r) ⊎ (all_of later ≡ q.settled ++ [])

module _ (place : ℕ) (r : Record) where
  abbrev Adds : List (Event Entry) → Meant → List (Event Entry) → Type 0
  Adds s later events = all_of later ≡ (s ++ []) ++ events

  one : (s : List (Event Entry)) (later : Meant) → (takes s r.id (entry_at place r) >>= λ t. Some (outside t)) ≡ Some later → Adds s later (Change r.id (entry_at place r) ∷ [])
  one s later is = by (takes s r.id (entry_at place r)) refl is
    where
      by : (x : Option (List (Event Entry))) → takes s r.id (entry_at place r) ≡ x → (x >>= λ t. Some (outside t)) ≡ Some later → Adds s later (Change r.id (entry_at place r) ∷ [])
      by None was is = absurd cc
      by (Some t) was is =
          ap (λ (q : Meant). all_of q) (sym (same_meant (outside t) later is)) ∙ append-nil t ∙ taken-one s t r.id (entry_at place r) was
          ∙ ap (λ (l : List (Event Entry)). l ++ Change r.id (entry_at place r) ∷ []) (sym (append-nil s))

  skips : (s : List (Event Entry)) (later : Meant) → some_meant (outside s) ≡ some_meant later → Adds s later []
  skips s later is = ap (λ (q : Meant). all_of q) (sym (same_meant (outside s) later is)) ∙ sym (append-nil (s ++ []))

  plain-adds : (kind : MessageKind) (s : List (Event Entry)) (mark : Bool) (later : Meant) → plain entry_at takes kind s place r mark ≡ Some later → Adds s later (event_by (log_kind_of kind) place r)
  plain-adds kind s mark later is = plain-by (λ kind. Adds s later (event_by kind place r)) place r s later (one s later) (one s later) (one s later) (skips s later) kind mark is

  outside-turned : (s : List (Event Entry)) (mark : Bool) (later : Meant) (a b : Bool) → r.kind == 12 ≡ a → (if a then (if b then Some (within s place []) else None) else plain entry_at takes (kind_of r.kind) s place r mark) ≡ Some later → Turned (outside s) later place r
  outside-turned s mark later true true e is = inr (ap (λ (q : Meant). all_of q) (sym (same_meant (within s place []) later is)))
  outside-turned s mark later true false e is = absurd cc
  outside-turned s mark later false b e is = inl (plain-adds (kind_of r.kind) s mark later is)

  none-of : (kind : ℕ) → r.kind ≡ kind → event_by (log_kind_of (kind_of kind)) place r ≡ [] → event_by (log_kind_of (kind_of r.kind)) place r ≡ []
  none-of kind is none = ap (λ k. event_by (log_kind_of (kind_of k)) place r) is ∙ none

  ends-adds : (s : List (Event Entry)) (b : Begun Entry) (later : Meant) → event_by (log_kind_of (kind_of r.kind)) place r ≡ [] → (taken entry_at takes s b.inside >>= λ t. Some (outside t)) ≡ Some later → Turned (within s b.place b.inside) later place r
  ends-adds s b later none is = by (taken entry_at takes s b.inside) refl is
    where
      by : (x : Option (List (Event Entry))) → taken entry_at takes s b.inside ≡ x → (x >>= λ t. Some (outside t)) ≡ Some later → Turned (within s b.place b.inside) later place r
      by None was is = absurd cc
      by (Some t) was is =
          inl (ap (λ (q : Meant). all_of q) (sym (same_meant (outside t) later is)) ∙ append-nil t ∙ taken-all s t b.inside was ∙ sym (append-nil (s ++ changes b.inside)) ∙ ap (λ (l : List (Event Entry)). (s ++ changes b.inside) ++ l) (sym none))

  waits-adds : (s : List (Event Entry)) (b : Begun Entry) (later : Meant) (kind : LogKind) → waits entry_at takes kind s b r.id (entry_at place r) ≡ Some later → all_of later ≡ (s ++ changes b.inside) ++ event_by kind place r
  waits-adds s b later kind is = by kind is
    where
      more : some_meant (within s b.place (b.inside ++ (r.id, entry_at place r) ∷ [])) ≡ some_meant later → all_of later ≡ (s ++ changes b.inside) ++ Change r.id (entry_at place r) ∷ []
      more is = ap (λ (q : Meant). all_of q) (sym (same_meant (within s b.place (b.inside ++ (r.id, entry_at place r) ∷ [])) later is))
          ∙ ap (λ (l : List (Event Entry)). s ++ l) (map-append (λ change. Change change.0 change.1) b.inside ((r.id, entry_at place r) ∷ []))
          ∙ sym (append_assoc s (changes b.inside) (Change r.id (entry_at place r) ∷ []))

      by : (kind : LogKind) → waits entry_at takes kind s b r.id (entry_at place r) ≡ Some later → all_of later ≡ (s ++ changes b.inside) ++ event_by kind place r
      by effects.Replace is = more is
      by effects.Free is = more is
      by effects.Link is = more is
      by effects.Skip is = absurd cc
      by effects.Corrupted is = absurd cc

  closed-turned : (s : List (Event Entry)) (b : Begun Entry) (later : Meant) (z : Bool) → (z ≡ false → event_by (log_kind_of (kind_of r.kind)) place r ≡ []) → (if z then Some (outside s) else (taken entry_at takes s b.inside >>= λ t. Some (outside t))) ≡ Some later → Turned (within s b.place b.inside) later place r
  closed-turned s b later true none is = inr (ap (λ (q : Meant). all_of q) (sym (same_meant (outside s) later is)))
  closed-turned s b later false none is = ends-adds s b later (none refl) is

  inside-turned : (s : List (Event Entry)) (b : Begun Entry) (later : Meant) (x y z f : Bool) → r.kind == 13 ≡ x → r.kind == 1 ≡ y → r.kind == 14 ≡ z
      → (if x || (y || z) then (if f then (if z then Some (outside s) else (taken entry_at takes s b.inside >>= λ t. Some (outside t))) else None) else waits entry_at takes (log_kind_of (kind_of r.kind)) s b r.id (entry_at place r)) ≡ Some later
      → Turned (within s b.place b.inside) later place r
  inside-turned s b later true y z true i j k is = closed-turned s b later z (λ _. none-of 13 (eqb-true r.kind 13 i) refl) is
  inside-turned s b later true y z false i j k is = absurd cc
  inside-turned s b later false true z true i j k is = closed-turned s b later z (λ _. none-of 1 (eqb-true r.kind 1 j) refl) is
  inside-turned s b later false true z false i j k is = absurd cc
  inside-turned s b later false false true true i j k is = closed-turned s b later true (λ e. absurd cc) is
  inside-turned s b later false false true false i j k is = absurd cc
  inside-turned s b later false false false f i j k is = inl (waits-adds s b later (log_kind_of (kind_of r.kind)) is)

  turned : (begun : Option (Begun Entry)) (s : List (Event Entry)) (mark : Bool) (later : Meant) → turn_by entry_at takes begun s place r mark ≡ Some later → Turned (record { settled = s; begun = begun }) later place r
  turned None s mark later is = outside-turned s mark later (r.kind == 12) (is_begin r) refl is
  turned (Some b) s mark later is = inside-turned s b later (r.kind == 13) (r.kind == 1) (r.kind == 14) (closes_from b.place r) refl refl refl is

-- ---- together they are no more than their bytes

pub record Grows (q later : Meant) (n : ℕ) : Type 0 where
  pub sized : Sized (all_of q) → Sized (all_of later)
  pub total : total (all_of later) ≤ total (all_of q) + n

all-front : (xs ys : List (Event Entry)) → Sized (xs ++ ys) → Sized xs
all-front [] ys h = tt
all-front (x ∷ xs) ys h = (h.0, all-front xs ys h.1)

grows : (q later : Meant) (place : ℕ) (r : Record) → Turned q later place r → Grows q later (size r)
grows q later place r (inl is) =
    let events = event_by (log_kind_of (kind_of r.kind)) place r in
    record {
      sized = λ h. subst Sized (sym is) (all-append (Says effect_of_entry IsOfSize) (all_of q) events h (event-sized (log_kind_of (kind_of r.kind)) place r));
      total = omega (arith, ap total is, sum_by-append (event_size effect_of_entry log_size_of) (all_of q) events, event-total (log_kind_of (kind_of r.kind)) place r);
    }
grows q later place r (inr is) =
    let same = is ∙ append-nil q.settled in
    record {
      sized = λ h. subst Sized (sym same) (all-front q.settled (changes (inside_of q.begun)) h);
      total = omega (arith, ap total same, sum_by-append (event_size effect_of_entry log_size_of) q.settled (changes (inside_of q.begun)));
    }

grows-both : (q mid later : Meant) (a b n : ℕ) → a + b ≡ n → Grows q mid a → Grows mid later b → Grows q later n
grows-both q mid later a b n is g h = record { sized = λ k. h.sized (g.sized k); total = let x = g.total in let y = h.total in omega (arith, x, y, is) }

pub turns-grow : (place : ℕ) (q later : Meant) (rs : List Record) → meant_turns place q rs ≡ Some later → Grows q later (length (body rs))
unfolding turns
turns-grow place q later [] is = let same = same_meant q later is in record { sized = λ h. subst (λ (m : Meant). Sized (all_of m)) same h; total = let e = ap (λ (m : Meant). total (all_of m)) same in omega (arith, e) }
turns-grow place q later (r ∷ rs) is = by (turn entry_at takes q place r (marks place r rs)) refl is (λ m. turns-grow (place + size r) m later rs)
  where
    by : (x : Option Meant) → turn entry_at takes q place r (marks place r rs) ≡ x → (x >>= λ m. meant_turns (place + size r) m rs) ≡ Some later → ((m : Meant) → meant_turns (place + size r) m rs ≡ Some later → Grows m later (length (body rs))) → Grows q later (length (body (r ∷ rs)))
    by None was is next = absurd cc
    by (Some m) was is next =
        grows-both q m later (size r) (length (body rs)) (length (body (r ∷ rs))) (omega (arith, length-append (record_bytes r) (body rs), record_bytes-length r)) (grows q m place r (turned place r q.begun q.settled (marks place r rs) m was)) (next m is)

pub frames-grow : (gate : ℕ) (q later : Meant) (frames : List Frame) → meant_frames gate q frames ≡ Some later → (Sized (all_of q) → Sized (all_of later)) × (gate + total (all_of later) ≤ gate_after gate frames + total (all_of q))
unfolding frames_turns
frames-grow gate q later [] is = let same = same_meant q later is in ((λ h. subst (λ (m : Meant). Sized (all_of m)) same h), (let e = ap (λ (m : Meant). total (all_of m)) same in omega (arith, e)))
frames-grow gate q later (frame ∷ frames) is = by (meant_turns (gate + 9) q frame.records) refl is (λ m. frames-grow (gate + (9 + length (body frame.records))) m later frames)
  where
    by : (x : Option Meant) → meant_turns (gate + 9) q frame.records ≡ x → (x >>= λ m. meant_frames (gate + (9 + length (body frame.records))) m frames) ≡ Some later
        → ((m : Meant) → meant_frames (gate + (9 + length (body frame.records))) m frames ≡ Some later → (Sized (all_of m) → Sized (all_of later)) × (gate + (9 + length (body frame.records)) + total (all_of later) ≤ gate_after (gate + (9 + length (body frame.records))) frames + total (all_of m)))
        → (Sized (all_of q) → Sized (all_of later)) × (gate + total (all_of later) ≤ gate_after gate (frame ∷ frames) + total (all_of q))
    by None was is next = absurd cc
    by (Some m) was is next =
        let g = turns-grow (gate + 9) q m frame.records was in
        let h = next m is in
        ((λ k. h.0 (g.sized k)), (let x = g.total in let y = h.1 in omega (arith, x, y)))

both : (chains : List Chain) → AllIn effect_of_entry IsOfSize chains → AllByRecursion (λ chain. chain_size effect_of_entry log_size_of chain < 2 ^ 63) chains → AllByRecursion IsSized chains
both [] h i = tt
both (chain ∷ chains) h i = (record { each = h.0; total = i.0 }, both chains h.1 i.1)

-- ---- what is pending too

pub stands-sized : (seen : List ℕ) (gate : ℕ) (spilled : Bool) (buffer : List ℕ) (usable : Bool) (batch : Option ℕ) (heads : List (List Head)) → IsBytes seen → Stands seen gate spilled (records_behind buffer) batch heads → list_all is_own (records_behind buffer) ≡ true
    → gate + length (body (records_behind buffer)) < 2 ^ 63 → AllByRecursion IsSized (now effect_of_entry (state_in seen gate spilled buffer usable))
stands-sized seen gate spilled buffer usable batch heads fits s own small =
    let rs = records_behind buffer in
    let p = parsed seen gate spilled rs batch heads fits s in
    let bytes : List ℕ = opening ++ (frames_bytes p.frames ++ 0 ∷ (number_bytes 0 ++ body rs)) in
    let file = (progress-in seen gate spilled rs batch heads p seen (0 ∷ p.rest) p.is).0 in
    let more = (progress-then seen gate spilled rs batch heads p bytes (number_bytes 0) (number_bytes-length 0) refl).0 in
    let q = progress_then seen gate rs in
    let first = frames-grow 8 (outside []) (progress_in seen) p.frames file in
    let second = turns-grow (gate + 9) (progress_in seen) q rs more in
    let t = stepped gate p.before p.frames p.opened in
    let ends = t.ends in
    let chains = chains_after effect_of_entry [] (all_of q) in
    let is : chains ≡ now effect_of_entry (state_in seen gate spilled buffer usable) =
    chains_after-append effect_of_entry [] q.settled (changes (inside_of q.begun)) ∙ all-chains seen gate spilled rs batch heads p bytes (number_bytes 0) (number_bytes-length 0) refl ∙ heads-stand seen gate spilled rs batch heads p bytes (number_bytes 0) (number_bytes-length 0) refl own in
    let sized : Sized (all_of q) = second.sized (first.0 tt) in
    let x = first.1 in
    let y = second.total in
    subst (λ (l : List Chain). AllByRecursion IsSized l) is
    (both chains (chains-all effect_of_entry IsOfSize [] (all_of q) tt sized)
    (each-below effect_of_entry log_size_of (2 ^ 63) chains (omega (arith, small, ends, x, y, chains_after-size effect_of_entry log_size_of [] (all_of q)))))

-- the records that wait end below the greatest place
pub waits-small : (gate room : ℕ) (buffer : List ℕ) → IsBytes buffer → 8 ≤ length buffer → records_of (drop 8 buffer) ≡ Some (records_behind buffer) → gate < 2 ^ 63 → (8 < length buffer → gate + 1 + length buffer + room < 2 ^ 63) → gate + length (body (records_behind buffer)) < 2 ^ 63
waits-small gate room buffer are front read small fits =
    let l = waits-length buffer are front read in
    ⊎_elim (λ some. let f = fits some in omega (arith, l, f)) (λ none. omega (arith, l, none, small)) (cases_lt 8 (length buffer))
