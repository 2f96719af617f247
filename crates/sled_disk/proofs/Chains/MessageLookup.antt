-- A message of a page by its place, in the file or in the buffer.
use Rattle.std.proofs.Common.{◌≡◌, ◌⊎◌, inl, inr, ⊎_elim, ℕ, zero, suc, ◌+◌, ◌-◌, ◌≤◌, ◌<◌, Bool, true, List, [], ◌∷◌, ◌++◌, length, map, take, drop, get_or, slice_index_or, refl, ap, sym, ◌∙◌, subst, append_assoc, arith}
use Rattle.std.specs.Prelude.{Option, Some, ℤ}
use Rattle.std.specs.List.{All, Any, AllByRecursion, list_all}
use Rattle.std.proofs.Math.ListN.{get_or-map}
use Rattle.std.proofs.lemmas.List.{take_at, drop_at, drop-take, take-take, drop-drop, take-append-le, take-append-drop, length-append, length-take, append-nil}
use Rattle.std.proofs.lemmas.List.Elements.{All-from_recursion}
use Rattle.sled_base.specs.Kinds.{kind_of}
use Rattle.sled_base.specs.declared.kinds.MessageKind.{MessageKind}
use Rattle.sled_base.specs.declared.types.DiskPtr.{DiskPtr}
use Rattle.sled_base.specs.declared.types.DiskPtr.TheVariants.{Inline}
use Rattle.sled_log.proofs.ChainLaws.{all-get, AllIn}
use Rattle.sled_log.specs.LogState.{now}
use Rattle.sled_log.specs.Messages.{Entry, Chain, effect_of_entry}
use Rattle.sled_log.specs.Pages.{IsAt, IsReadAs}
use Rattle.sled_disk.specs.declared.recovery.head.Head.{Head}
use Rattle.sled_disk.specs.Format.{opening, Record, size, body, number, frames_bytes, IsBytes}
use Rattle.sled_disk.specs.HeadLookup.{IsHeadOf}
use Rattle.sled_disk.specs.RecoveredHeads.{EndsBy, IsWrittenIn}
use Rattle.sled_disk.specs.Pending.{is_own, state_in}
use Rattle.sled_disk.specs.Reading.{start, records_of, effect_of_head, entry_in}
use Rattle.sled_disk.specs.LogContents.{Stands, records_behind}
use Rattle.sled_disk.specs.LogContentsLaws.{Parsed, parsed, ends-at, place-is, heads-stand}
use Rattle.sled_disk.proofs.Chains.EachHead.{Heads, FrameHeads, steps-kept, frames-kept, now-kept, frames-so}
use Rattle.sled_disk.proofs.Chains.HeadBytes.{frames-written, records-written, entries-read}
use Rattle.sled_disk.proofs.Chains.PageStates.{frames-end}
use Rattle.sled_disk.proofs.Frames.PendingBuffer.{waits}

-- a head's record ends before the gate, or stands in the buffer
abbrev pub Side : ℕ → Head → Type 0
Side gate head = (head.place + (17 + head.len) ≤ gate) ⊎ (gate + 9 ≤ head.place)

records-behind : (gate place : ℕ) (rs : List Record) → gate + 9 ≤ place → Heads (Side gate) place rs
records-behind gate place [] le = tt
records-behind gate place (r ∷ rs) le = (inr le, records-behind gate (place + size r) rs (omega (arith, le)))

-- one of some of which P holds
pub all-at : {X : Type 0} (P : X → Type 0) (xs : List X) (i : ℕ) (d : X) → i < length xs → AllByRecursion P xs → P (get_or xs i d)
all-at P [] i d lt h = absurd (omega (arith, lt))
all-at P (x ∷ xs) zero d lt h = h.0
all-at P (x ∷ xs) (suc i) d lt h = all-at P xs i d (omega (arith, lt)) h.1

-- what is known of a place that is one of a page's chain
known-head : (bytes : List ℕ) (chain : List Head) (lsn : ℤ) (pointer : DiskPtr) (d : Head) (k : ℕ) (x : Entry) → k < length (map (entry_in bytes) chain) → get_or (map (entry_in bytes) chain) k x ≡ x → IsAt lsn pointer x
    → (i : ℕ) × (i < length chain) × (pointer ≡ Inline (get_or chain i d).place)
known-head bytes [] lsn pointer d k x lt is at = absurd (omega (arith, lt))
known-head bytes (head ∷ chain) lsn pointer d zero x lt is at = (0, omega arith, sym at.1 ∙ sym (ap (λ (e : Entry). e.place.pointer) is))
known-head bytes (head ∷ chain) lsn pointer d (suc k) x lt is at = let h = known-head bytes chain lsn pointer d k x (omega (arith, lt)) is at in let below = h.1 in (suc h.0, omega (arith, below), h.2)

module _ (seen : List ℕ) (gate : ℕ) (spilled : Bool) (buffer : List ℕ) (usable : Bool) (batch : Option ℕ) (heads : List (List Head)) (fits : IsBytes seen) (s : Stands seen gate spilled (records_behind buffer) batch heads)
    (are : IsBytes buffer) (front : 8 ≤ length buffer) (read : records_of (drop 8 buffer) ≡ Some (records_behind buffer)) (own : list_all is_own (records_behind buffer) ≡ true) where
  abbrev rs : List Record
  rs = records_behind buffer

  abbrev p : Parsed seen gate spilled rs batch heads
  p = parsed seen gate spilled rs batch heads fits s

  abbrev file : List ℕ
  file = opening ++ frames_bytes p.frames

  -- the file up to its gate, and the buffer behind it
  abbrev pub whole : List ℕ
  whole = opening ++ (frames_bytes p.frames ++ 0 ∷ (take 8 buffer ++ body rs))

  pad-long : length (take 8 buffer) ≡ 8
  pad-long = omega (arith, length-take 8 buffer, front)

  first-is : take (gate + 1) seen ≡ file ++ 0 ∷ []
  first-is =
      ap (take (gate + 1)) (p.is ∙ sym (append_assoc opening (frames_bytes p.frames) (0 ∷ p.rest)) ∙ sym (append_assoc file (0 ∷ []) p.rest))
      ∙ take_at (file ++ 0 ∷ []) p.rest (gate + 1) (let l = place-is seen gate spilled rs batch heads p in omega (arith, l, length-append file (0 ∷ [])))

  pub whole-is : whole ≡ take (gate + 1) seen ++ buffer
  whole-is =
      sym (append_assoc opening (frames_bytes p.frames) (0 ∷ (take 8 buffer ++ body rs))) ∙ sym (append_assoc file (0 ∷ []) (take 8 buffer ++ body rs))
      ∙ ap (λ (l : List ℕ). l ++ (take 8 buffer ++ body rs)) (sym first-is)
      ∙ ap (λ (l : List ℕ). take (gate + 1) seen ++ (take 8 buffer ++ l)) (sym (waits buffer are read).0)
      ∙ ap (λ (l : List ℕ). take (gate + 1) seen ++ l) (take-append-drop 8 buffer)

  front-long : length (take (gate + 1) seen) ≡ gate + 1
  front-long = ap length first-is ∙ (let l = place-is seen gate spilled rs batch heads p in omega (arith, l, length-append file (0 ∷ [])))

  -- what holds of the head of each record holds of all heads
  every-head : (P : Head → Type 0) → FrameHeads P 8 p.frames → Heads P (gate + 9) rs → AllIn effect_of_head P heads
  every-head P in_file pending = now-kept P p.last heads p.all (steps-kept P (gate + 9) p.before p.last rs p.made pending (frames-kept P 8 gate start p.before p.frames p.opened in_file (tt, tt)))

  pub all-written : AllIn effect_of_head (IsWrittenIn whole) heads
  all-written =
      every-head (IsWrittenIn whole) (frames-written whole opening 8 p.frames (0 ∷ (take 8 buffer ++ body rs)) p.each refl refl)
      (records-written whole (file ++ 0 ∷ take 8 buffer) (gate + 9) rs [] (waits buffer are read).1
      (sym (append_assoc opening (frames_bytes p.frames) (0 ∷ (take 8 buffer ++ body rs))) ∙ sym (append_assoc file (0 ∷ take 8 buffer) (body rs)) ∙ ap (λ (l : List ℕ). (file ++ 0 ∷ take 8 buffer) ++ l) (sym (append-nil (body rs))))
      (let l = place-is seen gate spilled rs batch heads p in let q = pad-long in omega (arith, l, q, length-append file (0 ∷ take 8 buffer))))

  pub all-sides : AllIn effect_of_head (Side gate) heads
  all-sides =
      every-head (Side gate) (frames-so (EndsBy gate) (Side gate) (λ head le. inl le) 8 p.frames (frames-end gate 8 p.frames (let e = ends-at seen gate spilled rs batch heads p in omega (arith, e))))
      (records-behind gate (gate + 9) rs (omega arith))

  pub now-heads : map (map (entry_in whole)) heads ≡ now effect_of_entry (state_in seen gate spilled buffer usable)
  now-heads = heads-stand seen gate spilled rs batch heads p whole (take 8 buffer) pad-long refl own

  module _ (pid : ℕ) where
    abbrev chain : List Head
    chain = slice_index_or heads pid []

    pub chain-is : map (entry_in whole) chain ≡ slice_index_or (now effect_of_entry (state_in seen gate spilled buffer usable)) pid []
    chain-is = sym (get_or-map (map (entry_in whole)) heads pid []) ∙ ap (λ (l : List Chain). slice_index_or l pid []) now-heads

    written : AllByRecursion (IsWrittenIn whole) chain
    written = all-get (AllByRecursion (IsWrittenIn whole)) pid heads [] all-written tt

    sides : AllByRecursion (Side gate) chain
    sides = all-get (AllByRecursion (Side gate)) pid heads [] all-sides tt

    pub known-place : (lsn : ℤ) (pointer : DiskPtr) (d : Head) → Any (IsAt lsn pointer) (slice_index_or (now effect_of_entry (state_in seen gate spilled buffer usable)) pid []) → (i : ℕ) × (i < length chain) × (pointer ≡ Inline (get_or chain i d).place)
    known-place lsn pointer d known = by (subst (Any (IsAt lsn pointer)) (sym chain-is) known)
      where
        by : Any (IsAt lsn pointer) (map (entry_in whole) chain) → (i : ℕ) × (i < length chain) × (pointer ≡ Inline (get_or chain i d).place)
        by (k, x, lt, is, at) = known-head whole chain lsn pointer d k x lt is at

    module _ (at : ℕ) (head : Head) (found : IsHeadOf at head chain) where
      pub is-written : IsWrittenIn whole head
      is-written = subst (IsWrittenIn whole) (sym found.2) (all-at (IsWrittenIn whole) chain found.0 head found.1 written)

      side : Side gate head
      side = subst (Side gate) (sym found.2) (all-at (Side gate) chain found.0 head found.1 sides)

      long : length whole ≡ (gate + 1) + length buffer
      long = ap length whole-is ∙ (let f = front-long in omega (arith, f, length-append (take (gate + 1) seen) buffer))

      pub within : head.place + (17 + head.len) ≤ (gate + 1) + length buffer
      within = let w = is-written in let i = w.within in let l = long in omega (arith, i, l)

      in-file : head.place ≤ gate → head.place + (17 + head.len) ≤ gate
      in-file le = ⊎_elim (λ h. h) (λ far. absurd (omega (arith, le, far))) side

      pub durable-payload : head.place ≤ gate → take head.len (drop (head.place + 17) seen) ≡ take head.len (drop (head.place + 17) whole)
      durable-payload le =
          let k = head.place + 17 in
          let end = in-file le in
          let f = front-long in
          sym (drop-take k head.len seen)
          ∙ ap (drop k) (sym (take-take (k + head.len) (gate + 1) seen (omega (arith, end))) ∙ sym (take-append-le (k + head.len) (take (gate + 1) seen) buffer (omega (arith, end, f))) ∙ ap (take (k + head.len)) (sym whole-is))
          ∙ drop-take k head.len whole

      pub pending-payload : gate < head.place → take head.len (drop (head.place - gate - 1 + 17) buffer) ≡ take head.len (drop (head.place + 17) whole)
      pending-payload lt =
          let k = head.place - gate - 1 + 17 in
          ap (take head.len)
          (ap (drop k) (sym (ap (drop (gate + 1)) whole-is ∙ drop_at (take (gate + 1) seen) buffer (gate + 1) front-long))
          ∙ drop-drop k (gate + 1) whole ∙ ap (λ n. drop n whole) (omega (arith, lt)))

      -- what is read of it is each entry at that place
      pub read-is : (lsn : ℤ) (kind : MessageKind) (payload : List ℕ) → kind ≡ head.kind → payload ≡ take head.len (drop (head.place + 17) whole)
          → All (λ entry. IsAt lsn (Inline at) entry → IsReadAs entry kind payload) (slice_index_or (now effect_of_entry (state_in seen gate spilled buffer usable)) pid [])
      read-is lsn kind payload k p =
          let w = is-written in
          let place : head.place ≡ at = found.3 in
          let pointer : DiskPtr = Inline at in
          subst (λ (l : List Entry). All (λ entry. IsAt lsn (Inline at) entry → IsReadAs entry kind payload) l) chain-is
          (All-from_recursion _ _ (entries-read whole chain lsn pointer kind payload written
          (k ∙ sym w.kind ∙ ap (λ n. kind_of (get_or (drop n whole) 0 0)) place)
          (p ∙ ap (λ n. take n (drop (head.place + 17) whole)) (sym w.len) ∙ ap (λ n. take (number (take 8 (drop (n + 9) whole))) (drop (n + 17) whole)) place)))
