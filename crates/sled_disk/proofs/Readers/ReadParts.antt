-- What is read at a place of a disk.
use Rattle.std.proofs.Common.{◌≡◌, ◌≢◌, ℕ, ◌+◌, ◌-◌, ◌≤◌, ◌<◌, List, [], ◌∷◌, length, take, drop, refl, ap, sym, ◌∙◌, arith}
use Rattle.std.specs.Prelude.{Some, None, get_or, ◌^◌}
use Rattle.sled_disk.specs.declared.format.record.RawHead.{RawHead}
use Rattle.sled_disk.specs.UnreadBytes.{piece}
use Rattle.sled_disk.specs.DiskReads.{HeadOnDisk}
use Rattle.sled_disk.specs.FrameLaws.{left-end, left-closed, left-far, left-torn, left-refused, left-taken}
use Rattle.sled_disk.specs.EncodingLaws.{IsBytes-drop}
use Rattle.std.proofs.lemmas.Bool.{lt-ltb, le-ltb, eq-eqb, ne_eqb}
use Rattle.std.proofs.lemmas.List.{drop-drop, drop-take, take-take, length-drop, length-take, get_or-take}
use Rattle.sled_disk.specs.Format.{number, room_for, IsBytes}
use Rattle.sled_disk.specs.Reading.{Read, body_at, found_at, raw_record, record_at, steps_of}

module _ (seen : List ℕ) (at : ℕ) where
  pub body-few : length seen < at + 8 → body_at (drop at seen) ≡ None
  unfolding body_at
  body-few few = rw (lt-ltb (length (drop at seen)) 8 (omega (arith, length-drop at seen))) refl

  pub body-empty : at + 8 ≤ length seen → number (take 8 (drop at seen)) ≡ 0 → body_at (drop at seen) ≡ None
  unfolding body_at
  body-empty long none = rw (le-ltb (length (drop at seen)) 8 (omega (arith, length-drop at seen)), eq-eqb _ 0 none) refl

  pub body-torn : (n : ℕ) → at + 8 ≤ length seen → number (take 8 (drop at seen)) ≡ n → n ≢ 0 → length seen < at + 8 + n → body_at (drop at seen) ≡ None
  unfolding body_at
  body-torn n long is some torn = rw (le-ltb (length (drop at seen)) 8 (omega (arith, length-drop at seen)), is, ne_eqb n 0 some, lt-ltb (length (drop 8 (drop at seen))) n (omega (arith, length-drop 8 (drop at seen), length-drop at seen))) refl

  pub body-whole : (n : ℕ) → at + 8 + n ≤ length seen → number (take 8 (drop at seen)) ≡ n → n ≢ 0 → body_at (drop at seen) ≡ Some (piece seen (at + 8) (at + (8 + n)), drop (at + (8 + n)) seen)
  unfolding body_at
  body-whole n all is some =
      let behind : drop 8 (drop at seen) ≡ drop (at + 8) seen = drop-drop 8 at seen in
      let inside : take n (drop (at + 8) seen) ≡ piece seen (at + 8) (at + (8 + n)) = ap (λ m. take m (drop (at + 8) seen)) (omega arith) in
      let rest : drop n (drop (at + 8) seen) ≡ drop (at + (8 + n)) seen = drop-drop n (at + 8) seen ∙ ap (λ m. drop m seen) (omega arith) in
      rw (le-ltb (length (drop at seen)) 8 (omega (arith, length-drop at seen)), is, ne_eqb n 0 some, le-ltb (length (drop 8 (drop at seen))) n (omega (arith, length-drop 8 (drop at seen), length-drop at seen)), behind, inside, rest) refl

-- ---- a record at the front of bytes

record-few : (bytes : List ℕ) → length bytes < 17 → record_at bytes ≡ None
unfolding record_at
record-few [] few = refl
record-few (kind ∷ bytes) few = rw (lt-ltb (length bytes) 16 (omega arith)) refl

record-torn : (bytes : List ℕ) (n : ℕ) → 17 ≤ length bytes → number (take 8 (drop 9 bytes)) ≡ n → length bytes < 17 + n → record_at bytes ≡ None
unfolding record_at
record-torn [] n long is torn = absurd (omega arith)
record-torn (kind ∷ bytes) n long is torn = rw (le-ltb (length bytes) 16 (omega arith), is, lt-ltb (length (drop 16 bytes)) n (omega (arith, length-drop 16 bytes))) refl

record-whole : (bytes : List ℕ) (kind id n : ℕ) → 17 ≤ length bytes → kind ≡ get_or bytes 0 0 → id ≡ number (take 8 (drop 1 bytes)) → number (take 8 (drop 9 bytes)) ≡ n → 17 + n ≤ length bytes
    → record_at bytes ≡ Some (record { kind = kind; id = id; payload = take n (drop 17 bytes) }, drop n (drop 17 bytes))
unfolding record_at
record-whole [] kind id n long kind-is id-is is all = absurd (omega arith)
record-whole (first ∷ bytes) kind id n long kind-is id-is is all = rw (le-ltb (length bytes) 16 (omega arith), is, le-ltb (length (drop 16 bytes)) n (omega (arith, length-drop 16 bytes)), kind-is, id-is) refl

-- ---- a record in a body

-- a part of what is taken
part : (k n m : ℕ) (bytes : List ℕ) → k + n ≤ m → take n (drop k (take m bytes)) ≡ take n (drop k bytes)
part k n m bytes le =
    let split : m ≡ k + (m - k) = omega arith in
    ap (λ i. take n (drop k (take i bytes))) split ∙ ap (take n) (drop-take k (m - k) bytes) ∙ take-take n (m - k) (drop k bytes) (omega arith)

module _ (seen : List ℕ) (at end : ℕ) where
  abbrev body : List ℕ
  body = piece seen at end

  body-length : end ≤ length seen → at ≤ end → length body ≡ end - at
  body-length le within = omega (arith, length-take (end - at) (drop at seen), length-drop at seen)

  pub head-few : at ≤ end → end ≤ length seen → end - at < 17 → record_at (piece seen at end) ≡ None
  head-few within le few = record-few body (omega (arith, body-length le within))

  -- the number so far behind the record's place
  number-in : (k : ℕ) (window : List ℕ) → k + 8 ≤ 17 → at + 17 ≤ end → take 17 window ≡ take 17 (drop at seen) → number (take 8 (drop k window)) ≡ number (take 8 (drop k body))
  number-in k window le room shown =
      ap number (sym (part k 8 17 window le) ∙ ap (λ (l : List ℕ). take 8 (drop k l)) shown ∙ part k 8 17 (drop at seen) le ∙ sym (part k 8 (end - at) (drop at seen) (omega arith)))

  first-in : (window : List ℕ) → at + 17 ≤ end → take 17 window ≡ take 17 (drop at seen) → get_or window 0 0 ≡ get_or body 0 0
  first-in window room shown =
      sym (get_or-take 17 window 0 0 (omega arith)) ∙ ap (λ (l : List ℕ). get_or l 0 0) shown ∙ get_or-take 17 (drop at seen) 0 0 (omega arith) ∙ sym (get_or-take (end - at) (drop at seen) 0 0 (omega arith))

  pub head-torn : (window : List ℕ) (n : ℕ) → at + 17 ≤ end → end ≤ length seen → take 17 window ≡ take 17 (drop at seen) → n ≡ number (take 8 (drop 9 window)) → end - at < 17 + n → record_at (piece seen at end) ≡ None
  head-torn window n room le shown is torn =
      let long = body-length le (omega arith) in
      record-torn body n (omega (arith, long)) (sym (number-in 9 window (omega arith) room shown) ∙ sym is) (omega (arith, long))

  pub head-whole : (window : List ℕ) (head : RawHead) (n : ℕ) → at + (17 + n) ≤ end → end ≤ length seen → take 17 window ≡ take 17 (drop at seen) → head.kind ≡ get_or window 0 0 → head.page ≡ number (take 8 (drop 1 window)) → n ≡ number (take 8 (drop 9 window))
      → HeadOnDisk seen at end (Some (head, n))
  head-whole window head n room le shown kind-is page-is is =
      let long = body-length le (omega arith) in
      let payload : take n (drop 17 body) ≡ piece seen (at + 17) (at + (17 + n)) =
      part 17 n (end - at) (drop at seen) (omega arith) ∙ ap (take n) (drop-drop 17 at seen) ∙ ap (λ m. take m (drop (at + 17) seen)) (omega arith) in
      let rest : drop n (drop 17 body) ≡ piece seen (at + (17 + n)) end =
      drop-drop n 17 body ∙ ap (λ m. drop (17 + n) (take m (drop at seen))) (omega arith) ∙ drop-take (17 + n) (end - (at + (17 + n))) (drop at seen) ∙ ap (take (end - (at + (17 + n)))) (drop-drop (17 + n) at seen) in
      record-whole body head.kind head.page n (omega (arith, long)) (kind-is ∙ first-in window (omega arith) shown) (page-is ∙ number-in 1 window (omega arith) (omega arith) shown) (sym (number-in 9 window (omega arith) (omega arith) shown) ∙ sym is) (omega (arith, long))
      ∙ ap (λ (p : List ℕ). Some (raw_record head p, drop n (drop 17 body))) payload
      ∙ ap (λ (l : List ℕ). Some (raw_record head (piece seen (at + 17) (at + (17 + n))), l)) rest

-- ---- a step of the loop over gates, where a body was read

module _ (seen : List ℕ) (at : ℕ) (so_far : Read) where
  gate_is : (gate : ℕ) → gate ≡ get_or (drop at seen) 0 0 → (n : ℕ) → gate ≡ n → get_or (drop at seen) 0 0 ≡ n
  gate_is gate is n e = sym is ∙ e

  behind-is : drop 1 (drop at seen) ≡ drop (at + 1) seen
  behind-is = drop-drop 1 at seen

  some-left : at < length seen → 1 ≤ length (drop at seen)
  some-left lt = omega (arith, length-drop at seen)

  pub gates-end : length seen ≤ at → found_at at so_far (drop at seen) ≡ None
  gates-end le = left-end at so_far (drop at seen) (omega (arith, length-drop at seen))

  pub gates-closed : (gate : ℕ) → at < length seen → gate ≡ get_or (drop at seen) 0 0 → gate ≡ 0 → at + room_for so_far.begun < 2 ^ 63 → found_at at so_far (drop at seen) ≡ Some (at, so_far)
  gates-closed gate lt is closed small = left-closed at so_far (drop at seen) (some-left lt) (gate_is gate is 0 closed) small

  pub gates-far : (gate : ℕ) → at < length seen → gate ≡ get_or (drop at seen) 0 0 → gate ≡ 0 → 2 ^ 63 ≤ at + room_for so_far.begun → found_at at so_far (drop at seen) ≡ None
  gates-far gate lt is closed far = left-far at so_far (drop at seen) (some-left lt) (gate_is gate is 0 closed) far

  pub gates-torn : (gate : ℕ) → at < length seen → gate ≡ get_or (drop at seen) 0 0 → gate ≢ 0 → body_at (drop (at + 1) seen) ≡ None → found_at at so_far (drop at seen) ≡ None
  gates-torn gate lt is opened none = left-torn at so_far (drop at seen) (some-left lt) (λ e. opened (is ∙ e)) (sym (ap body_at behind-is ∙ none))

  pub gates-refused : (gate : ℕ) (inside behind : List ℕ) → at < length seen → gate ≡ get_or (drop at seen) 0 0 → gate ≢ 0 → body_at (drop (at + 1) seen) ≡ Some (inside, behind) → steps_of (at + 9) so_far inside ≡ None → found_at at so_far (drop at seen) ≡ None
  gates-refused gate inside behind lt is opened some refused = left-refused at so_far (drop at seen) inside behind (some-left lt) (λ e. opened (is ∙ e)) (sym (ap body_at behind-is ∙ some)) refused

  pub gates-taken : (gate : ℕ) (inside behind : List ℕ) (after : Read) → at < length seen → gate ≡ get_or (drop at seen) 0 0 → gate ≢ 0 → body_at (drop (at + 1) seen) ≡ Some (inside, behind) → IsBytes seen → steps_of (at + 9) so_far inside ≡ Some after
      → found_at at so_far (drop at seen) ≡ found_at (at + (9 + length inside)) after behind
  gates-taken gate inside behind after lt is opened some fits taken =
      left-taken at so_far (drop at seen) inside behind after (some-left lt) (λ e. opened (is ∙ e)) (sym (ap body_at behind-is ∙ some)) (IsBytes-drop at seen fits) taken

-- what a window shows of a place
pub shown-at : (seen window : List ℕ) (start from len at : ℕ) → window ≡ take (length window) (drop start seen) → start + from ≡ at → from + len ≤ length window → take len (drop from window) ≡ take len (drop at seen)
shown-at seen window start from len at shows place has =
    let m = length window - from in
    let split : length window ≡ from + m = omega (arith, has) in
    ap (λ (l : List ℕ). take len (drop from l)) (shows ∙ ap (λ n. take n (drop start seen)) split)
    ∙ ap (take len) (drop-take from m (drop start seen))
    ∙ take-take len m (drop from (drop start seen)) (omega (arith, has))
    ∙ ap (take len) (drop-drop from start seen ∙ ap (λ n. drop n seen) place)
