-- Reading frames one after another.
use Rattle.std.proofs.Common.{◌≡◌, ◌≢◌, ℕ, zero, suc, ◌+◌, ◌^◌, ◌≤◌, ◌<◌, false, cond, ltb, eqb, List, [], ◌∷◌, ◌++◌, length, take, drop, refl, ap, sym, ◌∙◌, subst, inl, inr, append_assoc, arith}
use Rattle.std.specs.Prelude.{get_or, Option, Some, None, IfSome, ◌==◌, nat_lt, if◌then◌else◌}
use Rattle.std.specs.List.{AllByRecursion}
use Rattle.std.proofs.lemmas.Bool.{cases_lt, cases_eq, lt-ltb, le-ltb, eq-eqb, ne_eqb}
use Rattle.std.proofs.lemmas.List.{nil_from_length, take_at, drop_at, take-append-drop, length-append, length-take, length-drop}
use Rattle.sled_disk.specs.Format.{◌>>=◌, Record, Frame, number, number_bytes, body, frames_bytes, Fits, IsFrame, IsBytes, room_for}
use Rattle.sled_disk.specs.Reading.{Read, records_of, body_at, frames_in, frames_of, steps, steps_of, frames_steps, found_at}
use Rattle.sled_disk.specs.EncodingLaws.{IsBytes-drop, IsBytes-take, number-front, number-below, number-at_front, drop-number, number_bytes-length, records-take, records-again}

-- ---- a body after a gate

pub record TakesBody (bytes inside behind : List ℕ) : Type 0 where
  pub parts : bytes ≡ number_bytes (length inside) ++ (inside ++ behind)
  pub some : inside ≢ []
  pub small : length inside < 2 ^ 64
  pub inside_fits : IsBytes inside
  pub rest_fits : IsBytes behind

abbrev pub found : {A : Type 0} → A → Option A
found x = Some x

some_is : {A : Type 0} (x y : A) → found x ≡ found y → x ≡ y
some_is x y e = cc

pub body_at-takes : (bytes inside behind : List ℕ) → IsBytes bytes → body_at bytes ≡ Some (inside, behind) → TakesBody bytes inside behind
unfolding body_at
body_at-takes bytes inside behind fits e =
    let n = number (take 8 bytes) in
    let rest = drop 8 bytes in
    elim (cases_lt (length bytes) 8) [
      | inl few ↦ absurd (let f = lt-ltb (length bytes) 8 few in let g = rw f at e in cc)
      | inr head ↦ elim (cases_eq n 0) [
        | inl none ↦ absurd (let f = le-ltb (length bytes) 8 head in let z = eq-eqb n 0 none in let g = rw (f, z) at e in cc)
        | inr some ↦ elim (cases_lt (length rest) n) [
          | inl torn ↦ absurd (let f = le-ltb (length bytes) 8 head in let z = ne_eqb n 0 some in let t = lt-ltb (length rest) n torn in let g = rw (f, z, t) at e in cc)
          | inr all ↦
              let f = le-ltb (length bytes) 8 head in
              let z = ne_eqb n 0 some in
              let t = le-ltb (length rest) n all in
              let g = rw (f, z, t) at e in
              let len : length (take n rest) ≡ n = omega (arith, length-take n rest) in
              subst (λ (x : List ℕ × List ℕ). TakesBody bytes x.0 x.1) (some_is (take n rest, drop n rest) (inside, behind) g) (record {
                parts = number-front bytes head fits ∙ ap (λ (l : List ℕ). number_bytes n ++ l) (sym (take-append-drop n rest)) ∙ ap (λ m. number_bytes m ++ (take n rest ++ drop n rest)) (sym len);
                some = λ nil. some (sym len ∙ ap (λ (l : List ℕ). length l) nil);
                small = let b = number-below (take 8 bytes) (IsBytes-take 8 bytes fits) in omega arith;
                inside_fits = IsBytes-take n rest (IsBytes-drop 8 bytes fits);
                rest_fits = IsBytes-drop n rest (IsBytes-drop 8 bytes fits);
              })
        ]
      ]
    ]

pub body_at-again : (inside behind : List ℕ) → inside ≢ [] → length inside < 2 ^ 64 → body_at (number_bytes (length inside) ++ (inside ++ behind)) ≡ Some (inside, behind)
unfolding body_at
body_at-again inside behind some small =
    let bytes = number_bytes (length inside) ++ (inside ++ behind) in
    let head : ltb (length bytes) 8 ≡ false = le-ltb (length bytes) 8 (omega (arith, length-append (number_bytes (length inside)) (inside ++ behind), number_bytes-length (length inside))) in
    let z : eqb (length inside) 0 ≡ false = ne_eqb (length inside) 0 (λ e. some (nil_from_length inside e)) in
    let all : ltb (length (inside ++ behind)) (length inside) ≡ false = le-ltb (length (inside ++ behind)) (length inside) (omega (arith, length-append inside behind)) in
    rw (head, number-at_front (length inside) (inside ++ behind) small, z, drop-number (length inside) (inside ++ behind), all, take_at inside behind (length inside) refl, drop_at inside behind (length inside) refl) refl

-- ---- frames

-- a body after a gate, and what follows it
abbrev pub WholeBody : List ℕ → Option (List ℕ × List ℕ) → Type 0
WholeBody bytes x = IfSome x (λ x. 8 + length x.0 + length x.1 ≡ length bytes)

body_at-whole : (bytes : List ℕ) → WholeBody bytes (body_at bytes)
unfolding body_at
body_at-whole bytes =
    let n = number (take 8 bytes) in
    let rest = drop 8 bytes in
    elim (cases_lt (length bytes) 8) [
      | inl few ↦ rw (lt-ltb (length bytes) 8 few) tt
      | inr head ↦ elim (cases_eq n 0) [
        | inl none ↦ rw (le-ltb (length bytes) 8 head, eq-eqb n 0 none) tt
        | inr some ↦ elim (cases_lt (length rest) n) [
          | inl torn ↦ rw (le-ltb (length bytes) 8 head, ne_eqb n 0 some, lt-ltb (length rest) n torn) tt
          | inr all ↦ rw (le-ltb (length bytes) 8 head, ne_eqb n 0 some, le-ltb (length rest) n all) (omega (arith, length-take n rest, length-drop n rest, length-drop 8 bytes))
        ]
      ]
    ]

abbrev pub framed : ℕ → Option (List Record) → Option (List Frame) → Option (List Frame)
framed gate records frames = records >>= λ rs. frames >>= λ fs. Some (record { gate = gate; records = rs } ∷ fs)

-- more steps than bytes make no difference
same : (m n : ℕ) (bytes : List ℕ) → length bytes ≤ m → length bytes ≤ n → frames_in m bytes ≡ frames_in n bytes
unfolding frames_in
same m n [] a b = refl
same zero n (gate ∷ bytes) a b = absurd (omega arith)
same (suc m) zero (gate ∷ bytes) a b = absurd (omega arith)
same (suc m) (suc n) (gate ∷ bytes) a b = ap (λ (f : Option (List Frame)). if gate == 0 then Some [] else f) (by (body_at bytes) (body_at-whole bytes) (λ rest. same m n rest))
  where
    by : (x : Option (List ℕ × List ℕ)) → WholeBody bytes x → ((rest : List ℕ) → length rest ≤ m → length rest ≤ n → frames_in m rest ≡ frames_in n rest)
        → (x >>= λ x. framed gate (records_of x.0) (frames_in m x.1)) ≡ (x >>= λ x. framed gate (records_of x.0) (frames_in n x.1))
    by None w next = refl
    by (Some x) w next = ap (framed gate (records_of x.0)) (next x.1 (omega (arith, w)) (omega (arith, w)))

-- a frame after an open gate, and the frames after it
pub frames_of-more : (gate : ℕ) (bytes inside behind : List ℕ) → gate ≢ 0 → Some (inside, behind) ≡ body_at bytes → frames_of (gate ∷ bytes) ≡ framed gate (records_of inside) (frames_of behind)
unfolding frames_of frames_in
frames_of-more gate bytes inside behind opened is =
    let w : 8 + length inside + length behind ≡ length bytes = subst (WholeBody bytes) (sym is) (body_at-whole bytes) in
    ap (λ b. cond b (found []) (body_at bytes >>= λ x. framed gate (records_of x.0) (frames_in (length bytes) x.1))) (ne_eqb gate 0 opened)
    ∙ ap (λ (x : Option (List ℕ × List ℕ)). x >>= λ x. framed gate (records_of x.0) (frames_in (length bytes) x.1)) (sym is)
    ∙ ap (framed gate (records_of inside)) (same (length bytes) (length behind) behind (omega arith) (omega arith))

pub frames_of-closed : (gate : ℕ) (bytes : List ℕ) → gate ≡ 0 → frames_of (gate ∷ bytes) ≡ Some []
unfolding frames_of frames_in
frames_of-closed gate bytes closed = rw (eq-eqb gate 0 closed) refl

pub frames_of-torn : (gate : ℕ) (bytes : List ℕ) → gate ≢ 0 → None ≡ body_at bytes → frames_of (gate ∷ bytes) ≡ None
unfolding frames_of frames_in
frames_of-torn gate bytes opened is = rw (ne_eqb gate 0 opened, ← is) refl

-- ---- what all bytes from a gate on make

pub found_at-end : (gate : ℕ) (so_far : Read) → found_at gate so_far [] ≡ None
unfolding frames_of frames_in
found_at-end gate so_far = refl

pub found_at-closed : (at : ℕ) (so_far : Read) (gate : ℕ) (bytes : List ℕ) → gate ≡ 0 → found_at at so_far (gate ∷ bytes) ≡ (if nat_lt (at + room_for so_far.begun) (2 ^ 63) then Some (at, so_far) else None)
unfolding frames_steps
found_at-closed at so_far gate bytes closed = rw (frames_of-closed gate bytes closed) refl

pub found_at-torn : (at : ℕ) (so_far : Read) (gate : ℕ) (bytes : List ℕ) → gate ≢ 0 → None ≡ body_at bytes → found_at at so_far (gate ∷ bytes) ≡ None
found_at-torn at so_far gate bytes opened is = rw (frames_of-torn gate bytes opened is) refl

pub found_at-refused : (at : ℕ) (so_far : Read) (gate : ℕ) (bytes inside behind : List ℕ) → gate ≢ 0 → Some (inside, behind) ≡ body_at bytes → steps_of (at + 9) so_far inside ≡ None → found_at at so_far (gate ∷ bytes) ≡ None
unfolding frames_steps
found_at-refused at so_far gate bytes inside behind opened is refused = rw (frames_of-more gate bytes inside behind opened is) (by (records_of inside) (frames_of behind) refused)
  where
    by : (records : Option (List Record)) (frames : Option (List Frame)) → (records >>= λ rs. steps (at + 9) so_far rs) ≡ None → (framed gate records frames >>= λ fs. frames_steps at so_far fs) ≡ None
    by None frames h = refl
    by (Some rs) None h = refl
    by (Some rs) (Some fs) h = rw h refl

pub found_at-taken : (at : ℕ) (so_far : Read) (gate : ℕ) (bytes inside behind : List ℕ) (after : Read) → gate ≢ 0 → Some (inside, behind) ≡ body_at bytes → IsBytes inside → steps_of (at + 9) so_far inside ≡ Some after
    → found_at at so_far (gate ∷ bytes) ≡ found_at (at + (9 + length inside)) after behind
unfolding frames_steps
found_at-taken at so_far gate bytes inside behind after opened is fits taken = rw (frames_of-more gate bytes inside behind opened is) (by (records_of inside) (λ rs e. (records-take inside rs fits e).0) taken (frames_of behind))
  where
    by : (records : Option (List Record)) → ((rs : List Record) → records ≡ Some rs → inside ≡ body rs) → (records >>= λ rs. steps (at + 9) so_far rs) ≡ Some after → (frames : Option (List Frame))
        → (framed gate records frames >>= λ fs. frames_steps at so_far fs) ≡ (frames >>= λ fs. frames_steps (at + (9 + length inside)) after fs)
    by None whole h frames = absurd cc
    by (Some rs) whole h None = refl
    by (Some rs) whole h (Some fs) = rw h (ap (λ (l : List ℕ). frames_steps (at + (9 + length l)) after fs) (sym (whole rs refl)))

-- ---- reading inverts encoding, and encoding inverts reading

pub frames-again : (frames : List Frame) (rest : List ℕ) → AllByRecursion IsFrame frames → frames_of (frames_bytes frames ++ 0 ∷ rest) ≡ Some frames
frames-again [] rest each = frames_of-closed 0 rest refl
frames-again (frame ∷ frames) rest each =
    let inside = body frame.records in
    let behind = frames_bytes frames ++ 0 ∷ rest in
    let one = each.0 in
    let regrouped : frames_bytes (frame ∷ frames) ++ 0 ∷ rest ≡ frame.gate ∷ (number_bytes (length inside) ++ (inside ++ behind)) =
    ap (λ (l : List ℕ). frame.gate ∷ l) (append_assoc (number_bytes (length inside) ++ inside) (frames_bytes frames) (0 ∷ rest) ∙ append_assoc (number_bytes (length inside)) inside behind) in
    ap frames_of regrouped
    ∙ frames_of-more frame.gate (number_bytes (length inside) ++ (inside ++ behind)) inside behind one.gate (sym (body_at-again inside behind (λ nil. one.some (no_records frame.records nil)) one.length))
    ∙ rw (records-again frame.records one.fit, frames-again frames rest each.1) refl
  where
    no_records : (rs : List Record) → body rs ≡ [] → rs ≡ []
    no_records [] e = refl
    no_records (r ∷ rs) e = absurd cc

-- bytes that are these frames, then a closed gate and any bytes
pub record AreFrames (bytes : List ℕ) (frames : List Frame) : Type 0 where
  pub each : AllByRecursion IsFrame frames
  pub rest : List ℕ
  pub is : bytes ≡ frames_bytes frames ++ 0 ∷ rest

frames_in-take : (most : ℕ) (bytes : List ℕ) (frames : List Frame) → IsBytes bytes → frames_in most bytes ≡ Some frames → AreFrames bytes frames
unfolding frames_in
frames_in-take most [] frames fits e = absurd cc
frames_in-take zero (gate ∷ bytes) frames fits e = absurd cc
frames_in-take (suc most) (gate ∷ bytes) frames fits e =
    elim (cases_eq gate 0) [
      | inl closed ↦
          let z = eq-eqb gate 0 closed in
          let g = rw z at e in
          subst (AreFrames (gate ∷ bytes)) (some_is [] frames g) (record { each = tt; rest = bytes; is = ap (λ g. g ∷ bytes) closed })
      | inr opened ↦
          let z = ne_eqb gate 0 opened in
          let g = rw z at e in
          by opened (body_at bytes) refl g (λ (rest : List ℕ) (others : List Frame). frames_in-take most rest others)
    ]
  where
    more : gate ≢ 0 → (inside behind : List ℕ) → TakesBody bytes inside behind → (records : Option (List Record)) → ((rs : List Record) → records ≡ Some rs → (inside ≡ body rs) × AllByRecursion Fits rs)
        → (parsed : Option (List Frame)) → ((others : List Frame) → parsed ≡ Some others → AreFrames behind others) → framed gate records parsed ≡ Some frames → AreFrames (gate ∷ bytes) frames
    more opened inside behind t None whole parsed next e = absurd cc
    more opened inside behind t (Some rs) whole None next e = absurd cc
    more opened inside behind t (Some rs) whole (Some others) next e =
        let o = next others refl in
        let w = whole rs refl in
        let frame : Frame = record { gate = gate; records = rs } in
        subst (AreFrames (gate ∷ bytes)) (some_is (frame ∷ others) frames e) (record {
          each = (record { gate = opened; some = λ nil. t.some (w.0 ∙ ap body nil); fit = w.1; length = subst (λ (l : List ℕ). length l < 2 ^ 64) w.0 t.small }, o.each);
          rest = o.rest;
          is = ap (λ (l : List ℕ). gate ∷ l) (t.parts ∙ ap (λ (l : List ℕ). number_bytes (length l) ++ (l ++ behind)) w.0 ∙ sym (append_assoc (number_bytes (length (body rs))) (body rs) behind)
              ∙ ap (λ (l : List ℕ). (number_bytes (length (body rs)) ++ body rs) ++ l) o.is
              ∙ sym (append_assoc (number_bytes (length (body rs)) ++ body rs) (frames_bytes others) (0 ∷ o.rest)));
        })

    by : gate ≢ 0 → (x : Option (List ℕ × List ℕ)) → body_at bytes ≡ x → (x >>= λ x. framed gate (records_of x.0) (frames_in most x.1)) ≡ Some frames
        → ((rest : List ℕ) (others : List Frame) → IsBytes rest → frames_in most rest ≡ Some others → AreFrames rest others) → AreFrames (gate ∷ bytes) frames
    by opened None is e next = absurd cc
    by opened (Some x) is e next =
        let t = body_at-takes bytes x.0 x.1 (λ i. fits (suc i)) is in
        more opened x.0 x.1 t (records_of x.0) (λ rs h. records-take x.0 rs t.inside_fits h) (frames_in most x.1) (λ others. next x.1 others t.rest_fits) e

pub frames-take : (bytes : List ℕ) (frames : List Frame) → IsBytes bytes → frames_of bytes ≡ Some frames → AreFrames bytes frames
unfolding frames_of
frames-take bytes frames fits e = frames_in-take (length bytes) bytes frames fits e

-- ---- the same for the rest of a file

module _ (at : ℕ) (so_far : Read) where
  pub left-end : (rest : List ℕ) → length rest < 1 → found_at at so_far rest ≡ None
  left-end [] few = found_at-end at so_far
  left-end (gate ∷ bytes) few = absurd (omega arith)

  pub left-closed : (rest : List ℕ) → 1 ≤ length rest → get_or rest 0 0 ≡ 0 → at + room_for so_far.begun < 2 ^ 63 → found_at at so_far rest ≡ Some (at, so_far)
  left-closed [] some closed small = absurd (omega arith)
  left-closed (gate ∷ bytes) some closed small = found_at-closed at so_far gate bytes closed ∙ rw (lt-ltb (at + room_for so_far.begun) (2 ^ 63) small) refl

  pub left-far : (rest : List ℕ) → 1 ≤ length rest → get_or rest 0 0 ≡ 0 → 2 ^ 63 ≤ at + room_for so_far.begun → found_at at so_far rest ≡ None
  left-far [] some closed far = absurd (omega arith)
  left-far (gate ∷ bytes) some closed far = found_at-closed at so_far gate bytes closed ∙ rw (le-ltb (at + room_for so_far.begun) (2 ^ 63) far) refl

  pub left-torn : (rest : List ℕ) → 1 ≤ length rest → get_or rest 0 0 ≢ 0 → None ≡ body_at (drop 1 rest) → found_at at so_far rest ≡ None
  left-torn [] some opened is = absurd (omega arith)
  left-torn (gate ∷ bytes) some opened is = found_at-torn at so_far gate bytes opened is

  pub left-refused : (rest inside behind : List ℕ) → 1 ≤ length rest → get_or rest 0 0 ≢ 0 → Some (inside, behind) ≡ body_at (drop 1 rest) → steps_of (at + 9) so_far inside ≡ None → found_at at so_far rest ≡ None
  left-refused [] inside behind some opened is refused = absurd (omega arith)
  left-refused (gate ∷ bytes) inside behind some opened is refused = found_at-refused at so_far gate bytes inside behind opened is refused

  pub left-fits : (rest inside behind : List ℕ) → 1 ≤ length rest → Some (inside, behind) ≡ body_at (drop 1 rest) → IsBytes rest → IsBytes inside × IsBytes behind
  left-fits rest inside behind some is fits =
      let t = body_at-takes (drop 1 rest) inside behind (IsBytes-drop 1 rest fits) (sym is) in
      (t.inside_fits, t.rest_fits)

  pub left-taken : (rest inside behind : List ℕ) (after : Read) → 1 ≤ length rest → get_or rest 0 0 ≢ 0 → Some (inside, behind) ≡ body_at (drop 1 rest) → IsBytes rest → steps_of (at + 9) so_far inside ≡ Some after
      → found_at at so_far rest ≡ found_at (at + (9 + length inside)) after behind
  left-taken [] inside behind after some opened is fits taken = absurd (omega arith)
  left-taken (gate ∷ bytes) inside behind after some opened is fits taken = found_at-taken at so_far gate bytes inside behind after opened is (left-fits (gate ∷ bytes) inside behind some is fits).0 taken
