-- The lemmas on which a durable log rests.
use Rattle.std.proofs.Common.{◌≡◌, ℕ, ◌+◌, List, [], ◌∷◌, ◌++◌, length, take, drop, refl, ap, sym, ◌∙◌, append_assoc, arith}
use Rattle.std.specs.Prelude.{Option, Some, None}
use Rattle.std.specs.List.{AllByRecursion}
use Rattle.std.proofs.lemmas.List.{take_at, drop_at, take-append-drop, length-append, append-nil}
use Rattle.sled_log.specs.Events.{Event}
use Rattle.sled_log.specs.Messages.{Entry, effect_of_entry}
use Rattle.sled_disk.specs.Format.{◌>>=◌, opening, Record, Frame, Begun, Progress, number_bytes, body, frame_bytes, frames_bytes, IsFrame, turns, frames_turns, outside, said_by, takes_event, entry_at, DescribesTo, Describes}
use Rattle.sled_disk.specs.Reading.{frames_of}
use Rattle.sled_disk.specs.AppendedFrame.{MayFollow, IsWritten}
use Rattle.sled_disk.specs.FrameLaws.{frames-again}
use Rattle.sled_disk.specs.EncodingLaws.{number_bytes-length}
use Rattle.sled_disk.specs.MeaningLaws.{gate_after, gate_after-is}

-- ---- one meaning

pub frames-found : (gate : ℕ) (bytes : List ℕ) (events : List (Event Entry)) (d : DescribesTo gate bytes events) → frames_of (drop 8 bytes) ≡ Some d.frames
frames-found gate bytes events d =
    let is : bytes ≡ opening ++ (frames_bytes d.frames ++ 0 ∷ d.rest) = d.is ∙ append_assoc opening (frames_bytes d.frames) (0 ∷ d.rest) in
    ap (λ (l : List ℕ). frames_of (drop 8 l)) is ∙ ap frames_of (drop_at opening (frames_bytes d.frames ++ 0 ∷ d.rest) 8 refl) ∙ frames-again d.frames d.rest d.each

abbrev found : List Frame → Option (List Frame)
found frames = Some frames

abbrev said : Progress Entry (List (Event Entry)) → Option (Progress Entry (List (Event Entry)))
said p = Some p

same_frames : (x y : List Frame) → found x ≡ found y → x ≡ y
same_frames x y e = cc

-- the events that the frames describe
abbrev settled_or : List (Event Entry) → Option (Progress Entry (List (Event Entry))) → List (Event Entry)
settled_or events None = events
settled_or events (Some p) = p.settled

settled-is : (events others : List (Event Entry)) (begun other : Option (Begun Entry)) → said (record { settled = events; begun = begun }) ≡ said (record { settled = others; begun = other }) → events ≡ others
settled-is events others begun other e = ap (λ (x : Option (Progress Entry (List (Event Entry)))). settled_or [] x) e

pub one-meaning : (bytes : List ℕ) (events others : List (Event Entry)) → Describes bytes events → Describes bytes others → events ≡ others
one-meaning bytes events others (gate, d) (other, e) =
    let same = same_frames d.frames e.frames (sym (frames-found gate bytes events d) ∙ frames-found other bytes others e) in
    settled-is events others d.begun e.begun (sym d.meaning ∙ ap said_by same ∙ e.meaning)

-- ---- the bytes after the closed gate

pub behind-gate : (gate : ℕ) (bytes other : List ℕ) (events : List (Event Entry)) → DescribesTo gate bytes events → take (gate + 1) other ≡ take (gate + 1) bytes → DescribesTo gate other events
behind-gate gate bytes other events d same =
    let front = opening ++ frames_bytes d.frames in
    let place = d.place in
    let shut : take (gate + 1) bytes ≡ front ++ 0 ∷ [] =
    ap (take (gate + 1)) (d.is ∙ sym (append_assoc front (0 ∷ []) d.rest)) ∙ take_at (front ++ 0 ∷ []) d.rest (gate + 1) (omega (arith, length-append front (0 ∷ []))) in
    record {
      frames = d.frames;
      each = d.each;
      rest = drop (gate + 1) other;
      is = sym (take-append-drop (gate + 1) other) ∙ ap (λ (l : List ℕ). l ++ drop (gate + 1) other) (same ∙ shut) ∙ append_assoc front (0 ∷ []) (drop (gate + 1) other);
      place = d.place;
      begun = d.begun;
      small = d.small;
      meaning = d.meaning;
    }

-- ---- one more frame

pub frames_bytes-append : (xs ys : List Frame) → frames_bytes (xs ++ ys) ≡ frames_bytes xs ++ frames_bytes ys
frames_bytes-append [] ys = refl
frames_bytes-append (x ∷ xs) ys = ap (λ (l : List ℕ). frame_bytes x ++ l) (frames_bytes-append xs ys) ∙ sym (append_assoc (frame_bytes x) (frames_bytes xs) (frames_bytes ys))

pub each-append : (xs : List Frame) (y : Frame) → AllByRecursion IsFrame xs → IsFrame y → AllByRecursion IsFrame (xs ++ y ∷ [])
each-append [] y h i = (i, tt)
each-append (x ∷ xs) y h i = (h.0, each-append xs y h.1 i)

module _ {E S : Type 0} (said : ℕ → Record → E) (takes : S → ℕ → E → Option S) where
  handed-on : (x : Option (Progress E S)) → (x >>= λ q. Some q) ≡ x
  handed-on None = refl
  handed-on (Some q) = refl

  -- what the file describes with one more frame
  pub turns-append : (gate : ℕ) (p : Progress E S) (xs : List Frame) (y : Frame) → frames_turns said takes gate p (xs ++ y ∷ []) ≡ (frames_turns said takes gate p xs >>= λ q. turns said takes (gate_after gate xs + 9) q y.records)
  unfolding frames_turns
  turns-append gate p [] y = handed-on (turns said takes (gate + 9) p y.records)
  turns-append gate p (x ∷ xs) y = by (turns said takes (gate + 9) p x.records) (λ q. turns-append (gate + (9 + length (body x.records))) q xs y)
    where
      by : (found : Option (Progress E S)) → ((q : Progress E S) → frames_turns said takes (gate + (9 + length (body x.records))) q (xs ++ y ∷ []) ≡ (frames_turns said takes (gate + (9 + length (body x.records))) q xs >>= λ q. turns said takes (gate_after (gate + (9 + length (body x.records))) xs + 9) q y.records))
          → (found >>= λ q. frames_turns said takes (gate + (9 + length (body x.records))) q (xs ++ y ∷ [])) ≡ ((found >>= λ q. frames_turns said takes (gate + (9 + length (body x.records))) q xs) >>= λ q. turns said takes (gate_after (gate + (9 + length (body x.records))) xs + 9) q y.records)
      by None next = refl
      by (Some q) next = next q

pub one-more : (gate : ℕ) (bytes : List ℕ) (events after_events : List (Event Entry)) (frame : Frame) (after : List ℕ) (d : DescribesTo gate bytes events) → MayFollow gate events d.begun frame after_events → IsWritten gate bytes frame after
    → DescribesTo (gate + (9 + length (body frame.records))) after after_events
one-more gate bytes events after_events frame after d follows (rest, is) =
    let front = opening ++ frames_bytes d.frames in
    let place = d.place in
    let ends : gate_after 8 d.frames ≡ gate = gate_after-is 8 d.frames ∙ sym (length-append opening (frames_bytes d.frames)) ∙ sym d.place in
    let kept : take gate bytes ≡ front = ap (take gate) d.is ∙ take_at front (0 ∷ d.rest) gate (sym d.place) in
    let one : frames_bytes (d.frames ++ frame ∷ []) ≡ frames_bytes d.frames ++ frame_bytes frame = frames_bytes-append d.frames (frame ∷ []) ∙ ap (λ (l : List ℕ). frames_bytes d.frames ++ l) (append-nil (frame_bytes frame)) in
    let whole : front ++ frame_bytes frame ≡ opening ++ frames_bytes (d.frames ++ frame ∷ []) = append_assoc opening (frames_bytes d.frames) (frame_bytes frame) ∙ ap (λ (l : List ℕ). opening ++ l) (sym one) in
    record {
      frames = d.frames ++ frame ∷ [];
      each = each-append d.frames frame d.each follows.fits;
      rest = rest;
      is = is ∙ ap (λ (l : List ℕ). l ++ (frame_bytes frame ++ 0 ∷ rest)) kept ∙ sym (append_assoc front (frame_bytes frame) (0 ∷ rest)) ∙ ap (λ (l : List ℕ). l ++ 0 ∷ rest) whole;
      place = omega (arith, ap length whole, length-append front (frame_bytes frame), length-append (number_bytes (length (body frame.records))) (body frame.records), number_bytes-length (length (body frame.records)));
      begun = follows.ends_in;
      small = follows.small;
      meaning = turns-append entry_at (takes_event effect_of_entry) 8 (outside []) d.frames frame
          ∙ ap (λ (x : Option (Progress Entry (List (Event Entry)))). x >>= λ q. turns entry_at (takes_event effect_of_entry) (gate_after 8 d.frames + 9) q frame.records) d.meaning
          ∙ ap (λ n. turns entry_at (takes_event effect_of_entry) (n + 9) (record { settled = events; begun = d.begun }) frame.records) ends
          ∙ follows.says;
    }
