-- Reading a whole file returns what it describes, and what it describes is read.
use Rattle.std.proofs.Common.{◌≡◌, ◌≢◌, ℕ, ◌+◌, ◌^◌, ◌<◌, Bool, true, false, ltb, List, [], ◌∷◌, ◌++◌, length, take, drop, refl, ap, sym, ◌∙◌, subst, append_assoc, arith}
use Rattle.std.specs.Prelude.{Option, Some, None, nat_lt, if◌then◌else◌}
use Rattle.std.proofs.lemmas.Bool.{lt-ltb, ltb-true}
use Rattle.std.proofs.lemmas.List.{take_at, drop_at, take-append-drop, length-append}
use Rattle.sled_log.specs.Events.{Event}
use Rattle.sled_log.specs.Messages.{Entry}
use Rattle.sled_disk.specs.Format.{◌>>=◌, opening, Frame, frames_bytes, frames_turns, takes_change, outside, Progress, room_for, Describes, IsBytes}
use Rattle.sled_disk.specs.Reading.{Read, start, frames_of, frames_steps, found_at, head_at, effect_of_head, entry_in, Holds}
use Rattle.sled_disk.specs.RecoveredHeads.{AreRead}
use Rattle.sled_disk.specs.FrameLaws.{AreFrames, frames-take, frames-again}
use Rattle.sled_disk.specs.MeaningLaws.{gate_after, gate_after-is, frames_steps-are, FramesSeen, frames_seen, frames-meant, frames-read, same-room, same-chains, IsMeant}
use Rattle.sled_disk.specs.EncodingLaws.{IsBytes-drop}

-- what a test let through
pub if-true : {A : Type 0} (b : Bool) (x y : A) → (if b then Some x else None) ≡ Some y → (b ≡ true) × (x ≡ y)
if-true true x y e = (refl, cc)
if-true false x y e = absurd cc

-- the frames were read, and there is room after them
pub record AreStepped (gate : ℕ) (read : Read) (frames : List Frame) : Type 0 where
  pub turned : frames_turns head_at (takes_change effect_of_head) 8 start frames ≡ Some read
  pub ends : gate_after 8 frames ≡ gate
  pub small : gate + room_for read.begun < 2 ^ 63

pub stepped : (gate : ℕ) (read : Read) (frames : List Frame) → frames_steps 8 start frames ≡ Some (gate, read) → AreStepped gate read frames
stepped gate read frames e = by (frames_turns head_at (takes_change effect_of_head) 8 start frames) refl (sym (frames_steps-are 8 start frames) ∙ e)
  where
    ends_in : Read → Option (ℕ × Read)
    ends_in q = if nat_lt (gate_after 8 frames + room_for q.begun) (2 ^ 63) then Some (gate_after 8 frames, q) else None

    by : (x : Option Read) → frames_turns head_at (takes_change effect_of_head) 8 start frames ≡ x → (x >>= ends_in) ≡ Some (gate, read) → AreStepped gate read frames
    by None is h = absurd cc
    by (Some q) is h =
        let t = if-true (nat_lt (gate_after 8 frames + room_for q.begun) (2 ^ 63)) (gate_after 8 frames, q) (gate, read) h in
        let end : gate_after 8 frames ≡ gate = ap (λ (x : ℕ × Read). x.0) t.1 in
        let same : q ≡ read = ap (λ (x : ℕ × Read). x.1) t.1 in
        record {
          turned = is ∙ ap (λ (q : Read). Some q) same;
          ends = end;
          small = subst (λ (n : ℕ). n + room_for read.begun < 2 ^ 63) end (subst (λ (q : Read). gate_after 8 frames + room_for q.begun < 2 ^ 63) same (ltb-true (gate_after 8 frames + room_for q.begun) (2 ^ 63) t.0));
        }

-- frames and what follows them, after the opening bytes
parts : (frames : List Frame) (rest : List ℕ) → (opening ++ frames_bytes frames) ++ 0 ∷ rest ≡ opening ++ (frames_bytes frames ++ 0 ∷ rest)
parts frames rest = append_assoc opening (frames_bytes frames) (0 ∷ rest)

seen-in : (bytes : List ℕ) (frames : List Frame) (rest : List ℕ) → bytes ≡ opening ++ (frames_bytes frames ++ 0 ∷ rest) → FramesSeen (entry_in bytes) 8 frames
seen-in bytes frames rest is = frames_seen bytes opening 8 frames (0 ∷ rest) is refl

-- what is found was described
pub found-holds : (bytes : List ℕ) (gate : ℕ) (read : Read) → IsBytes bytes → take 8 bytes ≡ opening → found_at 8 start (drop 8 bytes) ≡ Some (gate, read) → Holds bytes gate read.settled
found-holds bytes gate read fits opens e = by (frames_of (drop 8 bytes)) (λ frames is. frames-take (drop 8 bytes) frames (IsBytes-drop 8 bytes fits) is) e
  where
    by : (parsed : Option (List Frame)) → ((frames : List Frame) → parsed ≡ Some frames → AreFrames (drop 8 bytes) frames) → (parsed >>= λ frames. frames_steps 8 start frames) ≡ Some (gate, read) → Holds bytes gate read.settled
    by None whole h = absurd cc
    by (Some frames) whole h =
        let w = whole frames refl in
        let t = stepped gate read frames h in
        let is : bytes ≡ opening ++ (frames_bytes frames ++ 0 ∷ w.rest) = sym (take-append-drop 8 bytes) ∙ ap (λ (l : List ℕ). l ++ drop 8 bytes) opens ∙ ap (λ (l : List ℕ). opening ++ l) w.is in
        let m : IsMeant (entry_in bytes) _ read = frames-meant (entry_in bytes) (λ head. refl) 8 (outside []) start read frames (seen-in bytes frames w.rest is) refl t.turned in
        let place : gate ≡ length (opening ++ frames_bytes frames) = sym t.ends ∙ gate_after-is 8 frames ∙ sym (length-append opening (frames_bytes frames)) in
        record {
          events = m.0.settled;
          described = record {
            frames = frames;
            each = w.each;
            rest = w.rest;
            is = is ∙ sym (parts frames w.rest);
            place = place;
            begun = m.0.begun;
            small = subst (λ (n : ℕ). gate + n < 2 ^ 63) (sym (same-room (entry_in bytes) m.0 read m.2)) t.small;
            meaning = m.1;
          };
          kept = same-chains (entry_in bytes) m.0 read m.2;
        }

-- what is described opens and is found
pub described-opens : (bytes : List ℕ) (events : List (Event Entry)) → Describes bytes events → take 8 bytes ≡ opening
described-opens bytes events (gate, d) = ap (take 8) (d.is ∙ parts d.frames d.rest) ∙ take_at opening (frames_bytes d.frames ++ 0 ∷ d.rest) 8 refl

pub described-found : (bytes : List ℕ) (events : List (Event Entry)) → Describes bytes events → found_at 8 start (drop 8 bytes) ≢ None
described-found bytes events (gate, d) none =
    let is = d.is ∙ parts d.frames d.rest in
    let meant : Progress Entry (List (Event Entry)) = record { settled = events; begun = d.begun } in
    let r = frames-read (entry_in bytes) (λ head. refl) 8 (outside []) meant start d.frames (seen-in bytes d.frames d.rest is) refl d.meaning in
    let room = same-room (entry_in bytes) meant r.0 (sym r.2) in
    let behind : drop 8 bytes ≡ frames_bytes d.frames ++ 0 ∷ d.rest = ap (drop 8) is ∙ drop_at opening (frames_bytes d.frames ++ 0 ∷ d.rest) 8 refl in
    let parsed = ap frames_of behind ∙ frames-again d.frames d.rest d.each in
    let place = d.place in
    let small' = d.small in
    let small : ltb (gate_after 8 d.frames + room_for r.0.begun) (2 ^ 63) ≡ true = lt-ltb (gate_after 8 d.frames + room_for r.0.begun) (2 ^ 63) (omega (arith, room, gate_after-is 8 d.frames, length-append opening (frames_bytes d.frames))) in
    let found : found_at 8 start (drop 8 bytes) ≡ Some (gate_after 8 d.frames, r.0) =
    ap (λ (p : Option (List Frame)). p >>= λ frames. frames_steps 8 start frames) parsed ∙ frames_steps-are 8 start d.frames ∙ rw (r.1, small) refl in
    absurd (let both = sym found ∙ none in cc)

-- what was read was described
pub read-holds : (bytes : List ℕ) (gate : ℕ) (read : Read) → IsBytes bytes → AreRead bytes gate read → Holds bytes gate read.settled
read-holds bytes gate read fits are = found-holds bytes gate read fits are.opens are.found
