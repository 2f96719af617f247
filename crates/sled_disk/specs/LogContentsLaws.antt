-- What follows for a file and the records after it.
use Rattle.std.proofs.Common.{◌≡◌, ◌≢◌, ℕ, ◌+◌, ◌^◌, ◌<◌, Bool, true, false, List, [], ◌∷◌, ◌++◌, length, map, take, drop, refl, ap, sym, ◌∙◌, subst, append_assoc, arith}
use Rattle.std.specs.Prelude.{Option, Some, None, ◌&&◌, ◌||◌, ◌==◌, if◌then◌else◌}
use Rattle.std.specs.List.{AllByRecursion, list_all}
use Rattle.std.proofs.lemmas.Bool.{lt-ltb, eqb-true, eq-eqb}
use Rattle.std.proofs.lemmas.List.{take_at, drop_at, take-append-drop, length-append, append-nil}
use Rattle.sled_base.specs.Kinds.{kind_of}
use Rattle.sled_base.specs.declared.kinds.MessageKind.{MessageKind}
use Rattle.sled_base.specs.declared.kinds.MessageKind.TheVariants as kinds
use Rattle.sled_log.specs.Chains.{chains_after}
use Rattle.sled_log.specs.Events.{Change}
use Rattle.sled_log.specs.Inside.Laws.{chains_after-append}
use Rattle.sled_log.specs.Messages.{Chain, Entry, effect_of_entry}
use Rattle.sled_disk.specs.declared.recovery.head.Head.{Head}
use Rattle.sled_disk.specs.Format.{◌>>=◌, opening, Record, Fits, Frame, IsFrame, Begun, outside, size, number, number_bytes, record_bytes, body, frame_bytes, frames_bytes, is_mark, is_begin, stands_in, marks, taken, turns, turn, turn_by, plain, within, frames_turns, takes_change, takes_event, may_change, said_by, room_for, entry_at, DescribesTo, IsBytes}
use Rattle.sled_disk.specs.Reading.{Read, start, frames_of, frames_steps, found_at, step, steps, head_at, effect_of_head, entry_in}
use Rattle.sled_disk.specs.AppendedFrame.{MayFollow, IsWritten}
use Rattle.sled_disk.specs.AppendedFrameLaws.{frames_bytes-append, each-append, turns-append}
use Rattle.sled_disk.specs.FrameLaws.{frames-take, frames-again, found}
use Rattle.sled_disk.specs.MeaningLaws.{gate_after, gate_after-is, frames_steps-are, AreSeen, are_seen, frames_seen, IsMeant, StandsFor, Meant, Made, made_of, made_in, meant_turns, frames-meant, turns-meant, same-room, same-chains, seen_option, taken-seen, takes_change-seen, record_bytes-length}
use Rattle.sled_disk.specs.EncodingLaws.{IsBytes-drop, number_bytes-length}
use Rattle.sled_disk.specs.Pending.{changes, batch_events, pending_events, is_own}
use Rattle.sled_disk.specs.PendingLaws.{settles, open_events}
use Rattle.sled_disk.specs.LogContents.{bool_eq, or_none, or_start, progress_in, events_in, inside_in, inside_of, is_begun, begins_at, chains_now, progress_then, Stands}
use Rattle.sled_disk.specs.WholeLaws.{if-true, AreStepped, stepped}

-- ---- the frames, one by one

-- a file of these frames, and what they and the records make
pub record Parsed (seen : List ℕ) (gate : ℕ) (spilled : Bool) (rs : List Record) (batch : Option ℕ) (heads : List (List Head)) : Type 0 where
  pub frames : List Frame
  pub each : AllByRecursion IsFrame frames
  pub rest : List ℕ
  pub is : seen ≡ opening ++ (frames_bytes frames ++ 0 ∷ rest)
  pub before : Read
  pub opened : frames_steps 8 start frames ≡ Some (gate, before)
  pub begun : is_begun before.begun ≡ spilled
  pub last : Read
  pub made : steps (gate + 9) before rs ≡ Some last
  pub ends : begins_at batch last.begun ≡ true
  pub all : chains_now last ≡ Some heads

some_is : {A : Type 0} (x y : A) → found x ≡ found y → x ≡ y
some_is x y e = cc

bool_eq-true : (a b : Bool) → bool_eq a b ≡ true → a ≡ b
bool_eq-true true b h = sym h
bool_eq-true false true h = absurd cc
bool_eq-true false false h = refl

bool_eq-same : (a : Bool) → bool_eq a a ≡ true
bool_eq-same true = refl
bool_eq-same false = refl

both-of : (a b : Bool) → a && b ≡ true → (a ≡ true) × (b ≡ true)
both-of true b h = (refl, h)
both-of false b h = absurd cc

if-some : {A : Type 0} (b : Bool) (x : Option A) (y : A) → (if b then x else None) ≡ Some y → (b ≡ true) × (x ≡ Some y)
if-some true x y e = (refl, e)
if-some false x y e = absurd cc

then-some : {A B : Type 0} (x : Option A) (f : A → Option B) (y : B) → (x >>= f) ≡ Some y → (a : A) × (x ≡ Some a) × (f a ≡ Some y)
then-some None f y e = absurd cc
then-some (Some a) f y e = (a, refl, e)

-- what the records after the gate make, if the file ends with that gate and that progress
abbrev made_behind : ℕ → Bool → Option ℕ → List Record → ℕ × Read → Option (List (List Head))
made_behind gate spilled batch rs x = if x.0 == gate && bool_eq (is_begun x.1.begun) spilled then (steps (gate + 9) x.1 rs >>= λ q. if begins_at batch q.begun then chains_now q else None) else None

-- ---- changes of a batch that count

same-changes : (inside : List (ℕ × Entry)) → map {B = ℕ × Entry} (λ change. (change.0, change.1)) inside ≡ inside
same-changes [] = refl
same-changes (change ∷ inside) = ap (λ (l : List (ℕ × Entry)). change ∷ l) (same-changes inside)

taken-chain : (s t : List (List Entry)) (id : ℕ) (e : Entry) → takes_change effect_of_entry s id e ≡ Some t → t ≡ chains_after effect_of_entry s (Change id e ∷ [])
taken-chain s t id e is = sym (if-true (may_change effect_of_entry (effect_of_entry e) s id) (chains_after effect_of_entry s (Change id e ∷ [])) t is).1

taken-chains : (s t : List (List Entry)) (inside : List (ℕ × Entry)) → taken entry_at (takes_change effect_of_entry) s inside ≡ Some t → chains_after effect_of_entry s (changes inside) ≡ t
taken-chains s t [] is = some_is s t is
taken-chains s t (change ∷ inside) is =
    let one = then-some (takes_change effect_of_entry s change.0 change.1) (λ m. taken entry_at (takes_change effect_of_entry) m inside) t is in
    ap (λ (l : List (List Entry)). chains_after effect_of_entry l (changes inside)) (sym (taken-chain s one.0 change.0 change.1 one.1)) ∙ taken-chains one.0 t inside one.2

-- the mark of a batch changes no chain
batch-chains : (chains : List Chain) (b : Bool) (begun : Option (Begun Entry)) → is_begun begun ≡ b → chains_after effect_of_entry chains (batch_events b (inside_of begun)) ≡ chains_after effect_of_entry chains (changes (inside_of begun))
batch-chains chains true begun e = refl
batch-chains chains false None e = refl
batch-chains chains false (Some begun) e = absurd cc

module _ (seen : List ℕ) (gate : ℕ) (spilled : Bool) (rs : List Record) (batch : Option ℕ) (heads : List (List Head)) where
  pub parsed : IsBytes seen → Stands seen gate spilled rs batch heads → Parsed seen gate spilled rs batch heads
  parsed fits s =
      let one = then-some (found_at 8 start (drop 8 seen)) (made_behind gate spilled batch rs) heads s.made in
      let two = then-some (frames_of (drop 8 seen)) (λ frames. frames_steps 8 start frames) one.0 one.1 in
      let w = frames-take (drop 8 seen) two.0 (IsBytes-drop 8 seen fits) two.1 in
      let three = if-some (one.0.0 == gate && bool_eq (is_begun one.0.1.begun) spilled) (steps (gate + 9) one.0.1 rs >>= λ q. if begins_at batch q.begun then chains_now q else None) heads one.2 in
      let four = both-of (one.0.0 == gate) (bool_eq (is_begun one.0.1.begun) spilled) three.0 in
      let five = then-some (steps (gate + 9) one.0.1 rs) (λ q. if begins_at batch q.begun then chains_now q else None) heads three.1 in
      let six = if-some (begins_at batch five.0.begun) (chains_now five.0) heads five.2 in
      record {
        frames = two.0;
        each = w.each;
        rest = w.rest;
        is = sym (take-append-drop 8 seen) ∙ ap (λ (l : List ℕ). l ++ drop 8 seen) s.opens ∙ ap (λ (l : List ℕ). opening ++ l) w.is;
        before = one.0.1;
        opened = two.2 ∙ ap (λ n. found (n, one.0.1)) (eqb-true one.0.0 gate four.0);
        begun = bool_eq-true (is_begun one.0.1.begun) spilled four.1;
        last = five.0;
        made = five.1;
        ends = six.0;
        all = six.1;
      }

  pub stands : Parsed seen gate spilled rs batch heads → Stands seen gate spilled rs batch heads
  stands p =
      let inner : drop 8 seen ≡ frames_bytes p.frames ++ 0 ∷ p.rest = ap (drop 8) p.is ∙ drop_at opening (frames_bytes p.frames ++ 0 ∷ p.rest) 8 refl in
      let read : found_at 8 start (drop 8 seen) ≡ Some (gate, p.before) = ap (λ (l : List ℕ). found_at 8 start l) inner ∙ rw (frames-again p.frames p.rest p.each) p.opened in
      let same : bool_eq (is_begun p.before.begun) spilled ≡ true = ap (λ b. bool_eq b spilled) p.begun ∙ bool_eq-same spilled in
      record {
        opens = ap (take 8) p.is ∙ take_at opening (frames_bytes p.frames ++ 0 ∷ p.rest) 8 refl;
        made = rw (read, eq-eqb gate gate refl, same, p.made, p.ends) p.all;
      }

  module _ (p : Parsed seen gate spilled rs batch heads) where
    turned : AreStepped gate p.before p.frames
    turned = stepped gate p.before p.frames p.opened

    pub gate-room : gate + room_for p.before.begun < 2 ^ 63
    gate-room = turned.small

    pub gate-small : gate < 2 ^ 63
    gate-small = let small = turned.small in omega (arith, small)

    pub ends-at : gate_after 8 p.frames ≡ gate
    ends-at = turned.ends

    pub place-is : length (opening ++ frames_bytes p.frames) ≡ gate
    place-is = length-append opening (frames_bytes p.frames) ∙ sym (gate_after-is 8 p.frames) ∙ turned.ends

    pub frames-read : or_none (frames_of (drop 8 seen)) ≡ p.frames
    frames-read = ap or_none (ap (λ (l : List ℕ). frames_of (drop 8 l)) p.is ∙ ap frames_of (drop_at opening (frames_bytes p.frames ++ 0 ∷ p.rest) 8 refl) ∙ frames-again p.frames p.rest p.each)

    -- bytes with these frames have the meaning of the frames
    frames-in : (bytes behind : List ℕ) → bytes ≡ opening ++ (frames_bytes p.frames ++ behind) → IsMeant (entry_in bytes) (said_by p.frames) p.before
    frames-in bytes behind is = frames-meant (entry_in bytes) (λ head. refl) 8 (outside []) start p.before p.frames (frames_seen bytes opening 8 p.frames behind is refl) refl turned.turned

    pub progress-in : (bytes behind : List ℕ) → bytes ≡ opening ++ (frames_bytes p.frames ++ behind) → (said_by p.frames ≡ Some (progress_in seen)) × StandsFor (entry_in bytes) (progress_in seen) p.before
    progress-in bytes behind is =
        let m = frames-in bytes behind is in
        let same : m.0 ≡ progress_in seen = sym (ap or_start (ap said_by frames-read ∙ m.1)) in
        (m.1 ∙ ap (λ (q : Meant). found q) same, subst (λ (q : Meant). StandsFor (entry_in bytes) q p.before) same m.2)

    -- the file is described
    pub described : DescribesTo gate seen (events_in seen)
    described =
        let m = progress-in seen (0 ∷ p.rest) p.is in
        record {
          frames = p.frames;
          each = p.each;
          rest = p.rest;
          is = p.is ∙ sym (append_assoc opening (frames_bytes p.frames) (0 ∷ p.rest));
          place = sym place-is;
          begun = (progress_in seen).begun;
          small = subst (λ (n : ℕ). gate + n < 2 ^ 63) (sym (same-room (entry_in seen) (progress_in seen) p.before m.1)) gate-room;
          meaning = m.0;
        }

    pub described-begun : described.begun ≡ (progress_in seen).begun
    unfolding described
    described-begun = refl

    -- ---- the records after it

    begun-same : (see : Head → Entry) (q : Option (Begun Entry)) (b : Option (Begun Head)) → (made_of (record { settled = []; begun = q })).begun ≡ (made_in see (record { settled = []; begun = b })).begun → is_begun q ≡ is_begun b
    begun-same see None None e = refl
    begun-same see None (Some b) e = absurd cc
    begun-same see (Some q) None e = absurd cc
    begun-same see (Some q) (Some b) e = refl

    -- the file ends inside a batch if and only if `spilled`
    pub spilled-is : is_begun (progress_in seen).begun ≡ spilled
    spilled-is =
        let m = progress-in seen (0 ∷ p.rest) p.is in
        begun-same (entry_in seen) (progress_in seen).begun p.before.begun (ap (λ (q : Made). q.begun) m.1) ∙ p.begun

    module _ (bytes pad : List ℕ) (long : length pad ≡ 8) (is : bytes ≡ opening ++ (frames_bytes p.frames ++ 0 ∷ (pad ++ body rs))) where
      records-stand : AreSeen (entry_in bytes) (gate + 9) rs
      records-stand =
          let front = opening ++ frames_bytes p.frames in
          are_seen bytes (front ++ 0 ∷ pad) (gate + 9) rs []
          (is ∙ sym (append_assoc opening (frames_bytes p.frames) (0 ∷ (pad ++ body rs))) ∙ sym (append_assoc front (0 ∷ pad) (body rs)) ∙ ap (λ (l : List ℕ). (front ++ 0 ∷ pad) ++ l) (sym (append-nil (body rs))))
          (omega (arith, length-append front (0 ∷ pad), place-is, long))

      records-in : IsMeant (entry_in bytes) (meant_turns (gate + 9) (progress_in seen) rs) p.last
      records-in = turns-meant (entry_in bytes) (λ head. refl) (gate + 9) (progress_in seen) p.before p.last rs records-stand (progress-in bytes (0 ∷ (pad ++ body rs)) is).1 p.made

      pub progress-then : (meant_turns (gate + 9) (progress_in seen) rs ≡ Some (progress_then seen gate rs)) × StandsFor (entry_in bytes) (progress_then seen gate rs) p.last
      progress-then =
          let m = records-in in
          let same : m.0 ≡ progress_then seen gate rs = sym (ap or_start m.1) in
          (m.1 ∙ ap (λ (q : Meant). found q) same, subst (λ (q : Meant). StandsFor (entry_in bytes) q p.last) same m.2)

      -- ---- all chains, with those of a batch that has begun

      inside-same : (q : Option (Begun Entry)) (b : Option (Begun Head)) → (made_of (record { settled = []; begun = q })).begun ≡ (made_in (entry_in bytes) (record { settled = []; begun = b })).begun
          → map {B = ℕ × Entry} (λ change. (change.0, change.1)) (inside_of q) ≡ map {B = ℕ × Entry} (λ change. (change.0, entry_in bytes change.1)) (inside_of b)
      inside-same None None e = refl
      inside-same None (Some b) e = absurd cc
      inside-same (Some q) None e = absurd cc
      inside-same (Some q) (Some b) e = ap (λ (x : Option (Begun Entry)). inside_of x) e

      pub all-chains : chains_after effect_of_entry (chains_after effect_of_entry [] (progress_then seen gate rs).settled) (changes (inside_of (progress_then seen gate rs).begun)) ≡ map (map (entry_in bytes)) heads
      all-chains =
          let q = progress_then seen gate rs in
          let m = progress-then.1 in
          let inside = inside-same q.begun p.last.begun (ap (λ (q : Made). q.begun) m) in
          let all = taken-seen head_at entry_at (takes_change effect_of_head) (takes_change effect_of_entry) (entry_in bytes) (map (map (entry_in bytes))) (takes_change-seen effect_of_head effect_of_entry (entry_in bytes) (λ head. refl)) p.last.settled (inside_of p.last.begun) in
          taken-chains (chains_after effect_of_entry [] q.settled) (map (map (entry_in bytes)) heads) (inside_of q.begun)
          (ap (λ (l : List (List Entry)). taken entry_at (takes_change effect_of_entry) l (inside_of q.begun)) (sym (same-chains (entry_in bytes) q p.last m))
          ∙ ap (λ (l : List (ℕ × Entry)). taken entry_at (takes_change effect_of_entry) (map (map (entry_in bytes)) p.last.settled) l) (sym (same-changes (inside_of q.begun)) ∙ inside)
          ∙ all ∙ ap (seen_option (map (map (entry_in bytes)))) p.all)

      -- the heads represent what the file and everything pending make
      pub heads-stand : list_all is_own rs ≡ true → map (map (entry_in bytes)) heads ≡ chains_after effect_of_entry (chains_after effect_of_entry [] (events_in seen)) (batch_events spilled (inside_in seen) ++ pending_events (gate + 9) rs)
      heads-stand own =
          let q = progress_then seen gate rs in
          let s = settles (gate + 9) (progress_in seen) q rs own progress-then.0 in
          sym all-chains
          ∙ ap (λ (l : List Chain). chains_after effect_of_entry l (changes (inside_of q.begun))) s.made
          ∙ sym (batch-chains (chains_after effect_of_entry (chains_after effect_of_entry [] (events_in seen)) s.done) (is_begun q.begun) q.begun refl)
          ∙ sym (chains_after-append effect_of_entry (chains_after effect_of_entry [] (events_in seen)) s.done (open_events q))
          ∙ ap (chains_after effect_of_entry (chains_after effect_of_entry [] (events_in seen))) (sym s.parts)
          ∙ ap (λ b. chains_after effect_of_entry (chains_after effect_of_entry [] (events_in seen)) (batch_events b (inside_in seen) ++ pending_events (gate + 9) rs)) spilled-is

    -- the records may be written as a frame
    pub may-follow : (byte : ℕ) → byte ≢ 0 → rs ≢ [] → AllByRecursion Fits rs → gate + (9 + length (body rs)) + room_for p.last.begun < 2 ^ 63 → MayFollow gate (events_in seen) (progress_in seen).begun (record { gate = byte; records = rs }) (progress_then seen gate rs).settled
    may-follow byte opens some fit small =
        let bytes = opening ++ (frames_bytes p.frames ++ 0 ∷ (number_bytes 0 ++ body rs)) in
        let m = progress-then bytes (number_bytes 0) (number_bytes-length 0) refl in
        record {
          fits = record { gate = opens; some = some; fit = fit; length = omega (arith, small) };
          ends_in = (progress_then seen gate rs).begun;
          says = m.0;
          small = subst (λ (n : ℕ). gate + (9 + length (body rs)) + n < 2 ^ 63) (sym (same-room (entry_in bytes) (progress_then seen gate rs) p.last m.1)) small;
        }

-- ---- more records

stands_in-more : (target place : ℕ) (rs : List Record) (r : Record) → stands_in target place rs ≡ true → stands_in target place (rs ++ r ∷ []) ≡ true
stands_in-more target place [] r h = absurd cc
stands_in-more target place (first ∷ rs) r h = by (target == place) (λ k. stands_in-more target (place + size first) rs r k) h
  where
    by : (b : Bool) → (stands_in target (place + size first) rs ≡ true → stands_in target (place + size first) (rs ++ r ∷ []) ≡ true) → b || stands_in target (place + size first) rs ≡ true → b || stands_in target (place + size first) (rs ++ r ∷ []) ≡ true
    by true k h = refl
    by false k h = k h

and_more : (a b c : Bool) → (b ≡ true → c ≡ true) → a && b ≡ true → a && c ≡ true
and_more true b c k h = k h
and_more false b c k h = h

-- a mark names a record of its frame even if more records follow
marks-more : (place : ℕ) (m : Record) (rs : List Record) (r : Record) → marks place m rs ≡ true → marks place m (rs ++ r ∷ []) ≡ true
marks-more place m rs r = and_more (is_mark m) (stands_in (number m.payload) place (m ∷ rs)) (stands_in (number m.payload) place (m ∷ (rs ++ r ∷ []))) (stands_in-more (number m.payload) place (m ∷ rs) r)

plain-more : (kind : MessageKind) (s : List (List Head)) (place : ℕ) (r : Record) (was later : Bool) (next : Read) → (was ≡ true → later ≡ true) → plain head_at (takes_change effect_of_head) kind s place r was ≡ Some next → plain head_at (takes_change effect_of_head) kind s place r later ≡ Some next
plain-more kinds.BatchManifest s place r true true next k h = h
plain-more kinds.BatchManifest s place r true false next k h = absurd (let bad = k refl in cc)
plain-more kinds.BatchManifest s place r false later next k h = absurd cc
plain-more kinds.Corrupted s place r was later next k h = h
plain-more kinds.Canceled s place r was later next k h = h
plain-more kinds.Cap s place r was later next k h = h
plain-more kinds.Free s place r was later next k h = h
plain-more kinds.Counter s place r was later next k h = h
plain-more kinds.InlineMeta s place r was later next k h = h
plain-more kinds.BlobMeta s place r was later next k h = h
plain-more kinds.InlineNode s place r was later next k h = h
plain-more kinds.BlobNode s place r was later next k h = h
plain-more kinds.InlineLink s place r was later next k h = h
plain-more kinds.BlobLink s place r was later next k h = h

pub step-more : (p : Read) (place : ℕ) (r : Record) (was later : Bool) (next : Read) → (was ≡ true → later ≡ true) → step p place r was ≡ Some next → step p place r later ≡ Some next
unfolding step
step-more p place r was later next k h = by p.begun h
  where
    in_plain : (b : Bool) (x : Option Read) → (if b then x else plain head_at (takes_change effect_of_head) (kind_of r.kind) p.settled place r was) ≡ Some next → (if b then x else plain head_at (takes_change effect_of_head) (kind_of r.kind) p.settled place r later) ≡ Some next
    in_plain true x h = h
    in_plain false x h = plain-more (kind_of r.kind) p.settled place r was later next k h

    by : (begun : Option (Begun Head)) → turn_by head_at (takes_change effect_of_head) begun p.settled place r was ≡ Some next → turn_by head_at (takes_change effect_of_head) begun p.settled place r later ≡ Some next
    by None h = in_plain (r.kind == 12) (if is_begin r then Some (within p.settled place []) else None) h
    by (Some b) h = h

steps-append : (place : ℕ) (p : Read) (rs : List Record) (r : Record) (last next : Read) → steps place p rs ≡ Some last → step last (place + length (body rs)) r (marks (place + length (body rs)) r []) ≡ Some next → steps place p (rs ++ r ∷ []) ≡ Some next
unfolding turns step
steps-append place p [] r last next made taken =
    let same = some_is p last made in
    let at : place ≡ place + 0 = omega arith in
    by (turn head_at (takes_change effect_of_head) p place r (marks place r [])) (ap (λ n. step p n r (marks n r [])) at ∙ ap (λ (q : Read). step q (place + 0) r (marks (place + 0) r [])) same ∙ taken)
  where
    by : (x : Option Read) → x ≡ Some next → (x >>= λ q. Some q) ≡ Some next
    by None e = absurd cc
    by (Some q) e = e
steps-append place p (first ∷ rs) r last next made taken =
    let one = then-some (turn head_at (takes_change effect_of_head) p place first (marks place first rs)) (λ q. steps (place + size first) q rs) last made in
    let more = step-more p place first (marks place first rs) (marks place first (rs ++ r ∷ [])) one.0 (marks-more place first rs r) one.1 in
    let at : place + length (body (first ∷ rs)) ≡ (place + size first) + length (body rs) = omega (arith, length-append (record_bytes first) (body rs), record_bytes-length first) in
    rw more (steps-append (place + size first) one.0 rs r last next one.2 (subst (λ (n : ℕ). step last n r (marks n r []) ≡ Some next) at taken))

-- one more record
pub one-record : (seen : List ℕ) (gate : ℕ) (spilled : Bool) (rs : List Record) (batch batch_then : Option ℕ) (heads heads_then : List (List Head)) (r : Record) (p : Parsed seen gate spilled rs batch heads) (next : Read)
    → step p.last ((gate + 9) + length (body rs)) r (marks ((gate + 9) + length (body rs)) r []) ≡ Some next → begins_at batch_then next.begun ≡ true → chains_now next ≡ Some heads_then → Parsed seen gate spilled (rs ++ r ∷ []) batch_then heads_then
one-record seen gate spilled rs batch batch_then heads heads_then r p next taken ends all = record {
  frames = p.frames;
  each = p.each;
  rest = p.rest;
  is = p.is;
  before = p.before;
  opened = p.opened;
  begun = p.begun;
  last = next;
  made = steps-append (gate + 9) p.before rs r p.last next p.made taken;
  ends = ends;
  all = all;
}

-- ---- one more frame

abbrev pub is_open_by : Option ℕ → Bool
is_open_by None = false
is_open_by (Some place) = true

pub begins-is : {E : Type 0} (batch : Option ℕ) (begun : Option (Begun E)) → begins_at batch begun ≡ true → is_begun begun ≡ is_open_by batch
begins-is None None e = refl
begins-is None (Some b) e = absurd cc
begins-is (Some place) None e = absurd cc
begins-is (Some place) (Some b) e = refl

-- a file of frames, as far as it was read
pub record IsFile (seen : List ℕ) (gate : ℕ) (read : Read) : Type 0 where
  pub frames : List Frame
  pub each : AllByRecursion IsFrame frames
  pub rest : List ℕ
  pub is : seen ≡ opening ++ (frames_bytes frames ++ 0 ∷ rest)
  pub opened : frames_steps 8 start frames ≡ Some (gate, read)

pub file-read : (seen : List ℕ) (gate : ℕ) (read : Read) → IsBytes seen → take 8 seen ≡ opening → found_at 8 start (drop 8 seen) ≡ Some (gate, read) → IsFile seen gate read
file-read seen gate read fits opens e =
    let two = then-some (frames_of (drop 8 seen)) (λ frames. frames_steps 8 start frames) (gate, read) e in
    let w = frames-take (drop 8 seen) two.0 (IsBytes-drop 8 seen fits) two.1 in
    record { frames = two.0; each = w.each; rest = w.rest; is = sym (take-append-drop 8 seen) ∙ ap (λ (l : List ℕ). l ++ drop 8 seen) opens ∙ ap (λ (l : List ℕ). opening ++ l) w.is; opened = two.2 }

pub file-parsed : (seen : List ℕ) (gate : ℕ) (read : Read) → IsFile seen gate read → (heads : List (List Head)) → (batch : Option ℕ) → begins_at batch read.begun ≡ true → chains_now read ≡ Some heads → Parsed seen gate (is_open_by batch) [] batch heads
unfolding turns
file-parsed seen gate read f heads batch ends all = record {
  frames = f.frames;
  each = f.each;
  rest = f.rest;
  is = f.is;
  before = read;
  opened = f.opened;
  begun = begins-is batch read.begun ends;
  last = read;
  made = refl;
  ends = ends;
  all = all;
}

-- one more frame
pub file-more : (seen after : List ℕ) (gate : ℕ) (before last : Read) (rs : List Record) (byte : ℕ) → byte ≢ 0 → IsFile seen gate before → steps (gate + 9) before rs ≡ Some last → rs ≢ [] → AllByRecursion Fits rs
    → gate + (9 + length (body rs)) + room_for last.begun < 2 ^ 63 → IsWritten gate seen (record { gate = byte; records = rs }) after → IsFile after (gate + (9 + length (body rs))) last
file-more seen after gate before last rs byte opens f made some fit small (rest, is) =
    let frame : Frame = record { gate = byte; records = rs } in
    let front = opening ++ frames_bytes f.frames in
    let t = stepped gate before f.frames f.opened in
    let at : length front ≡ gate = length-append opening (frames_bytes f.frames) ∙ sym (gate_after-is 8 f.frames) ∙ t.ends in
    let file : seen ≡ front ++ 0 ∷ f.rest = f.is ∙ sym (append_assoc opening (frames_bytes f.frames) (0 ∷ f.rest)) in
    let kept : take gate seen ≡ front = ap (take gate) file ∙ take_at front (0 ∷ f.rest) gate at in
    let one : frames_bytes (f.frames ++ frame ∷ []) ≡ frames_bytes f.frames ++ frame_bytes frame = frames_bytes-append f.frames (frame ∷ []) ∙ ap (λ (l : List ℕ). frames_bytes f.frames ++ l) (append-nil (frame_bytes frame)) in
    let turned : frames_turns head_at (takes_change effect_of_head) 8 start (f.frames ++ frame ∷ []) ≡ Some last =
    turns-append head_at (takes_change effect_of_head) 8 start f.frames frame
    ∙ ap (λ (x : Option Read). x >>= λ q. steps (gate_after 8 f.frames + 9) q rs) t.turned
    ∙ ap (λ n. steps (n + 9) before rs) t.ends ∙ made in
    let ends : gate_after 8 (f.frames ++ frame ∷ []) ≡ gate + (9 + length (body rs)) =
    gate_after-is 8 (f.frames ++ frame ∷ []) ∙ ap (λ (l : List ℕ). 8 + length l) one
    ∙ omega (arith, length-append opening (frames_bytes f.frames), length-append (frames_bytes f.frames) (frame_bytes frame), length-append (number_bytes (length (body rs))) (body rs), number_bytes-length (length (body rs)), at) in
    let room = lt-ltb (gate + (9 + length (body rs)) + room_for last.begun) (2 ^ 63) small in
    record {
      frames = f.frames ++ frame ∷ [];
      each = each-append f.frames frame f.each (record { gate = opens; some = some; fit = fit; length = omega (arith, small) });
      rest = rest;
      is = is ∙ ap (λ (l : List ℕ). l ++ (frame_bytes frame ++ 0 ∷ rest)) kept ∙ append_assoc opening (frames_bytes f.frames) (frame_bytes frame ++ 0 ∷ rest)
          ∙ ap (λ (l : List ℕ). opening ++ l) (sym (append_assoc (frames_bytes f.frames) (frame_bytes frame) (0 ∷ rest)) ∙ ap (λ (l : List ℕ). l ++ 0 ∷ rest) (sym one));
      opened = frames_steps-are 8 start (f.frames ++ frame ∷ []) ∙ rw (turned, ends, room) refl;
    }

-- the records were written as a frame
pub one-frame : (seen after : List ℕ) (gate : ℕ) (spilled : Bool) (rs : List Record) (batch : Option ℕ) (heads : List (List Head)) (byte : ℕ) → byte ≢ 0 → (p : Parsed seen gate spilled rs batch heads) → rs ≢ [] → AllByRecursion Fits rs
    → gate + (9 + length (body rs)) + room_for p.last.begun < 2 ^ 63 → IsWritten gate seen (record { gate = byte; records = rs }) after → Parsed after (gate + (9 + length (body rs))) (is_open_by batch) [] batch heads
one-frame seen after gate spilled rs batch heads byte opens p some fit small written =
    let file : IsFile seen gate p.before = record { frames = p.frames; each = p.each; rest = p.rest; is = p.is; opened = p.opened } in
    file-parsed after (gate + (9 + length (body rs))) p.last (file-more seen after gate p.before p.last rs byte opens file p.made some fit small written) heads batch p.ends p.all

-- its frames are those that are read of it
pub file-frames : (seen : List ℕ) (gate : ℕ) (read : Read) (f : IsFile seen gate read) → or_none (frames_of (drop 8 seen)) ≡ f.frames
file-frames seen gate read f =
    let inner : drop 8 seen ≡ frames_bytes f.frames ++ 0 ∷ f.rest = ap (drop 8) f.is ∙ drop_at opening (frames_bytes f.frames ++ 0 ∷ f.rest) 8 refl in
    ap or_none (ap frames_of inner ∙ frames-again f.frames f.rest f.each)

-- and with one more frame
pub frames-more : (seen after : List ℕ) (gate : ℕ) (before last : Read) (rs : List Record) (byte : ℕ) (opens : byte ≢ 0) (f : IsFile seen gate before) (made : steps (gate + 9) before rs ≡ Some last) (some : rs ≢ []) (fit : AllByRecursion Fits rs)
    (small : gate + (9 + length (body rs)) + room_for last.begun < 2 ^ 63) (written : IsWritten gate seen (record { gate = byte; records = rs }) after)
    → or_none (frames_of (drop 8 after)) ≡ or_none (frames_of (drop 8 seen)) ++ record { gate = byte; records = rs } ∷ []
unfolding file-more
frames-more seen after gate before last rs byte opens f made some fit small written =
    file-frames after (gate + (9 + length (body rs))) last (file-more seen after gate before last rs byte opens f made some fit small written)
    ∙ ap (λ (l : List Frame). l ++ record { gate = byte; records = rs } ∷ []) (sym (file-frames seen gate before f))

-- what a file describes whose frames are known
pub says : (seen : List ℕ) (gate : ℕ) (read : Read) (f : IsFile seen gate read) → or_start (said_by f.frames) ≡ progress_in seen
says seen gate read f =
    let inner : drop 8 seen ≡ frames_bytes f.frames ++ 0 ∷ f.rest = ap (drop 8) f.is ∙ drop_at opening (frames_bytes f.frames ++ 0 ∷ f.rest) 8 refl in
    ap (λ (frames : List Frame). or_start (said_by frames)) (sym (ap or_none (ap frames_of inner ∙ frames-again f.frames f.rest f.each)))

-- and with one more frame
pub says-more : (seen after : List ℕ) (gate : ℕ) (before last : Read) (rs : List Record) (byte : ℕ) (opens : byte ≢ 0) (f : IsFile seen gate before) (made : steps (gate + 9) before rs ≡ Some last) (some : rs ≢ []) (fit : AllByRecursion Fits rs)
    (small : gate + (9 + length (body rs)) + room_for last.begun < 2 ^ 63) (written : IsWritten gate seen (record { gate = byte; records = rs }) after) → said_by f.frames ≡ Some (progress_in seen) → progress_in after ≡ progress_then seen gate rs
unfolding file-more
says-more seen after gate before last rs byte opens f made some fit small written said =
    let frame : Frame = record { gate = byte; records = rs } in
    let g = file-more seen after gate before last rs byte opens f made some fit small written in
    let t = stepped gate before f.frames f.opened in
    sym (says after (gate + (9 + length (body rs))) last g)
    ∙ ap or_start (turns-append entry_at (takes_event effect_of_entry) 8 (outside []) f.frames frame
    ∙ ap (λ (x : Option Meant). x >>= λ q. meant_turns (gate_after 8 f.frames + 9) q rs) said
    ∙ ap (λ n. meant_turns (n + 9) (progress_in seen) rs) t.ends)

-- the same for a parsed file
pub frame-says : (seen after : List ℕ) (gate : ℕ) (spilled : Bool) (rs : List Record) (batch : Option ℕ) (heads : List (List Head)) (byte : ℕ) → byte ≢ 0 → (p : Parsed seen gate spilled rs batch heads) → rs ≢ [] → AllByRecursion Fits rs
    → gate + (9 + length (body rs)) + room_for p.last.begun < 2 ^ 63 → IsWritten gate seen (record { gate = byte; records = rs }) after → progress_in after ≡ progress_then seen gate rs
frame-says seen after gate spilled rs batch heads byte opens p some fit small written =
    let file : IsFile seen gate p.before = record { frames = p.frames; each = p.each; rest = p.rest; is = p.is; opened = p.opened } in
    says-more seen after gate p.before p.last rs byte opens file p.made some fit small written (progress-in seen gate spilled rs batch heads p seen (0 ∷ p.rest) p.is).0
