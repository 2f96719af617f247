-- The readings of a file's records agree, whatever is kept of each record.
use Rattle.std.proofs.Common.{◌≡◌, ℕ, ◌+◌, ◌^◌, Bool, true, false, not, List, [], ◌∷◌, ◌++◌, length, map, take, drop, slice_index_or, refl, ap, sym, ◌∙◌, append_assoc, arith}
use Rattle.std.specs.Prelude.{Option, Some, None, ◌==◌, nat_lt, nat_le, if◌then◌else◌}
use Rattle.std.proofs.lemmas.List.{map-append, length-map, length-append, take_at, drop_at}
use Rattle.std.proofs.Math.ListN.{get_or-map}
use Rattle.sled_base.specs.Kinds.{kind_of, log_kind_of}
use Rattle.sled_base.specs.declared.kinds.LogKind.{LogKind}
use Rattle.sled_base.specs.declared.kinds.LogKind.TheVariants as effects
use Rattle.sled_base.specs.declared.kinds.MessageKind.{MessageKind}
use Rattle.sled_base.specs.declared.kinds.MessageKind.TheVariants as kinds
use Rattle.sled_log.specs.Chains.{is_empty, chains_after}
use Rattle.sled_log.specs.Events.{Event, Change}
use Rattle.sled_log.specs.Inside.Laws.{chains_after-append}
use Rattle.sled_log.specs.Inside.SeenLaws.{is_empty-seen, chains_after-seen}
use Rattle.sled_log.specs.Messages.{Entry, effect_of_entry}
use Rattle.sled_disk.specs.declared.recovery.head.Head.{Head}
use Rattle.sled_disk.specs.Format.{◌>>=◌, Record, Frame, Begun, Progress, outside, within, size, number_bytes, record_bytes, body, frame_bytes, frames_bytes, marks, is_begin, is_closing, closes_from, may_change, taken, counts, waits, plain, closed, turn_by, turn, turns, frames_turns, takes_event, takes_change, room_for, entry_at}
use Rattle.sled_disk.specs.EncodingLaws.{number_bytes-length}
use Rattle.sled_disk.specs.Reading.{Read, frames_steps, steps, head_at, effect_of_head, entry_in}

-- the place after frames that begin at a place
abbrev pub gate_after : ℕ → List Frame → ℕ
gate_after gate [] = gate
gate_after gate (frame ∷ frames) = gate_after (gate + (9 + length (body frame.records))) frames

-- ---- what is kept of records, seen through a function

abbrev pub seen_option : {A B : Type 0} → (A → B) → Option A → Option B
seen_option f None = None
seen_option f (Some x) = Some (f x)

seen-if : {A B : Type 0} (f : A → B) (b : Bool) (x y : Option A) (z w : Option B) → z ≡ seen_option f x → w ≡ seen_option f y → (if b then z else w) ≡ seen_option f (if b then x else y)
seen-if f true x y z w h i = h
seen-if f false x y z w h i = i

module _ {E F S T : Type 0} (said : ℕ → Record → E) (said_seen : ℕ → Record → F) (takes : S → ℕ → E → Option S) (takes_seen : T → ℕ → F → Option T) (see : E → F) (see_settled : S → T) where
  abbrev pub seen_change : ℕ × E → ℕ × F
  seen_change change = (change.0, see change.1)

  abbrev pub seen_begun : Option (Begun E) → Option (Begun F)
  seen_begun None = None
  seen_begun (Some begun) = Some (record { place = begun.place; inside = map seen_change begun.inside })

  abbrev pub seen_progress : Progress E S → Progress F T
  seen_progress p = record { settled = see_settled p.settled; begun = seen_begun p.begun }

  -- `see` maps what is kept of each of these records in one reading to what is kept in the other
  abbrev pub AllSeen : ℕ → List Record → Type 0
  AllSeen place [] = Unit {0}
  AllSeen place (r ∷ rs) = (see (said place r) ≡ said_seen place r) × AllSeen (place + size r) rs

  abbrev pub AllFramesSeen : ℕ → List Frame → Type 0
  AllFramesSeen gate [] = Unit {0}
  AllFramesSeen gate (frame ∷ frames) = AllSeen (gate + 9) frame.records × AllFramesSeen (gate + (9 + length (body frame.records))) frames

  module _ (natural : (s : S) (id : ℕ) (e : E) → takes_seen (see_settled s) id (see e) ≡ seen_option see_settled (takes s id e)) where
    pub taken-seen : (s : S) (changes : List (ℕ × E)) → taken said_seen takes_seen (see_settled s) (map seen_change changes) ≡ seen_option see_settled (taken said takes s changes)
    taken-seen s [] = refl
    taken-seen s (change ∷ changes) =
        ap (λ (x : Option T). x >>= λ t. taken said_seen takes_seen t (map seen_change changes)) (natural s change.0 change.1)
        ∙ by (takes s change.0 change.1) (λ t. taken-seen t changes)
      where
        by : (x : Option S) → ((t : S) → taken said_seen takes_seen (see_settled t) (map seen_change changes) ≡ seen_option see_settled (taken said takes t changes))
            → (seen_option see_settled x >>= λ t. taken said_seen takes_seen t (map seen_change changes)) ≡ seen_option see_settled (x >>= λ t. taken said takes t changes)
        by None next = refl
        by (Some t) next = next t

    -- what counts, seen through it
    settles : (x : Option S) → (seen_option see_settled x >>= λ t. Some (outside t)) ≡ seen_option seen_progress (x >>= λ t. Some (outside t))
    settles None = refl
    settles (Some t) = refl

    counts-seen : (kind : LogKind) (s : S) (id : ℕ) (e : E) → counts said_seen takes_seen kind (see_settled s) id (see e) ≡ seen_option seen_progress (counts said takes kind s id e)
    counts-seen effects.Replace s id e = ap (λ (x : Option T). x >>= λ t. Some (outside t)) (natural s id e) ∙ settles (takes s id e)
    counts-seen effects.Free s id e = ap (λ (x : Option T). x >>= λ t. Some (outside t)) (natural s id e) ∙ settles (takes s id e)
    counts-seen effects.Link s id e = ap (λ (x : Option T). x >>= λ t. Some (outside t)) (natural s id e) ∙ settles (takes s id e)
    counts-seen effects.Skip s id e = refl
    counts-seen effects.Corrupted s id e = refl

    abbrev some_within : S → ℕ → List (ℕ × F) → Option (Progress F T)
    some_within s place inside = Some (within (see_settled s) place inside)

    waits-seen : (kind : LogKind) (s : S) (b : Begun E) (id : ℕ) (e : E)
        → waits said_seen takes_seen kind (see_settled s) (record { place = b.place; inside = map seen_change b.inside }) id (see e) ≡ seen_option seen_progress (waits said takes kind s b id e)
    waits-seen effects.Replace s b id e = ap (some_within s b.place) (sym (map-append seen_change b.inside ((id, e) ∷ [])))
    waits-seen effects.Free s b id e = ap (some_within s b.place) (sym (map-append seen_change b.inside ((id, e) ∷ [])))
    waits-seen effects.Link s b id e = ap (some_within s b.place) (sym (map-append seen_change b.inside ((id, e) ∷ [])))
    waits-seen effects.Skip s b id e = refl
    waits-seen effects.Corrupted s b id e = refl

    module _ (place : ℕ) (r : Record) (is : see (said place r) ≡ said_seen place r) where
      counts-there : (kind : LogKind) (s : S) → counts said_seen takes_seen kind (see_settled s) r.id (said_seen place r) ≡ seen_option seen_progress (counts said takes kind s r.id (said place r))
      counts-there kind s = ap (counts said_seen takes_seen kind (see_settled s) r.id) (sym is) ∙ counts-seen kind s r.id (said place r)

      plain-seen : (kind : MessageKind) (s : S) (mark : Bool) → plain said_seen takes_seen kind (see_settled s) place r mark ≡ seen_option seen_progress (plain said takes kind s place r mark)
      plain-seen kinds.Canceled s mark = refl
      plain-seen kinds.BatchManifest s true = refl
      plain-seen kinds.BatchManifest s false = refl
      plain-seen kinds.Corrupted s mark = counts-there effects.Corrupted s
      plain-seen kinds.Cap s mark = counts-there effects.Skip s
      plain-seen kinds.Free s mark = counts-there effects.Free s
      plain-seen kinds.Counter s mark = counts-there effects.Replace s
      plain-seen kinds.InlineMeta s mark = counts-there effects.Replace s
      plain-seen kinds.BlobMeta s mark = counts-there effects.Replace s
      plain-seen kinds.InlineNode s mark = counts-there effects.Replace s
      plain-seen kinds.BlobNode s mark = counts-there effects.Replace s
      plain-seen kinds.InlineLink s mark = counts-there effects.Link s
      plain-seen kinds.BlobLink s mark = counts-there effects.Link s

      turn-seen : (begun : Option (Begun E)) (s : S) (mark : Bool) → turn_by said_seen takes_seen (seen_begun begun) (see_settled s) place r mark ≡ seen_option seen_progress (turn_by said takes begun s place r mark)
      turn-seen None s mark =
          seen-if seen_progress (r.kind == 12) (if is_begin r then Some (within s place []) else None) (plain said takes (kind_of r.kind) s place r mark)
          (if is_begin r then Some (within (see_settled s) place []) else None) (plain said_seen takes_seen (kind_of r.kind) (see_settled s) place r mark)
          (seen-if seen_progress (is_begin r) (Some (within s place [])) None (Some (within (see_settled s) place [])) None refl refl) (plain-seen (kind_of r.kind) s mark)
      turn-seen (Some b) s mark =
          let there : Begun F = record { place = b.place; inside = map seen_change b.inside } in
          seen-if seen_progress (is_closing r.kind) (if closes_from b.place r then closed said takes r.kind s b else None) (waits said takes (log_kind_of (kind_of r.kind)) s b r.id (said place r))
          (if closes_from b.place r then closed said_seen takes_seen r.kind (see_settled s) there else None) (waits said_seen takes_seen (log_kind_of (kind_of r.kind)) (see_settled s) there r.id (said_seen place r))
          (seen-if seen_progress (closes_from b.place r) (closed said takes r.kind s b) None (closed said_seen takes_seen r.kind (see_settled s) there) None
          (seen-if seen_progress (r.kind == 14) (Some (outside s)) (taken said takes s b.inside >>= λ t. Some (outside t)) (Some (outside (see_settled s))) (taken said_seen takes_seen (see_settled s) (map seen_change b.inside) >>= λ t. Some (outside t)) refl
          (ap (λ (x : Option T). x >>= λ t. Some (outside t)) (taken-seen s b.inside) ∙ settles (taken said takes s b.inside)))
          refl)
          (ap (waits said_seen takes_seen (log_kind_of (kind_of r.kind)) (see_settled s) there r.id) (sym is) ∙ waits-seen (log_kind_of (kind_of r.kind)) s b r.id (said place r))

    pub turns-seen : (place : ℕ) (p : Progress E S) (rs : List Record) → AllSeen place rs → turns said_seen takes_seen place (seen_progress p) rs ≡ seen_option seen_progress (turns said takes place p rs)
    unfolding turns
    turns-seen place p [] h = refl
    turns-seen place p (r ∷ rs) h =
        ap (λ (x : Option (Progress F T)). x >>= λ q. turns said_seen takes_seen (place + size r) q rs) (turn-seen place r h.0 p.begun p.settled (marks place r rs))
        ∙ by (turn said takes p place r (marks place r rs)) (λ q. turns-seen (place + size r) q rs h.1)
      where
        by : (x : Option (Progress E S)) → ((q : Progress E S) → turns said_seen takes_seen (place + size r) (seen_progress q) rs ≡ seen_option seen_progress (turns said takes (place + size r) q rs))
            → (seen_option seen_progress x >>= λ q. turns said_seen takes_seen (place + size r) q rs) ≡ seen_option seen_progress (x >>= λ q. turns said takes (place + size r) q rs)
        by None next = refl
        by (Some q) next = next q

    pub frames_turns-seen : (gate : ℕ) (p : Progress E S) (frames : List Frame) → AllFramesSeen gate frames → frames_turns said_seen takes_seen gate (seen_progress p) frames ≡ seen_option seen_progress (frames_turns said takes gate p frames)
    unfolding frames_turns
    frames_turns-seen gate p [] h = refl
    frames_turns-seen gate p (frame ∷ frames) h =
        let next = gate + (9 + length (body frame.records)) in
        ap (λ (x : Option (Progress F T)). x >>= λ q. frames_turns said_seen takes_seen next q frames) (turns-seen (gate + 9) p frame.records h.0)
        ∙ by (turns said takes (gate + 9) p frame.records) (λ q. frames_turns-seen next q frames h.1)
      where
        by : (x : Option (Progress E S)) → ((q : Progress E S) → frames_turns said_seen takes_seen (gate + (9 + length (body frame.records))) (seen_progress q) frames ≡ seen_option seen_progress (frames_turns said takes (gate + (9 + length (body frame.records))) q frames))
            → (seen_option seen_progress x >>= λ q. frames_turns said_seen takes_seen (gate + (9 + length (body frame.records))) q frames) ≡ seen_option seen_progress (x >>= λ q. frames_turns said takes (gate + (9 + length (body frame.records))) q frames)
        by None next = refl
        by (Some q) next = next q

-- ---- events and the chains that they make

abbrev pub SameEffect : {E F : Type 0} → (E → LogKind) → (F → LogKind) → (E → F) → Type 0
SameEffect {E} effect effect_seen see = (e : E) → effect_seen (see e) ≡ effect e

module _ {E F : Type 0} (effect : E → LogKind) (effect_seen : F → LogKind) (see : E → F) (same : SameEffect effect effect_seen see) where
  may_change-seen : (kind : LogKind) (chains : List (List E)) (id : ℕ) → may_change effect_seen kind (map (map see) chains) id ≡ may_change effect kind chains id
  may_change-seen effects.Replace chains id = ap (nat_le id) (length-map chains (map see))
  may_change-seen effects.Free chains id = ap (nat_lt id) (length-map chains (map see))
  may_change-seen effects.Link chains id = ap not (ap (is_empty effect_seen) (get_or-map (map see) chains id []) ∙ is_empty-seen effect effect_seen see same (slice_index_or chains id []))
  may_change-seen effects.Skip chains id = refl
  may_change-seen effects.Corrupted chains id = refl

  abbrev some_chains : {A : Type 0} → Bool → List (List A) → Option (List (List A))
  some_chains b chains = if b then Some chains else None

  pub takes_change-seen : (chains : List (List E)) (id : ℕ) (e : E) → takes_change effect_seen (map (map see) chains) id (see e) ≡ seen_option (map (map see)) (takes_change effect chains id e)
  takes_change-seen chains id e =
      ap (λ kind. some_chains (may_change effect_seen kind (map (map see) chains) id) (chains_after effect_seen (map (map see) chains) (Change id (see e) ∷ []))) (same e)
      ∙ ap (λ b. some_chains b (chains_after effect_seen (map (map see) chains) (Change id (see e) ∷ []))) (may_change-seen (effect e) chains id)
      ∙ seen-if (map (map see)) (may_change effect (effect e) chains id) (Some (chains_after effect chains (Change id e ∷ []))) None (Some (chains_after effect_seen (map (map see) chains) (Change id (see e) ∷ []))) None
      (ap (λ (l : List (List F)). Some l) (sym (chains_after-seen effect effect_seen see same chains (Change id e ∷ [])))) refl

takes_event-makes : (events : List (Event Entry)) (id : ℕ) (e : Entry) → takes_change effect_of_entry (chains_after effect_of_entry [] events) id e ≡ seen_option (chains_after effect_of_entry []) (takes_event effect_of_entry events id e)
takes_event-makes events id e =
    seen-if (chains_after effect_of_entry []) (may_change effect_of_entry (effect_of_entry e) (chains_after effect_of_entry [] events) id) (Some (events ++ Change id e ∷ [])) None (Some (chains_after effect_of_entry (chains_after effect_of_entry [] events) (Change id e ∷ []))) None
    (ap (λ (l : List (List Entry)). Some l) (sym (chains_after-append effect_of_entry [] events (Change id e ∷ [])))) refl

-- ---- what the code keeps, and the meaning

-- each head of these records, from a place on, is seen as the record's entry
abbrev pub AreSeen : (Head → Entry) → ℕ → List Record → Type 0
AreSeen see place rs = AllSeen head_at entry_at (takes_change effect_of_head) (takes_change effect_of_entry) see (map (map see)) place rs

abbrev pub FramesSeen : (Head → Entry) → ℕ → List Frame → Type 0
FramesSeen see gate frames = AllFramesSeen head_at entry_at (takes_change effect_of_head) (takes_change effect_of_entry) see (map (map see)) gate frames

-- the progress of the meaning, in chains
abbrev pub Meant : Type 0
Meant = Progress Entry (List (Event Entry))

abbrev pub Made : Type 0
Made = Progress Entry (List (List Entry))

abbrev pub made_of : Meant → Made
made_of p = seen_progress entry_at entry_at (takes_event effect_of_entry) (takes_change effect_of_entry) (λ e. e) (chains_after effect_of_entry []) p

abbrev pub made_in : (Head → Entry) → Read → Made
made_in see p = seen_progress head_at entry_at (takes_change effect_of_head) (takes_change effect_of_entry) see (map (map see)) p

abbrev pub meant_turns : ℕ → Meant → List Record → Option Meant
meant_turns place p rs = turns entry_at (takes_event effect_of_entry) place p rs

abbrev pub meant_frames : ℕ → Meant → List Frame → Option Meant
meant_frames gate p frames = frames_turns entry_at (takes_event effect_of_entry) gate p frames

abbrev pub made_turns : ℕ → Made → List Record → Option Made
made_turns place p rs = turns entry_at (takes_change effect_of_entry) place p rs

abbrev pub made_frames : ℕ → Made → List Frame → Option Made
made_frames gate p frames = frames_turns entry_at (takes_change effect_of_entry) gate p frames

all-seen : (place : ℕ) (rs : List Record) → AllSeen entry_at entry_at (takes_event effect_of_entry) (takes_change effect_of_entry) (λ e. e) (chains_after effect_of_entry []) place rs
all-seen place [] = tt
all-seen place (r ∷ rs) = (refl, all-seen (place + size r) rs)

all-frames-seen : (gate : ℕ) (frames : List Frame) → AllFramesSeen entry_at entry_at (takes_event effect_of_entry) (takes_change effect_of_entry) (λ e. e) (chains_after effect_of_entry []) gate frames
all-frames-seen gate [] = tt
all-frames-seen gate (frame ∷ frames) = (all-seen (gate + 9) frame.records, all-frames-seen (gate + (9 + length (body frame.records))) frames)

-- the chains that the meaning makes
pub turns-make : (place : ℕ) (p : Meant) (rs : List Record) → made_turns place (made_of p) rs ≡ seen_option made_of (meant_turns place p rs)
turns-make place p rs = turns-seen entry_at entry_at (takes_event effect_of_entry) (takes_change effect_of_entry) (λ e. e) (chains_after effect_of_entry []) takes_event-makes place p rs (all-seen place rs)

pub frames-make : (gate : ℕ) (p : Meant) (frames : List Frame) → made_frames gate (made_of p) frames ≡ seen_option made_of (meant_frames gate p frames)
frames-make gate p frames = frames_turns-seen entry_at entry_at (takes_event effect_of_entry) (takes_change effect_of_entry) (λ e. e) (chains_after effect_of_entry []) takes_event-makes gate p frames (all-frames-seen gate frames)

-- the heads represent them
module _ (see : Head → Entry) (same : SameEffect effect_of_head effect_of_entry see) where
  pub steps-make : (place : ℕ) (p : Read) (rs : List Record) → AreSeen see place rs → made_turns place (made_in see p) rs ≡ seen_option (made_in see) (steps place p rs)
  steps-make place p rs h = turns-seen head_at entry_at (takes_change effect_of_head) (takes_change effect_of_entry) see (map (map see)) (takes_change-seen effect_of_head effect_of_entry see same) place p rs h

  pub read-make : (gate : ℕ) (p : Read) (frames : List Frame) → FramesSeen see gate frames → made_frames gate (made_in see p) frames ≡ seen_option (made_in see) (frames_turns head_at (takes_change effect_of_head) gate p frames)
  read-make gate p frames h = frames_turns-seen head_at entry_at (takes_change effect_of_head) (takes_change effect_of_entry) see (map (map see)) (takes_change-seen effect_of_head effect_of_entry see same) gate p frames h

-- the frames, and then the gate after them
pub frames_steps-are : (gate : ℕ) (p : Read) (frames : List Frame) → frames_steps gate p frames ≡ (frames_turns head_at (takes_change effect_of_head) gate p frames >>= λ q. if nat_lt (gate_after gate frames + room_for q.begun) (2 ^ 63) then Some (gate_after gate frames, q) else None)
unfolding frames_steps frames_turns
frames_steps-are gate p [] = refl
frames_steps-are gate p (frame ∷ frames) = by (steps (gate + 9) p frame.records) (λ q. frames_steps-are next q frames)
  where
    next : ℕ
    next = gate + (9 + length (body frame.records))

    ends : Read → Option (ℕ × Read)
    ends q = if nat_lt (gate_after (gate + (9 + length (body frame.records))) frames + room_for q.begun) (2 ^ 63) then Some (gate_after (gate + (9 + length (body frame.records))) frames, q) else None

    by : (x : Option Read) → ((q : Read) → frames_steps (gate + (9 + length (body frame.records))) q frames ≡ (frames_turns head_at (takes_change effect_of_head) (gate + (9 + length (body frame.records))) q frames >>= ends))
        → (x >>= λ q. frames_steps (gate + (9 + length (body frame.records))) q frames) ≡ ((x >>= λ q. frames_turns head_at (takes_change effect_of_head) (gate + (9 + length (body frame.records))) q frames) >>= ends)
    by None k = refl
    by (Some q) k = k q

-- ---- heads in their bytes

-- the payload of a record after `place` bytes
payload-at : (front : List ℕ) (place : ℕ) (r : Record) (behind : List ℕ) → length front ≡ place → take (length r.payload) (drop (place + 17) (front ++ (record_bytes r ++ behind))) ≡ r.payload
payload-at front place r behind len =
    let head = number_bytes r.id ++ number_bytes (length r.payload) in
    let before = front ++ r.kind ∷ head in
    let regrouped : front ++ (record_bytes r ++ behind) ≡ before ++ (r.payload ++ behind) =
    ap (λ (l : List ℕ). front ++ l) (append_assoc (r.kind ∷ head) r.payload behind) ∙ sym (append_assoc front (r.kind ∷ head) (r.payload ++ behind)) in
    let long : length before ≡ place + 17 = omega (arith, length-append front (r.kind ∷ head), length-append (number_bytes r.id) (number_bytes (length r.payload)), number_bytes-length r.id, number_bytes-length (length r.payload)) in
    ap (λ (l : List ℕ). take (length r.payload) (drop (place + 17) l)) regrouped
    ∙ ap (take (length r.payload)) (drop_at before (r.payload ++ behind) (place + 17) long)
    ∙ take_at r.payload behind (length r.payload) refl

pub record_bytes-length : (r : Record) → length (record_bytes r) ≡ size r
record_bytes-length r =
    let len = number_bytes (length r.payload) in
    omega (arith, length-append (number_bytes r.id ++ len) r.payload, length-append (number_bytes r.id) len, number_bytes-length r.id, number_bytes-length (length r.payload))

pub are_seen : (bytes front : List ℕ) (place : ℕ) (rs : List Record) (behind : List ℕ) → bytes ≡ front ++ (body rs ++ behind) → length front ≡ place → AreSeen (entry_in bytes) place rs
are_seen bytes front place [] behind is len = tt
are_seen bytes front place (r ∷ rs) behind is len =
    let others = body rs ++ behind in
    let first : bytes ≡ front ++ (record_bytes r ++ others) = is ∙ ap (λ (l : List ℕ). front ++ l) (append_assoc (record_bytes r) (body rs) behind) in
    let payload : take (length r.payload) (drop (place + 17) bytes) ≡ r.payload = ap (λ (l : List ℕ). take (length r.payload) (drop (place + 17) l)) first ∙ payload-at front place r others len in (
      ap (λ (p : List ℕ). record { message = record { kind = kind_of r.kind; payload = p }; place = (entry_at place r).place }) payload,
      are_seen bytes (front ++ record_bytes r) (place + size r) rs behind (first ∙ sym (append_assoc front (record_bytes r) others)) (omega (arith, length-append front (record_bytes r), record_bytes-length r)),
    )

pub frames_seen : (bytes front : List ℕ) (gate : ℕ) (frames : List Frame) (behind : List ℕ) → bytes ≡ front ++ (frames_bytes frames ++ behind) → length front ≡ gate → FramesSeen (entry_in bytes) gate frames
frames_seen bytes front gate [] behind is len = tt
frames_seen bytes front gate (frame ∷ frames) behind is len =
    let inside = body frame.records in
    let head = frame.gate ∷ number_bytes (length inside) in
    let others = frames_bytes frames ++ behind in
    let first : bytes ≡ (front ++ head) ++ (inside ++ others) =
    is ∙ ap (λ (l : List ℕ). front ++ l) (append_assoc (head ++ inside) (frames_bytes frames) behind ∙ append_assoc head inside others) ∙ sym (append_assoc front head (inside ++ others)) in
    let long : length (front ++ head) ≡ gate + 9 = omega (arith, length-append front head, number_bytes-length (length inside)) in (
      are_seen bytes (front ++ head) (gate + 9) frame.records others first long,
      frames_seen bytes ((front ++ head) ++ inside) (gate + (9 + length inside)) frames behind (first ∙ sym (append_assoc (front ++ head) inside others)) (omega (arith, length-append (front ++ head) inside)),
    )

pub gate_after-is : (gate : ℕ) (frames : List Frame) → gate_after gate frames ≡ gate + length (frames_bytes frames)
gate_after-is gate [] = omega arith
gate_after-is gate (frame ∷ frames) =
    let inside = body frame.records in
    let head = number_bytes (length inside) in
    omega (arith, gate_after-is (gate + (9 + length inside)) frames, length-append (frame_bytes frame) (frames_bytes frames), length-append head inside, number_bytes-length (length inside))

-- ---- from what the code keeps to the meaning

pub some-seen : {A B : Type 0} (f : A → B) (x : Option A) (y : B) → seen_option f x ≡ Some y → (a : A) × (x ≡ Some a) × (f a ≡ y)
some-seen f None y is = absurd cc
some-seen f (Some a) y is = (a, refl, cc)

-- the meaning makes the same chains as what was read
abbrev pub StandsFor : (Head → Entry) → Meant → Read → Type 0
StandsFor see q p = made_of q ≡ made_in see p

-- there is a meaning, and it makes the same chains as what was read
abbrev pub IsMeant : (Head → Entry) → Option Meant → Read → Type 0
IsMeant see found p = (q : Meant) × (found ≡ Some q) × StandsFor see q p

module _ (see : Head → Entry) (same : SameEffect effect_of_head effect_of_entry see) where
  pub frames-meant : (gate : ℕ) (q : Meant) (p later : Read) (frames : List Frame) → FramesSeen see gate frames → StandsFor see q p → frames_turns head_at (takes_change effect_of_head) gate p frames ≡ Some later → IsMeant see (meant_frames gate q frames) later
  frames-meant gate q p later frames h stands read =
      some-seen made_of (meant_frames gate q frames) (made_in see later)
      (sym (frames-make gate q frames) ∙ ap (λ (m : Made). made_frames gate m frames) stands ∙ read-make see same gate p frames h ∙ ap (seen_option (made_in see)) read)

  pub turns-meant : (place : ℕ) (q : Meant) (p later : Read) (rs : List Record) → AreSeen see place rs → StandsFor see q p → steps place p rs ≡ Some later → IsMeant see (meant_turns place q rs) later
  turns-meant place q p later rs h stands read =
      some-seen made_of (meant_turns place q rs) (made_in see later)
      (sym (turns-make place q rs) ∙ ap (λ (m : Made). made_turns place m rs) stands ∙ steps-make see same place p rs h ∙ ap (seen_option (made_in see)) read)

  -- and back
  pub frames-read : (gate : ℕ) (q later : Meant) (p : Read) (frames : List Frame) → FramesSeen see gate frames → StandsFor see q p → meant_frames gate q frames ≡ Some later
      → (r : Read) × (frames_turns head_at (takes_change effect_of_head) gate p frames ≡ Some r) × (made_in see r ≡ made_of later)
  frames-read gate q later p frames h stands meant =
      some-seen (made_in see) (frames_turns head_at (takes_change effect_of_head) gate p frames) (made_of later)
      (sym (read-make see same gate p frames h) ∙ ap (λ (m : Made). made_frames gate m frames) (sym stands) ∙ frames-make gate q frames ∙ ap (seen_option made_of) meant)

room-meant : (q : Option (Begun Entry)) → room_for (made_of (record { settled = []; begun = q })).begun ≡ room_for q
room-meant None = refl
room-meant (Some b) = refl

room-read : (see : Head → Entry) (p : Option (Begun Head)) → room_for (made_in see (record { settled = []; begun = p })).begun ≡ room_for p
room-read see None = refl
room-read see (Some b) = refl

-- both need the same room
pub same-room : (see : Head → Entry) (q : Meant) (p : Read) → StandsFor see q p → room_for q.begun ≡ room_for p.begun
same-room see q p stands = sym (room-meant q.begun) ∙ ap (λ (m : Made). room_for m.begun) stands ∙ room-read see p.begun

-- the same for the chains that count
pub same-chains : (see : Head → Entry) (q : Meant) (p : Read) → StandsFor see q p → map (map see) p.settled ≡ chains_after effect_of_entry [] q.settled
same-chains see q p stands = ap (λ (m : Made). m.settled) (sym stands)
