-- A place among records, and those from there on.
use Rattle.std.proofs.Common.{◌≡◌, ◌⊎◌, inl, inr, ⊎_elim, ℕ, ◌+◌, ◌-◌, ◌≤◌, ◌<◌, Bool, true, false, List, [], ◌∷◌, ◌++◌, length, take, drop, refl, ap, sym, ◌∙◌, subst, append_assoc, arith}
use Rattle.std.specs.Prelude.{get_or, nat_le, ◌==◌, ◌&&◌, ◌||◌}
use Rattle.std.specs.List.{AllByRecursion}
use Rattle.std.proofs.lemmas.Bool.{le-leb, lt-leb, eqb-true, eq-eqb}
use Rattle.std.proofs.lemmas.List.{drop_at, drop-take, take-take, get_or-take, length-append, append-nil}
use Rattle.std.proofs.lemmas.List.Elements.{filter-append}
use Rattle.sled_disk.specs.declared.format.record.RawHead.{RawHead}
use Rattle.sled_disk.specs.Cursor.{is_between, is_among, IsFront}
use Rattle.sled_disk.specs.EncodingLaws.{number-at_front, number_bytes-length, drop-number}
use Rattle.sled_disk.specs.CountedMessages.{placed, all_placed, placed_from}
use Rattle.sled_disk.specs.Format.{Record, Frame, Fits, IsFrame, size, number, number_bytes, record_bytes, body, frame_bytes, frames_bytes}
use Rattle.sled_disk.specs.MeaningLaws.{gate_after, gate_after-is, record_bytes-length}

-- ---- records by their places

pub from-append : (at : ℕ) (xs ys : List (ℕ × Record)) → placed_from at (xs ++ ys) ≡ placed_from at xs ++ placed_from at ys
from-append at xs ys = filter-append (λ x. nat_le at x.0) xs ys

one-kept : (at place : ℕ) (r : Record) → at ≤ place → placed_from at ((place, r) ∷ []) ≡ (place, r) ∷ []
one-kept at place r le = rw (le-leb at place le) refl

one-dropped : (at place : ℕ) (r : Record) → place < at → placed_from at ((place, r) ∷ []) ≡ []
one-dropped at place r lt = rw (lt-leb at place lt) refl

-- all of them stand at the place of the first or behind it
pub records-kept : (place : ℕ) (rs : List Record) (at : ℕ) → at ≤ place → placed_from at (placed place rs) ≡ placed place rs
records-kept place [] at le = refl
records-kept place (r ∷ rs) at le =
    from-append at ((place, r) ∷ []) (placed (place + size r) rs)
    ∙ ap (λ (l : List (ℕ × Record)). l ++ placed_from at (placed (place + size r) rs)) (one-kept at place r le)
    ∙ ap (λ (l : List (ℕ × Record)). (place, r) ∷ l) (records-kept (place + size r) rs at (omega (arith, le)))

-- and before the end of the last
pub records-dropped : (place : ℕ) (rs : List Record) (at : ℕ) → place + length (body rs) ≤ at → placed_from at (placed place rs) ≡ []
records-dropped place [] at le = refl
records-dropped place (r ∷ rs) at le =
    let long = length-append (record_bytes r) (body rs) in
    let here = record_bytes-length r in
    from-append at ((place, r) ∷ []) (placed (place + size r) rs)
    ∙ ap (λ (l : List (ℕ × Record)). l ++ placed_from at (placed (place + size r) rs)) (one-dropped at place r (omega (arith, le, long, here)))
    ∙ records-dropped (place + size r) rs at (omega (arith, le, long, here))

-- ---- a place among records

abbrev pub Between : ℕ → List Record → ℕ → Type 0
Between place [] at = at ≡ place
Between place (r ∷ rs) at = (at ≡ place) ⊎ Between (place + size r) rs at

abbrev pub StandsIn : ℕ → List Frame → List Record → ℕ → ℕ → Type 0
StandsIn first [] pending gate at = (gate ≡ first) × Between (first + 9) pending at
StandsIn first (frame ∷ frames) pending gate at = ((gate ≡ first) × Between (first + 9) frame.records at) ⊎ StandsIn (first + (9 + length (body frame.records))) frames pending gate at

or-true : (a b : Bool) → a || b ≡ true → (a ≡ true) ⊎ (b ≡ true)
or-true true b h = inl refl
or-true false b h = inr h

and-true : (a b : Bool) → a && b ≡ true → (a ≡ true) × (b ≡ true)
and-true true b h = (refl, h)
and-true false b h = absurd cc

or-left : (a b : Bool) → a ≡ true → a || b ≡ true
or-left true b h = refl
or-left false b h = absurd cc

or-right : (a b : Bool) → b ≡ true → a || b ≡ true
or-right true b h = refl
or-right false b h = h

and-both : (a b : Bool) → a ≡ true → b ≡ true → a && b ≡ true
and-both true b h k = k
and-both false b h k = absurd cc

pub between : (place : ℕ) (rs : List Record) (at : ℕ) → is_between place rs at ≡ true → Between place rs at
between place [] at h = eqb-true at place h
between place (r ∷ rs) at h = ⊎_elim (λ is. inl (eqb-true at place is)) (λ b. inr (between (place + size r) rs at b)) (or-true (at == place) (is_between (place + size r) rs at) h)

pub is-between : (place : ℕ) (rs : List Record) (at : ℕ) → Between place rs at → is_between place rs at ≡ true
is-between place [] at is = eq-eqb at place is
is-between place (r ∷ rs) at (inl is) = or-left (at == place) (is_between (place + size r) rs at) (eq-eqb at place is)
is-between place (r ∷ rs) at (inr b) = or-right (at == place) (is_between (place + size r) rs at) (is-between (place + size r) rs at b)

here-of : (gate first : ℕ) (rs : List Record) (at : ℕ) → gate == first && is_between (first + 9) rs at ≡ true → (gate ≡ first) × Between (first + 9) rs at
here-of gate first rs at h = let p = and-true (gate == first) (is_between (first + 9) rs at) h in (eqb-true gate first p.0, between (first + 9) rs at p.1)

is-here : (gate first : ℕ) (rs : List Record) (at : ℕ) → (gate ≡ first) × Between (first + 9) rs at → gate == first && is_between (first + 9) rs at ≡ true
is-here gate first rs at p = and-both (gate == first) (is_between (first + 9) rs at) (eq-eqb gate first p.0) (is-between (first + 9) rs at p.1)

pub stands : (first : ℕ) (frames : List Frame) (pending : List Record) (gate at : ℕ) → is_among first frames pending gate at ≡ true → StandsIn first frames pending gate at
stands first [] pending gate at h = here-of gate first pending at h
stands first (frame ∷ frames) pending gate at h =
    let next = first + (9 + length (body frame.records)) in
    ⊎_elim (λ here. inl (here-of gate first frame.records at here)) (λ s. inr (stands next frames pending gate at s)) (or-true (gate == first && is_between (first + 9) frame.records at) (is_among next frames pending gate at) h)

pub is-among : (first : ℕ) (frames : List Frame) (pending : List Record) (gate at : ℕ) → StandsIn first frames pending gate at → is_among first frames pending gate at ≡ true
is-among first [] pending gate at s = is-here gate first pending at s
is-among first (frame ∷ frames) pending gate at (inl here) =
    or-left (gate == first && is_between (first + 9) frame.records at) (is_among (first + (9 + length (body frame.records))) frames pending gate at) (is-here gate first frame.records at here)
is-among first (frame ∷ frames) pending gate at (inr s) =
    let next = first + (9 + length (body frame.records)) in
    or-right (gate == first && is_between (first + 9) frame.records at) (is_among next frames pending gate at) (is-among next frames pending gate at s)

pub between-first : (place : ℕ) (rs : List Record) → Between place rs place
between-first place [] = refl
between-first place (r ∷ rs) = inl refl

pub between-least : (place : ℕ) (rs : List Record) (at : ℕ) → Between place rs at → place ≤ at
between-least place [] at is = omega (arith, is)
between-least place (r ∷ rs) at (inl is) = omega (arith, is)
between-least place (r ∷ rs) at (inr b) = let le = between-least (place + size r) rs at b in omega (arith, le)

pub between-most : (place : ℕ) (rs : List Record) (at : ℕ) → Between place rs at → at ≤ place + length (body rs)
between-most place [] at is = omega (arith, is)
between-most place (r ∷ rs) at (inl is) = omega (arith, is)
between-most place (r ∷ rs) at (inr b) = let le = between-most (place + size r) rs at b in omega (arith, le, length-append (record_bytes r) (body rs), record_bytes-length r)

-- one record more
pub between-more : (place : ℕ) (rs : List Record) (r : Record) (at : ℕ) → Between place rs at → Between place (rs ++ r ∷ []) at
between-more place [] r at is = inl is
between-more place (first ∷ rs) r at (inl is) = inl is
between-more place (first ∷ rs) r at (inr b) = inr (between-more (place + size first) rs r at b)

-- The record that stands there: its bytes, which lie `shift` bytes before their places, and the records from there on.
pub record Here (bytes : List ℕ) (shift place : ℕ) (rs : List Record) (at : ℕ) : Type 0 where
  pub it : Record
  pub rest : List ℕ
  pub front : drop (at - shift) bytes ≡ record_bytes it ++ rest
  pub fits : Fits it
  pub next : Between place rs (at + size it)
  pub within : at + size it ≤ place + length (body rs)
  pub records : placed_from at (placed place rs) ≡ (at, it) ∷ placed_from (at + size it) (placed place rs)

-- those behind the first
from-behind : (place : ℕ) (r : Record) (rs : List Record) (n : ℕ) → place + size r ≤ n → placed_from n (placed place (r ∷ rs)) ≡ placed_from n (placed (place + size r) rs)
from-behind place r rs n le =
    from-append n ((place, r) ∷ []) (placed (place + size r) rs)
    ∙ ap (λ (l : List (ℕ × Record)). l ++ placed_from n (placed (place + size r) rs)) (one-dropped n place r (omega (arith, le)))

pub here : (bytes front : List ℕ) (shift place : ℕ) (rs : List Record) (behind : List ℕ) (at : ℕ) → AllByRecursion Fits rs → bytes ≡ front ++ (body rs ++ behind) → length front + shift ≡ place → Between place rs at → at < place + length (body rs) → Here bytes shift place rs at
here bytes front shift place [] behind at fits is long between lt = absurd (omega (arith, between, lt))
here bytes front shift place (r ∷ rs) behind at fits is long (inl same) lt =
    let bytes_are : bytes ≡ front ++ (record_bytes r ++ (body rs ++ behind)) = is ∙ ap (λ (l : List ℕ). front ++ l) (append_assoc (record_bytes r) (body rs) behind) in
    let total = length-append (record_bytes r) (body rs) in
    let one = record_bytes-length r in
    subst (λ n. Here bytes shift place (r ∷ rs) n) (sym same) (record {
      it = r;
      rest = body rs ++ behind;
      front = ap (drop (place - shift)) bytes_are ∙ drop_at front (record_bytes r ++ (body rs ++ behind)) (place - shift) (omega (arith, long));
      fits = fits.0;
      next = inr (between-first (place + size r) rs);
      within = omega (arith, total, one);
      records =
          records-kept place (r ∷ rs) place (omega arith)
          ∙ ap (λ (l : List (ℕ × Record)). (place, r) ∷ l) (sym (from-behind place r rs (place + size r) (omega arith) ∙ records-kept (place + size r) rs (place + size r) (omega arith)));
    })
here bytes front shift place (r ∷ rs) behind at fits is long (inr between) lt =
    let total = length-append (record_bytes r) (body rs) in
    let one = record_bytes-length r in
    let parts : bytes ≡ (front ++ record_bytes r) ++ (body rs ++ behind) =
    is ∙ ap (λ (l : List ℕ). front ++ l) (append_assoc (record_bytes r) (body rs) behind) ∙ sym (append_assoc front (record_bytes r) (body rs ++ behind)) in
    let h = here bytes (front ++ record_bytes r) shift (place + size r) rs behind at fits.1 parts (omega (arith, long, one, length-append front (record_bytes r))) between (omega (arith, lt, total, one)) in
    let least = between-least (place + size r) rs at between in
    let within = h.within in
    record {
      it = h.it;
      rest = h.rest;
      front = h.front;
      fits = h.fits;
      next = inr h.next;
      within = omega (arith, within, total, one);
      records = from-behind place r rs at least ∙ h.records ∙ ap (λ (l : List (ℕ × Record)). (at, h.it) ∷ l) (sym (from-behind place r rs (at + size h.it) (omega (arith, least))));
    }

-- what the first bytes of a record say
pub front-says : (bytes rest : List ℕ) (it : Record) (raw : RawHead) (len : ℕ) → bytes ≡ record_bytes it ++ rest → Fits it → IsFront bytes raw len → (raw.kind ≡ it.kind) × (raw.page ≡ it.id) × (len ≡ length it.payload)
front-says bytes rest it raw len is fits front =
    let n = number_bytes (length it.payload) in
    let behind = n ++ (it.payload ++ rest) in
    let parts : bytes ≡ it.kind ∷ (number_bytes it.id ++ behind) = is ∙ ap (λ (l : List ℕ). it.kind ∷ l) (append_assoc (number_bytes it.id ++ n) it.payload rest ∙ append_assoc (number_bytes it.id) n (it.payload ++ rest)) in (
      front.kind ∙ ap (λ (l : List ℕ). get_or l 0 0) parts,
      front.page ∙ ap (λ (l : List ℕ). number (take 8 (drop 1 l))) parts ∙ number-at_front it.id behind fits.id,
      front.len ∙ ap (λ (l : List ℕ). number (take 8 (drop 9 l))) parts ∙ ap (λ (l : List ℕ). number (take 8 l)) (drop-number it.id behind) ∙ number-at_front (length it.payload) (it.payload ++ rest) fits.payload,
    )

-- the first bytes of these are enough
pub front-taken : (bytes front : List ℕ) (raw : RawHead) (len : ℕ) → front ≡ take 17 bytes → IsFront front raw len → IsFront bytes raw len
front-taken bytes front raw len is f = record {
  kind = f.kind ∙ ap (λ (l : List ℕ). get_or l 0 0) is ∙ get_or-take 17 bytes 0 0 (omega arith);
  page = f.page ∙ ap (λ (l : List ℕ). number (take 8 (drop 1 l))) is ∙ ap (λ (l : List ℕ). number (take 8 l)) (drop-take 1 16 bytes) ∙ ap number (take-take 8 16 (drop 1 bytes) (omega arith));
  len = f.len ∙ ap (λ (l : List ℕ). number (take 8 (drop 9 l))) is ∙ ap (λ (l : List ℕ). number (take 8 l)) (drop-take 9 8 bytes) ∙ ap number (take-take 8 8 (drop 9 bytes) (omega arith));
}

-- ---- a place among frames

abbrev pub end_of : ℕ → Frame → ℕ
end_of gate frame = gate + (9 + length (body frame.records))

pub frames-kept : (first : ℕ) (frames : List Frame) (pending : List Record) (at : ℕ) → at ≤ first + 9 → placed_from at (all_placed first frames pending) ≡ all_placed first frames pending
frames-kept first [] pending at le = records-kept (first + 9) pending at le
frames-kept first (frame ∷ frames) pending at le =
    let here = placed (first + 9) frame.records in
    let others = all_placed (end_of first frame) frames pending in
    from-append at here others
    ∙ ap (λ (l : List (ℕ × Record)). l ++ placed_from at others) (records-kept (first + 9) frame.records at le)
    ∙ ap (λ (l : List (ℕ × Record)). here ++ l) (frames-kept (end_of first frame) frames pending at (omega (arith, le)))

pub stands-least : (first : ℕ) (frames : List Frame) (pending : List Record) (gate at : ℕ) → StandsIn first frames pending gate at → first ≤ gate
stands-least first [] pending gate at (is, b) = omega (arith, is)
stands-least first (frame ∷ frames) pending gate at (inl (is, b)) = omega (arith, is)
stands-least first (frame ∷ frames) pending gate at (inr s) = let le = stands-least (end_of first frame) frames pending gate at s in omega (arith, le)

pub stands-first : (first : ℕ) (frames : List Frame) (pending : List Record) → StandsIn first frames pending first (first + 9)
stands-first first [] pending = (refl, between-first (first + 9) pending)
stands-first first (frame ∷ frames) pending = inl (refl, between-first (first + 9) frame.records)

-- other pending records
pub stands-other : (first : ℕ) (frames : List Frame) (pending others : List Record) (gate at : ℕ) → ((place : ℕ) → Between place pending at → place ≡ gate_after first frames + 9 → Between place others at) → StandsIn first frames pending gate at → StandsIn first frames others gate at
stands-other first [] pending others gate at k (is, b) = (is, k (first + 9) b refl)
stands-other first (frame ∷ frames) pending others gate at k (inl here) = inl here
stands-other first (frame ∷ frames) pending others gate at k (inr s) = inr (stands-other (end_of first frame) frames pending others gate at k s)

-- the pending records were written as a frame
pub stands-written : (first : ℕ) (frames : List Frame) (byte : ℕ) (pending : List Record) (gate at : ℕ) → StandsIn first frames pending gate at → StandsIn first (frames ++ record { gate = byte; records = pending } ∷ []) [] gate at
stands-written first [] byte pending gate at (is, b) = inl (is, b)
stands-written first (frame ∷ frames) byte pending gate at (inl here) = inl here
stands-written first (frame ∷ frames) byte pending gate at (inr s) = inr (stands-written (end_of first frame) frames byte pending gate at s)

-- the frame is one of the file: its records' bytes, and its end, behind which the next one stands
pub record IsDurable (bytes : List ℕ) (first : ℕ) (frames : List Frame) (pending : List Record) (gate : ℕ) (records : List Record) : Type 0 where
  pub front : List ℕ
  pub behind : List ℕ
  pub is : bytes ≡ front ++ (body records ++ behind)
  pub long : length front ≡ gate + 9
  pub fits : AllByRecursion Fits records
  pub len : number (take 8 (drop (gate + 1) bytes)) ≡ length (body records)
  pub next : StandsIn first frames pending (gate + (9 + length (body records))) (gate + (9 + length (body records)) + 9)
  pub ends : gate + (9 + length (body records)) ≤ gate_after first frames

-- the records of its frame, and those before and behind them
pub record InFrame (bytes : List ℕ) (first : ℕ) (frames : List Frame) (pending : List Record) (gate at : ℕ) : Type 0 where
  pub records : List Record
  pub place : Between (gate + 9) records at
  pub before : List (ℕ × Record)
  pub behind : List (ℕ × Record)
  pub parts : all_placed first frames pending ≡ before ++ (placed (gate + 9) records ++ behind)
  pub before_dropped : (n : ℕ) → gate + 9 ≤ n → placed_from n before ≡ []
  pub behind_kept : (n : ℕ) → n ≤ gate + (9 + length (body records)) + 9 → placed_from n behind ≡ behind
  pub again : (n : ℕ) → Between (gate + 9) records n → StandsIn first frames pending gate n
  pub either : IsDurable bytes first frames pending gate records ⊎ ((gate ≡ gate_after first frames) × (records ≡ pending) × (behind ≡ []))

gates-later : (first : ℕ) (frames : List Frame) → first ≤ gate_after first frames
gates-later first frames = omega (arith, gate_after-is first frames)

pub in-frame : (bytes front : List ℕ) (first : ℕ) (frames : List Frame) (pending : List Record) (behind : List ℕ) (gate at : ℕ) → AllByRecursion IsFrame frames → bytes ≡ front ++ (frames_bytes frames ++ behind) → length front ≡ first → StandsIn first frames pending gate at → InFrame bytes first frames pending gate at
in-frame bytes front first [] pending behind gate at each is long (same, between) =
    subst (λ n. InFrame bytes first [] pending n at) (sym same) (record {
      records = pending;
      place = between;
      before = [];
      behind = [];
      parts = sym (append-nil (placed (first + 9) pending));
      before_dropped = λ n le. refl;
      behind_kept = λ n le. refl;
      again = λ n b. (refl, b);
      either = inr (refl, refl, refl);
    })
in-frame bytes front first (frame ∷ frames) pending behind gate at each is long (inl (same, between)) =
    let inside = body frame.records in
    let head = frame.gate ∷ number_bytes (length inside) in
    let others = frames_bytes frames ++ behind in
    let next = end_of first frame in
    let parts : bytes ≡ (front ++ head) ++ (inside ++ others) =
    is ∙ ap (λ (l : List ℕ). front ++ l) (append_assoc (head ++ inside) (frames_bytes frames) behind ∙ append_assoc head inside others) ∙ sym (append_assoc front head (inside ++ others)) in
    let cut : bytes ≡ (front ++ frame.gate ∷ []) ++ (number_bytes (length inside) ++ (inside ++ others)) =
    parts ∙ append_assoc front head (inside ++ others) ∙ sym (append_assoc front (frame.gate ∷ []) (number_bytes (length inside) ++ (inside ++ others))) in
    subst (λ n. InFrame bytes first (frame ∷ frames) pending n at) (sym same) (record {
      records = frame.records;
      place = between;
      before = [];
      behind = all_placed next frames pending;
      parts = refl;
      before_dropped = λ n le. refl;
      behind_kept = λ n le. frames-kept next frames pending n (omega (arith, le));
      again = λ n b. inl (refl, b);
      either = inl (record {
        front = front ++ head;
        behind = others;
        is = parts;
        long = omega (arith, long, length-append front head, number_bytes-length (length inside));
        fits = each.0.fit;
        len = ap (λ (l : List ℕ). number (take 8 l)) (ap (drop (first + 1)) cut ∙ drop_at (front ++ frame.gate ∷ []) (number_bytes (length inside) ++ (inside ++ others)) (first + 1) (omega (arith, long, length-append front (frame.gate ∷ []))))
            ∙ number-at_front (length inside) (inside ++ others) each.0.length;
        next = inr (stands-first next frames pending);
        ends = gates-later next frames;
      });
    })
in-frame bytes front first (frame ∷ frames) pending behind gate at each is long (inr stands) =
    let next = end_of first frame in
    let here = placed (first + 9) frame.records in
    let others = frames_bytes frames ++ behind in
    let parts : bytes ≡ (front ++ frame_bytes frame) ++ others = is ∙ ap (λ (l : List ℕ). front ++ l) (append_assoc (frame_bytes frame) (frames_bytes frames) behind) ∙ sym (append_assoc front (frame_bytes frame) others) in
    let total = length-append (number_bytes (length (body frame.records))) (body frame.records) in
    let f = in-frame bytes (front ++ frame_bytes frame) next frames pending behind gate at each.1 parts (omega (arith, long, total, number_bytes-length (length (body frame.records)), length-append front (frame_bytes frame))) stands in
    let least = stands-least next frames pending gate at stands in
    record {
      records = f.records;
      place = f.place;
      before = here ++ f.before;
      behind = f.behind;
      parts = ap (λ (l : List (ℕ × Record)). here ++ l) f.parts ∙ sym (append_assoc here f.before (placed (gate + 9) f.records ++ f.behind));
      before_dropped = λ n le. from-append n here f.before ∙ ap (λ (l : List (ℕ × Record)). l ++ placed_from n f.before) (records-dropped (first + 9) frame.records n (omega (arith, le, least))) ∙ f.before_dropped n le;
      behind_kept = f.behind_kept;
      again = λ n b. inr (f.again n b);
      either = ⊎_elim (λ d. inl (record { front = d.front; behind = d.behind; is = d.is; long = d.long; fits = d.fits; len = d.len; next = inr d.next; ends = d.ends })) (λ p. inr p) f.either;
    }

-- the records from a place in the frame on
pub from-inside : (bytes : List ℕ) (first : ℕ) (frames : List Frame) (pending : List Record) (gate at : ℕ) (f : InFrame bytes first frames pending gate at) (n : ℕ) → gate + 9 ≤ n → n ≤ gate + (9 + length (body f.records)) + 9
    → placed_from n (all_placed first frames pending) ≡ placed_from n (placed (gate + 9) f.records) ++ f.behind
from-inside bytes first frames pending gate at f n least most =
    let inside = placed (gate + 9) f.records in
    ap (placed_from n) f.parts ∙ from-append n f.before (inside ++ f.behind) ∙ ap (λ (l : List (ℕ × Record)). l ++ placed_from n (inside ++ f.behind)) (f.before_dropped n least)
    ∙ from-append n inside f.behind ∙ ap (λ (l : List (ℕ × Record)). placed_from n inside ++ l) (f.behind_kept n most)
