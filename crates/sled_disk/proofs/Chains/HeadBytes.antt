-- Heads in their bytes.
use Rattle.std.proofs.Common.{◌≡◌, ℕ, ◌+◌, List, [], ◌∷◌, ◌++◌, length, map, take, drop, get_or, ap, sym, ◌∙◌, append_assoc, arith}
use Rattle.std.specs.Prelude.{ℤ}
use Rattle.std.specs.List.{AllByRecursion}
use Rattle.std.proofs.lemmas.List.{drop_at, length-append}
use Rattle.sled_base.specs.Kinds.{kind_of}
use Rattle.sled_base.specs.Pointers.{offset_of}
use Rattle.sled_base.specs.declared.kinds.MessageKind.{MessageKind}
use Rattle.sled_base.specs.declared.types.DiskPtr.{DiskPtr}
use Rattle.sled_log.specs.Pages.{IsAt, IsReadAs}
use Rattle.sled_disk.specs.declared.recovery.head.Head.{Head}
use Rattle.sled_disk.specs.Format.{Record, Frame, Fits, IsFrame, number, number_bytes, size, record_bytes, body, frames_bytes}
use Rattle.sled_disk.specs.RecoveredHeads.{IsWrittenIn}
use Rattle.sled_disk.specs.Reading.{entry_in, head_at}
use Rattle.sled_disk.specs.MeaningLaws.{record_bytes-length}
use Rattle.sled_disk.specs.EncodingLaws.{number-at_front, number_bytes-length}
use Rattle.sled_disk.proofs.Chains.EachHead.{Heads, FrameHeads}

record-written : (bytes front : List ℕ) (place : ℕ) (r : Record) (behind : List ℕ) → Fits r → bytes ≡ front ++ (record_bytes r ++ behind) → length front ≡ place → IsWrittenIn bytes (head_at place r)
record-written bytes front place r behind fits is len =
    let rest = number_bytes (length r.payload) ++ (r.payload ++ behind) in
    let before = front ++ r.kind ∷ number_bytes r.id in
    let regrouped : bytes ≡ before ++ rest =
    is ∙ ap (λ (l : List ℕ). front ++ r.kind ∷ l) (append_assoc (number_bytes r.id ++ number_bytes (length r.payload)) r.payload behind ∙ append_assoc (number_bytes r.id) (number_bytes (length r.payload)) (r.payload ++ behind))
    ∙ sym (append_assoc front (r.kind ∷ number_bytes r.id) rest) in
    let long : length before ≡ place + 9 = omega (arith, length-append front (r.kind ∷ number_bytes r.id), number_bytes-length r.id) in
    record {
      kind = ap kind_of (ap (λ (l : List ℕ). get_or (drop place l) 0 0) is ∙ ap (λ (l : List ℕ). get_or l 0 0) (drop_at front (record_bytes r ++ behind) place len));
      len = ap (λ (l : List ℕ). number (take 8 (drop (place + 9) l))) regrouped ∙ ap (λ (l : List ℕ). number (take 8 l)) (drop_at before rest (place + 9) long) ∙ number-at_front (length r.payload) (r.payload ++ behind) fits.payload;
      within = let e = ap length is in omega (arith, length-append front (record_bytes r ++ behind), length-append (record_bytes r) behind, record_bytes-length r);
    }

pub records-written : (bytes front : List ℕ) (place : ℕ) (rs : List Record) (behind : List ℕ) → AllByRecursion Fits rs → bytes ≡ front ++ (body rs ++ behind) → length front ≡ place → Heads (IsWrittenIn bytes) place rs
records-written bytes front place [] behind fits is len = tt
records-written bytes front place (r ∷ rs) behind fits is len =
    let others = body rs ++ behind in
    let first : bytes ≡ front ++ (record_bytes r ++ others) = is ∙ ap (λ (l : List ℕ). front ++ l) (append_assoc (record_bytes r) (body rs) behind) in (
      record-written bytes front place r others fits.0 first len,
      records-written bytes (front ++ record_bytes r) (place + size r) rs behind fits.1 (first ∙ sym (append_assoc front (record_bytes r) others)) (omega (arith, length-append front (record_bytes r), record_bytes-length r)),
    )

pub frames-written : (bytes front : List ℕ) (gate : ℕ) (frames : List Frame) (behind : List ℕ) → AllByRecursion IsFrame frames → bytes ≡ front ++ (frames_bytes frames ++ behind) → length front ≡ gate → FrameHeads (IsWrittenIn bytes) gate frames
frames-written bytes front gate [] behind each is len = tt
frames-written bytes front gate (frame ∷ frames) behind each is len =
    let inside = body frame.records in
    let head = frame.gate ∷ number_bytes (length inside) in
    let others = frames_bytes frames ++ behind in
    let next = gate + (9 + length inside) in
    let one = each.0 in
    let first : bytes ≡ (front ++ head) ++ (inside ++ others) =
    is ∙ ap (λ (l : List ℕ). front ++ l) (append_assoc (head ++ inside) (frames_bytes frames) behind ∙ append_assoc head inside others) ∙ sym (append_assoc front head (inside ++ others)) in
    let long : length (front ++ head) ≡ gate + 9 = omega (arith, length-append front head, number_bytes-length (length inside)) in (
      records-written bytes (front ++ head) (gate + 9) frame.records others one.fit first long,
      frames-written bytes ((front ++ head) ++ inside) next frames behind each.1 (first ∙ sym (append_assoc (front ++ head) inside others)) (omega (arith, length-append (front ++ head) inside)),
    )

-- ---- a message by its place

-- what is read at the place of a head is its entry
pub entries-read : (bytes : List ℕ) (chain : List Head) (lsn : ℤ) (pointer : DiskPtr) (kind : MessageKind) (payload : List ℕ) → AllByRecursion (IsWrittenIn bytes) chain
    → kind ≡ kind_of (get_or (drop (offset_of pointer) bytes) 0 0) → payload ≡ take (number (take 8 (drop (offset_of pointer + 9) bytes))) (drop (offset_of pointer + 17) bytes)
    → AllByRecursion (λ entry. IsAt lsn pointer entry → IsReadAs entry kind payload) (map (entry_in bytes) chain)
entries-read bytes [] lsn pointer kind payload w k p = tt
entries-read bytes (head ∷ chain) lsn pointer kind payload w k p =
    let one = w.0 in (
      (λ at.
          let place : offset_of pointer ≡ head.place = ap offset_of (sym at.1) in (
            k ∙ ap (λ n. kind_of (get_or (drop n bytes) 0 0)) place ∙ one.kind,
            p ∙ ap (λ n. take (number (take 8 (drop (n + 9) bytes))) (drop (n + 17) bytes)) place ∙ ap (λ n. take n (drop (head.place + 17) bytes)) one.len,
          )),
      entries-read bytes chain lsn pointer kind payload w.1 k p,
    )
