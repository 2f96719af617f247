-- One more call in the journal of a disk in memory.
use Rattle.std.proofs.Common.{◌≡◌, ℕ, ◌+◌, ◌-◌, ◌≤◌, ◌<◌, max, true, nat_le, Option, Some, None, List, [], ◌∷◌, ◌++◌, get_or, length, take, drop, refl, sym, ◌∙◌, ap, ap₂, subst, arith}
use Rattle.std.proofs.Math.Seq.{drop-append_seam}
use Rattle.std.proofs.lemmas.Bool.{and_from, le-leb, eqb-true, eq-eqb}
use Rattle.std.proofs.lemmas.List.{length-drop, length-take, get_or-take, take_more, drop_more, take-append-le, drop-append-le, take_all, map-append}
use Rattle.std.specs.List.{take-map}
use Rattle.sled_disk.specs.Journal.{DiskCall, Write, Sync, call_in, calls_in, is_within, length_after, are_within, Image, all_synced, after_call, after_calls, IsReplayed}
use Rattle.sled_disk.specs.JournalLaws.{within-parts, write-parts}
use Rattle.sled_disk.specs.declared.disk.journal.Call.{Call as StoredCall}
use Rattle.sled_disk.specs.declared.disk.journal.Call.TheVariants as stored

-- ---- how calls are stored

write-from : (written len at from to : ℕ) → at ≤ len → from ≤ to → to ≤ written → is_within written len (stored.Write at from to) ≡ true
write-from written len at from to a b c = and_from (nat_le at len) _ (le-leb at len a) (and_from (nat_le from to) _ (le-leb from to b) (le-leb to written c))

longer : (len : ℕ) (call : StoredCall) → len ≤ length_after len call
longer len (stored.Write at from to) = omega arith
longer len stored.Sync = omega arith

pub within-grows : (written len end : ℕ) (calls : List StoredCall) → are_within written len end calls ≡ true → len ≤ end
within-grows written len end [] h = let e = eqb-true len end h in omega (arith, e)
within-grows written len end (call ∷ calls) h =
    omega (arith, longer len call, within-grows written (length_after len call) end calls (within-parts written len end call calls h).1)

-- where more bytes were written, a call's are still among them
within-more : (written n len : ℕ) (call : StoredCall) → is_within written len call ≡ true → is_within (written + n) len call ≡ true
within-more written n len (stored.Write at from to) h = let w = write-parts written len at from to h in let c = w.2 in write-from (written + n) len at from to w.0 w.1 (omega (arith, c))
within-more written n len stored.Sync h = h

pub within-write-more : (written len end at n : ℕ) (calls : List StoredCall) → are_within written len end calls ≡ true → at ≤ end → are_within (written + n) len (max end (at + n)) (calls ++ stored.Write at written (written + n) ∷ []) ≡ true
within-write-more written len end at n [] h le =
    let e = eqb-true len end h in
    and_from (is_within (written + n) len (stored.Write at written (written + n))) _ (write-from (written + n) len at written (written + n) (omega (arith, e, le)) (omega arith) (omega arith))
    (eq-eqb (max len (at + (written + n - written))) (max end (at + n)) (omega (arith, e)))
within-write-more written len end at n (call ∷ calls) h le =
    let p = within-parts written len end call calls h in
    and_from (is_within (written + n) len call) _ (within-more written n len call p.0) (within-write-more written (length_after len call) end at n calls p.1 le)

pub within-sync-more : (written len end : ℕ) (calls : List StoredCall) → are_within written len end calls ≡ true → are_within written len end (calls ++ stored.Sync ∷ []) ≡ true
within-sync-more written len end [] h = h
within-sync-more written len end (call ∷ calls) h =
    let p = within-parts written len end call calls h in
    and_from (is_within written len call) _ p.0 (within-sync-more written (length_after len call) end calls p.1)

-- bytes that are written behind the others change no earlier call
call_in-longer : (written more : List ℕ) (len : ℕ) (call : StoredCall) → is_within (length written) len call ≡ true → call_in (written ++ more) call ≡ call_in written call
call_in-longer written more len (stored.Write at from to) h =
    let w = write-parts (length written) len at from to h in
    let b = w.1 in
    let c = w.2 in
    ap (Write at) (ap (take (to - from)) (drop-append-le from written more (omega (arith, b, c))) ∙ take-append-le (to - from) (drop from written) more (omega (arith, c, length-drop from written)))
call_in-longer written more len stored.Sync h = refl

calls_in-longer : (written more : List ℕ) (len end : ℕ) (calls : List StoredCall) → are_within (length written) len end calls ≡ true → calls_in (written ++ more) calls ≡ calls_in written calls
calls_in-longer written more len end [] h = refl
calls_in-longer written more len end (call ∷ calls) h =
    let p = within-parts (length written) len end call calls h in
    ap₂ (λ (c : DiskCall) (l : List DiskCall). c ∷ l) (call_in-longer written more len call p.0) (calls_in-longer written more (length_after len call) end calls p.1)

part-behind : (written more : List ℕ) → take (length written + length more - length written) (drop (length written) (written ++ more)) ≡ more
part-behind written more =
    ap (take (length written + length more - length written)) (drop-append_seam written more) ∙ take_all (length written + length more - length written) more (omega arith)

pub calls_in-write : (written more : List ℕ) (len end at : ℕ) (calls : List StoredCall) → are_within (length written) len end calls ≡ true
    → calls_in (written ++ more) (calls ++ stored.Write at (length written) (length written + length more) ∷ []) ≡ calls_in written calls ++ Write at more ∷ []
calls_in-write written more len end at calls h =
    map-append (call_in (written ++ more)) calls (stored.Write at (length written) (length written + length more) ∷ [])
    ∙ ap (λ (l : List DiskCall). l ++ call_in (written ++ more) (stored.Write at (length written) (length written + length more)) ∷ []) (calls_in-longer written more len end calls h)
    ∙ ap (λ (bytes : List ℕ). calls_in written calls ++ Write at bytes ∷ []) (part-behind written more)

pub calls_in-sync : (written : List ℕ) (calls : List StoredCall) → calls_in written (calls ++ stored.Sync ∷ []) ≡ calls_in written calls ++ Sync ∷ []
calls_in-sync written calls = map-append (call_in written) calls (stored.Sync ∷ [])

-- ---- what they make of the disk

pub after_calls-push : (image : Image) (calls : List DiskCall) (call : DiskCall) → after_calls image (calls ++ call ∷ []) ≡ after_call (after_calls image calls) call
after_calls-push image [] call = refl
after_calls-push image (c ∷ calls) call = after_calls-push (after_call image c) calls call

-- ---- a replay

pub replayed-none : (fill : Option ℕ) (start seen left : List ℕ) → seen ≡ start → left ≡ start → IsReplayed fill (all_synced start) seen left
replayed-none None start seen left s l = record { reads = s; leaves = l; torn = l; long = ap length (l ∙ sym s) }
replayed-none (Some byte) start seen left s l = record { reads = s; leaves = l; torn = l; long = ap length (l ∙ sym s) }

-- one call more of those that were made
pub replayed-more : (fill : Option ℕ) (start : List ℕ) (calls : List DiskCall) (i : ℕ) (call : DiskCall) (seen left : List ℕ) → take (i + 1) calls ≡ take i calls ++ call ∷ [] → IsReplayed fill (after_call (after_calls (all_synced start) (take i calls)) call) seen left → IsReplayed fill (after_calls (all_synced start) (take (i + 1) calls)) seen left
replayed-more fill start calls i call seen left one done =
    subst (λ image. IsReplayed fill image seen left) (sym (ap (after_calls (all_synced start)) one ∙ after_calls-push (all_synced start) (take i calls) call)) done

-- the next of the calls that a replay takes
pub record IsNext (written len end i : ℕ) (bytes : List ℕ) (calls : List StoredCall) (call : StoredCall) : Type 0 where
  pub here : is_within written len call ≡ true
  pub others : are_within written (length_after len call) end (drop (i + 1) calls) ≡ true
  pub room : length_after len call ≤ end
  pub one : take (i + 1) (calls_in bytes calls) ≡ take i (calls_in bytes calls) ++ call_in bytes call ∷ []

pub next : (written len end i n : ℕ) (bytes : List ℕ) (calls taken : List StoredCall) (d : StoredCall) → taken ≡ calls → i < length (take n taken) → are_within written len end (drop i calls) ≡ true → IsNext written len end i bytes calls (get_or (take n taken) i d)
next written len end i n bytes calls taken d is lt within =
    let short : i < length calls = let e = ap length is in let l = length-take n taken in omega (arith, lt, e, l) in
    let below : i < n = let l = length-take n taken in omega (arith, lt, l) in
    let call : get_or calls i d ≡ get_or (take n taken) i d = sym (get_or-take n taken i d below ∙ ap (λ (l : List StoredCall). get_or l i d) is) in
    let p = within-parts written len end (get_or calls i d) (drop (i + 1) calls) (subst (λ (l : List StoredCall). are_within written len end l ≡ true) (drop_more calls i d short) within) in
    subst (IsNext written len end i bytes calls) call (record {
      here = p.0;
      others = p.1;
      room = within-grows written (length_after len (get_or calls i d)) end (drop (i + 1) calls) p.1;
      one = take-map (call_in bytes) (i + 1) calls ∙ (ap (calls_in bytes) (take_more calls i d short) ∙ (map-append (call_in bytes) (take i calls) (get_or calls i d ∷ []) ∙ ap (λ (l : List DiskCall). l ++ call_in bytes (get_or calls i d) ∷ []) (sym (take-map (call_in bytes) i calls))));
    })
