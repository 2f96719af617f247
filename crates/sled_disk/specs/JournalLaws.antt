-- Laws of the journal of a disk in memory.
use Rattle.std.specs.Prelude.{◌≡◌, ℕ, ◌+◌, ◌-◌, ◌≤◌, max, true, nat_le, List, [], ◌∷◌, length, take, drop}
use Rattle.std.proofs.Common.{subst, sym, refl, arith}
use Rattle.std.proofs.lemmas.Bool.{and_parts, leb-true}
use Rattle.std.proofs.lemmas.List.{take_all, length-take, length-drop}
use Rattle.sled_disk.specs.declared.disk.journal.Call.{Call as StoredCall}
use Rattle.sled_disk.specs.declared.disk.journal.Call.TheVariants as stored
use Rattle.sled_disk.specs.Journal.{DiskCall, Write, Image, calls_in, is_within, length_after, are_within, all_synced, after_call, after_calls, MayLeave, WasLeft}
use Rattle.sled_disk.specs.DiskLaws.{length-overlaid, torn-overlaid}

-- the crash states of the current moment are among those since it
pub left_by_now : (first : Image) (calls : List DiskCall) (left : List ℕ) → MayLeave (after_calls first calls) left → WasLeft first calls (length calls) left
left_by_now first calls left may = record {
  at = length calls;
  from = omega arith;
  to = omega arith;
  may = subst (λ (l : List DiskCall). MayLeave (after_calls first l) left) (sym (take_all (length calls) calls (omega arith))) may;
}

-- and there are no others
pub only_by_now : (first : Image) (calls : List DiskCall) (left : List ℕ) → WasLeft first calls (length calls) left → MayLeave (after_calls first calls) left
only_by_now first calls left was =
    let from = was.from in
    subst (λ (l : List DiskCall). MayLeave (after_calls first l) left) (take_all was.at calls (omega (arith, from))) was.may

-- what was left since a moment was left since an earlier one
pub left_earlier : (first : Image) (calls : List DiskCall) (t u : ℕ) (left : List ℕ) → t ≤ u → WasLeft first calls u left → WasLeft first calls t left
left_earlier first calls t u left le was = let from = was.from in record { at = was.at; from = omega (arith, le, from); to = was.to; may = was.may }

-- ---- how calls are stored

pub within-parts : (written len end : ℕ) (call : StoredCall) (calls : List StoredCall) → are_within written len end (call ∷ calls) ≡ true → (is_within written len call ≡ true) × (are_within written (length_after len call) end calls ≡ true)
within-parts written len end call calls h = and_parts (is_within written len call) _ h

pub write-parts : (written len at from to : ℕ) → is_within written len (stored.Write at from to) ≡ true → (at ≤ len) × (from ≤ to) × (to ≤ written)
write-parts written len at from to h =
    let a = and_parts (nat_le at len) _ h in
    let b = and_parts (nat_le from to) _ a.1 in
    (leb-true at len a.0, leb-true from to b.0, leb-true to written b.1)

-- ---- what a read returns

-- what was written is one of the ways in which it may be torn
seen-after : (written : List ℕ) (len end : ℕ) (calls : List StoredCall) (image : Image) → are_within (length written) len end calls ≡ true → length image.seen ≡ len → MayLeave image image.seen
    → MayLeave (after_calls image (calls_in written calls)) (after_calls image (calls_in written calls)).seen
seen-after written len end [] image h long may = may
seen-after written len end (stored.Write at from to ∷ calls) image h long may =
    let bytes = take (to - from) (drop from written) in
    let p = within-parts (length written) len end (stored.Write at from to) calls h in
    let w = write-parts (length written) len at from to p.0 in
    let below = w.0 in
    let ordered = w.1 in
    let within = w.2 in
    let le : at ≤ length image.seen = omega (arith, below, long) in
    let n : length bytes ≡ to - from = omega (arith, length-take (to - from) (drop from written), length-drop from written, ordered, within) in
    seen-after written (max len (at + (to - from))) end calls (after_call image (Write at bytes)) p.1 (omega (arith, length-overlaid image.seen at bytes le, long, n)) (image.seen, may, torn-overlaid image.seen at bytes le)
seen-after written len end (stored.Sync ∷ calls) image h long may =
    seen-after written len end calls (all_synced image.seen) (within-parts (length written) len end stored.Sync calls h).1 long refl

pub seen_left : (start written bytes : List ℕ) (end : ℕ) (calls : List StoredCall) → are_within (length written) (length start) end calls ≡ true → bytes ≡ (after_calls (all_synced start) (calls_in written calls)).seen → MayLeave (after_calls (all_synced start) (calls_in written calls)) bytes
seen_left start written bytes end calls h is = subst (MayLeave (after_calls (all_synced start) (calls_in written calls))) (sym is) (seen-after written (length start) end calls (all_synced start) h refl refl)
