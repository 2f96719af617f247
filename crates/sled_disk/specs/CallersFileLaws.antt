-- Laws about what the queued tasks make of a caller's file.
use Rattle.std.proofs.Common.{◌≡◌, ℕ, ◌+◌, ◌-◌, ◌≤◌, max, Bool, true, false, List, [], ◌∷◌, ◌++◌, length, take, drop, refl, sym, ◌∙◌, ap, subst, arith, append_assoc}
use Rattle.std.proofs.lemmas.List.{length-drop, length-take}
use Rattle.sled_disk.specs.CallersFile.{writes_of, bytewise, held_after}
use Rattle.sled_disk.specs.Disk.{Torn, Follows, overlaid}
use Rattle.sled_disk.specs.DiskLaws.{overlaid-nothing, overlaid-then, length-overlaid, torn-overlaid, torn-same, torn-then, torn-wider}
use Rattle.sled_disk.specs.StagedReads.{after_tasks, AreWithin}
use Rattle.sled_disk.specs.DiskMemory.{bytes_of, calls_of}
use Rattle.sled_disk.specs.Journal.{DiskCall, Write, Again, Sync, Image, all_synced, after_call, after_calls, are_within, calls_in, MayLeave}
use Rattle.sled_disk.specs.JournalLaws.{within-parts, write-parts}
use Rattle.sled_disk.specs.OverlayLaws.{AreBytes, bytes-overlaid, bytes-take, bytes-drop}
use Rattle.sled_disk.specs.Tasks.{sync_if, write_if, writes_in}
use Rattle.sled_disk.specs.declared.disk.journal.Call.{Call as StoredCall}
use Rattle.sled_disk.specs.declared.disk.journal.Call.TheVariants as stored
use Rattle.sled_disk.specs.declared.disk.memory.MemDisk.{MemDisk}
use Rattle.sled_disk.specs.declared.disk.staged.tasks.WaitingWrite.{WaitingWrite}

pub after-append : (image : Image) (xs ys : List DiskCall) → after_calls image (xs ++ ys) ≡ after_calls (after_calls image xs) ys
after-append image [] ys = refl
after-append image (x ∷ xs) ys = after-append (after_call image x) xs ys

-- ---- a write byte by byte

-- a read returns what it returns after the whole write
pub seen-writes : (image : Image) (at : ℕ) (bytes : List ℕ) → at ≤ length image.seen → (after_calls image (writes_of at bytes)).seen ≡ overlaid image.seen at bytes
seen-writes image at [] le = sym (overlaid-nothing image.seen at)
seen-writes image at (byte ∷ bytes) le =
    let one = after_call image (Write at (byte ∷ [])) in
    let long = length-overlaid image.seen at (byte ∷ []) le in
    seen-writes one (at + 1) bytes (omega (arith, long)) ∙ overlaid-then image.seen at (byte ∷ []) bytes le

-- and a crash leaves what it may leave after the whole write
pub torn-writes : (image : Image) (at : ℕ) (bytes : List ℕ) → Follows (Torn at (length bytes)) (MayLeave image) (MayLeave (after_calls image (writes_of at bytes)))
torn-writes image at [] left may = (left, may, torn-same left at 0)
torn-writes image at (byte ∷ bytes) left may =
    let from = torn-writes (after_call image (Write at (byte ∷ []))) (at + 1) bytes left may in
    let was = from.1 in
    let n = length bytes in
    let first : Torn at (1 + n) was.0 from.0 = torn-wider was.0 from.0 at 1 n was.2 in
    (was.0, was.1, torn-then was.0 from.0 left at (length (byte ∷ bytes)) 1 (omega arith) (subst (λ k. Torn at k was.0 from.0) (omega arith) first) (subst (λ k. Torn (at + 1) k from.0 left) (omega arith) from.2))

-- no crash state from before is forgotten
pub keeps-writes : (image : Image) (at : ℕ) (bytes left : List ℕ) → MayLeave image left → MayLeave (after_calls image (writes_of at bytes)) left
keeps-writes image at [] left may = may
keeps-writes image at (byte ∷ bytes) left may = keeps-writes (after_call image (Write at (byte ∷ []))) (at + 1) bytes left (left, may, torn-same left at 1)

-- and what a read returns is a crash state, if it was one
leaves-writes : (image : Image) (at : ℕ) (bytes : List ℕ) → at ≤ length image.seen → MayLeave image image.seen → MayLeave (after_calls image (writes_of at bytes)) (after_calls image (writes_of at bytes)).seen
leaves-writes image at [] le may = may
leaves-writes image at (byte ∷ bytes) le may =
    let one = after_call image (Write at (byte ∷ [])) in
    let long = length-overlaid image.seen at (byte ∷ []) le in
    leaves-writes one (at + 1) bytes (omega (arith, long)) (image.seen, may, torn-overlaid image.seen at (byte ∷ []) le)

-- ---- all queued tasks

pub seen-bytewise : (image : Image) (calls : List DiskCall) → AreWithin image.seen calls → (after_calls image (bytewise calls)).seen ≡ after_tasks image.seen calls
seen-bytewise image [] within = refl
seen-bytewise image (Write at bytes ∷ later) within =
    let then = after_calls image (writes_of at bytes) in
    let is : then.seen ≡ overlaid image.seen at bytes = seen-writes image at bytes within.0 in
    ap (λ (i : Image). i.seen) (after-append image (writes_of at bytes) (bytewise later))
    ∙ seen-bytewise then later (subst (λ (l : List ℕ). AreWithin l later) (sym is) within.1)
    ∙ ap (λ (l : List ℕ). after_tasks l later) is
seen-bytewise image (Again at bytes ∷ later) within = seen-bytewise image later within.1
seen-bytewise image (Sync ∷ later) within = seen-bytewise (all_synced image.seen) later within

pub leaves-bytewise : (image : Image) (calls : List DiskCall) → AreWithin image.seen calls → MayLeave image image.seen → MayLeave (after_calls image (bytewise calls)) (after_calls image (bytewise calls)).seen
leaves-bytewise image [] within may = may
leaves-bytewise image (Write at bytes ∷ later) within may =
    let then = after_calls image (writes_of at bytes) in
    let is : then.seen ≡ overlaid image.seen at bytes = seen-writes image at bytes within.0 in
    subst (λ (i : Image). MayLeave i i.seen) (sym (after-append image (writes_of at bytes) (bytewise later)))
    (leaves-bytewise then later (subst (λ (l : List ℕ). AreWithin l later) (sym is) within.1) (leaves-writes image at bytes within.0 may))
leaves-bytewise image (Again at bytes ∷ later) within may = leaves-bytewise image later within.1 may
leaves-bytewise image (Sync ∷ later) within may = leaves-bytewise (all_synced image.seen) later within refl

-- what a read returns once all queued tasks are done is a crash state then
pub leaves-tasks : (first : Image) (done calls : List DiskCall) → AreWithin (after_calls first done).seen calls → MayLeave (after_calls first done) (after_calls first done).seen
    → MayLeave (after_calls first (done ++ bytewise calls)) (after_tasks (after_calls first done).seen calls)
leaves-tasks first done calls within may =
    let held = after_calls first done in
    subst (λ (i : Image). MayLeave i (after_tasks held.seen calls)) (sym (after-append first done (bytewise calls)))
    (subst (MayLeave (after_calls held (bytewise calls))) (seen-bytewise held calls within) (leaves-bytewise held calls within may))

-- ---- each byte is below 256

bytes-sync : (file : List ℕ) (waits : Bool) → AreBytes file → AreBytes (after_tasks file (sync_if waits))
bytes-sync file true are = are
bytes-sync file false are = are

-- a file after a write, or after one of bytes that are there already
abbrev pub behind : Bool → List ℕ → ℕ → List ℕ → List ℕ
behind false file at bytes = overlaid file at bytes
behind true file at bytes = file

after-one : (file : List ℕ) (sync again : Bool) (at : ℕ) (bytes : List ℕ) (later : List DiskCall) → after_tasks file (sync_if sync ++ write_if again at bytes ∷ later) ≡ after_tasks (behind again file at bytes) later
after-one file true true at bytes later = refl
after-one file true false at bytes later = refl
after-one file false true at bytes later = refl
after-one file false false at bytes later = refl

bytes-behind : (again : Bool) (file : List ℕ) (at : ℕ) (bytes : List ℕ) → AreBytes file → AreBytes bytes → AreBytes (behind again file at bytes)
bytes-behind true file at bytes are all = are
bytes-behind false file at bytes are all = bytes-overlaid file at bytes are all

bytes-writes : (file : List ℕ) (writes : List WaitingWrite) (bytes : List ℕ) (last : Bool) → AreBytes file → AreBytes bytes → AreBytes (after_tasks file (writes_in writes bytes ++ sync_if last))
bytes-writes file [] bytes last are all = bytes-sync file last are
bytes-writes file (first ∷ later) bytes last are all =
    let front = take first.len bytes in
    let rest = drop first.len bytes in
    let then = behind first.again file first.at front in
    let calls = writes_in later rest in
    let is = ap (after_tasks file) (append_assoc (sync_if first.sync_before) (write_if first.again first.at front ∷ calls) (sync_if last)) ∙ after-one file first.sync_before first.again first.at front (calls ++ sync_if last) in
    subst AreBytes (sym is) (bytes-writes then later rest last (bytes-behind first.again file first.at front are (bytes-take first.len bytes all)) (bytes-drop first.len bytes all))

pub bytes-tasks : (file : List ℕ) (writes : List WaitingWrite) (bytes : List ℕ) (out : ℕ) (last : Bool) → AreBytes file → AreBytes bytes → AreBytes (after_tasks file (writes_in writes (drop out bytes) ++ sync_if last))
bytes-tasks file writes bytes out last are all = bytes-writes file writes (drop out bytes) last are (bytes-drop out bytes all)

-- ---- the disk in memory

-- what a read returns does not depend on the number of parts of a write
seen-calls : (image : Image) (calls : List DiskCall) → (after_calls image calls).seen ≡ after_tasks image.seen calls
seen-calls image [] = refl
seen-calls image (Write at bytes ∷ later) = seen-calls (after_call image (Write at bytes)) later
seen-calls image (Again at bytes ∷ later) = seen-calls image later
seen-calls image (Sync ∷ later) = seen-calls (all_synced image.seen) later

within-calls : (written len end : ℕ) (bytes file : List ℕ) (calls : List StoredCall) → written ≡ length bytes → are_within written len end calls ≡ true → length file ≡ len → AreWithin file (calls_in bytes calls)
within-calls written len end bytes file [] same h long = tt
within-calls written len end bytes file (stored.Write at from to ∷ calls) same h long =
    let these = take (to - from) (drop from bytes) in
    let p = within-parts written len end (stored.Write at from to) calls h in
    let w = write-parts written len at from to p.0 in
    let below = w.0 in
    let ordered = w.1 in
    let within = w.2 in
    let le : at ≤ length file = omega (arith, below, long) in
    let n : length these ≡ to - from = omega (arith, length-take (to - from) (drop from bytes), length-drop from bytes, ordered, within, same) in
    (le, within-calls written (max len (at + (to - from))) end bytes (overlaid file at these) calls same p.1 (omega (arith, length-overlaid file at these le, long, n)))
within-calls written len end bytes file (stored.Sync ∷ calls) same h long = within-calls written len end bytes file calls same (within-parts written len end stored.Sync calls h).1 long

held-calls : (start written : List ℕ) (end : ℕ) (calls : List StoredCall) → are_within (length written) (length start) end calls ≡ true
    → (after_calls (all_synced start) (bytewise (calls_in written calls))).seen ≡ (after_calls (all_synced start) (calls_in written calls)).seen
held-calls start written end calls h =
    seen-bytewise (all_synced start) (calls_in written calls) (within-calls (length written) (length start) end written start calls refl h refl) ∙ sym (seen-calls (all_synced start) (calls_in written calls))

pub bytes-calls : (start written bytes : List ℕ) (end : ℕ) (calls : List StoredCall) → are_within (length written) (length start) end calls ≡ true → bytes ≡ (after_calls (all_synced start) (calls_in written calls)).seen → AreBytes bytes
    → AreBytes (after_calls (all_synced start) (bytewise (calls_in written calls))).seen
bytes-calls start written bytes end calls h is are = subst AreBytes (is ∙ sym (held-calls start written end calls h)) are

pub leaves-calls : (start written : List ℕ) (end : ℕ) (calls : List StoredCall) → are_within (length written) (length start) end calls ≡ true
    → MayLeave (after_calls (all_synced start) (bytewise (calls_in written calls))) (after_calls (all_synced start) (bytewise (calls_in written calls))).seen
leaves-calls start written end calls h = leaves-bytewise (all_synced start) (calls_in written calls) (within-calls (length written) (length start) end written start calls refl h refl) refl

-- What it holds as a caller's file is what a read of it returns.
pub holds-bytes : (disk : MemDisk) → held_after (all_synced disk.start.items) (bytewise (calls_of disk)) ≡ bytes_of disk
holds-bytes disk = held-calls disk.start.items disk.written.items (length disk.bytes.items) disk.calls.items disk.within ∙ sym disk.replayed
