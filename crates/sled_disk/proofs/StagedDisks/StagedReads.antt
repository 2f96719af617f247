-- What a staged disk reads: pieces that were handed in, and what the tasks that wait make of a file.
use Rattle.std.proofs.Common.{◌≡◌, ◌⊎◌, ℕ, ◌+◌, ◌≤◌, ◌<◌, Bool, true, false, nat_le, Option, Some, None, IfSome, ◌-◌, List, [], ◌∷◌, ◌++◌, length, take, drop, get_or, refl, sym, ◌∙◌, ap, ap₂, subst, ⊎_elim, inl, inr, arith}
use Rattle.std.specs.List.{All, AllByRecursion, Contains, filter}
use Rattle.std.proofs.lemmas.Bool.{or_cases, leb-true}
use Rattle.std.proofs.lemmas.List.{get_or-take, get_or-drop, append_assoc, take-append-drop, take-take, drop-take, take_at, drop_at, drop-drop, length-append, length-take-le}
use Rattle.std.proofs.lemmas.List.Elements.{Contains-get_or, All-contains}
use Rattle.sled_base.specs.Containing.{filter_contains}
use Rattle.sled_disk.specs.Disk.{Torn, overlaid}
use Rattle.sled_disk.specs.DiskLaws.{torn-overlaid, length-overlaid, overlaid-nothing, overlaid-then}
use Rattle.sled_disk.specs.Journal.{DiskCall, Write, Again, Sync}
use Rattle.sled_disk.specs.StagedReads.{StandsAt, is_outside, SameOutside, after_tasks, after_task, IsThere, AreWithin, LeavesBetween}
use Rattle.sled_disk.specs.Tasks.{write_if, IsPart, IsHandedOut}
use Rattle.sled_disk.specs.declared.disk.staged.tasks.Task.{Task}
use Rattle.sled_disk.specs.declared.disk.staged.tasks.Task.TheVariants as task
use Rattle.sled_disk.specs.declared.disk.staged.pieces.Piece.{Piece}

-- What has no bytes there stands as before where only those bytes have changed.
stands-outside : (from to : ℕ) (piece : Piece) (old new : List ℕ) → is_outside from to piece ≡ true → SameOutside from to old new → StandsAt piece.at piece.bytes.items old → StandsAt piece.at piece.bytes.items new
stands-outside from to piece old new outside same stands i less =
    stands i less ∙ sym (same (piece.at + i)
    (⊎_elim (λ after. inr (omega (arith, leb-true to piece.at after))) (λ before. inl (omega (arith, less, leb-true (piece.at + length piece.bytes.items) from before)))
    (or_cases (nat_le to piece.at) (nat_le (piece.at + length piece.bytes.items) from) outside)))

pub pieces-left : (from to : ℕ) (pieces left : List Piece) (old new : List ℕ) → left ≡ filter (is_outside from to) pieces → SameOutside from to old new
    → All (λ piece. StandsAt piece.at piece.bytes.items old) pieces → All (λ piece. StandsAt piece.at piece.bytes.items new) left
pieces-left from to pieces left old new is same stand k d less =
    let piece = get_or left k d in
    let kept = filter_contains (is_outside from to) pieces piece (subst (λ (l : List Piece). Contains l piece) is (Contains-get_or left k d less)) in
    stands-outside from to piece old new kept.1 same (All-contains (λ (p : Piece). StandsAt p.at p.bytes.items old) pieces piece stand kept.0)

-- A write changes the bytes that it writes over, and no others.
same-torn : (at n : ℕ) (old new : List ℕ) → Torn at n old new → SameOutside at (at + n) old new
same-torn at n old new torn i (inl before) =
    sym (get_or-take at new i 0 before) ∙ ap (λ (l : List ℕ). get_or l i 0) torn.before ∙ get_or-take at old i 0 before
same-torn at n old new torn i (inr after) =
    let past : at + n + (i - (at + n)) ≡ i = omega (arith, after) in
    ap (λ k. get_or new k 0) (sym past) ∙ sym (get_or-drop (at + n) new (i - (at + n)) 0) ∙ ap (λ (l : List ℕ). get_or l (i - (at + n)) 0) torn.after
    ∙ get_or-drop (at + n) old (i - (at + n)) 0 ∙ ap (λ k. get_or old k 0) past

pub same-overlaid : (file : List ℕ) (at : ℕ) (bytes : List ℕ) → at ≤ length file → SameOutside at (at + length bytes) file (overlaid file at bytes)
same-overlaid file at bytes le = same-torn at (length bytes) file (overlaid file at bytes) (torn-overlaid file at bytes le)

-- What no task changes is the same behind all of them.
same-after : (from to : ℕ) (calls : List DiskCall) (file : List ℕ) → AreWithin file calls → AllByRecursion (LeavesBetween from to) calls
    → (i : ℕ) → from ≤ i → i < to → get_or (after_tasks file calls) i 0 ≡ get_or file i 0
same-after from to [] file within leaves i begins ends = refl
same-after from to (Write at bytes ∷ later) file within leaves i begins ends =
    same-after from to later (overlaid file at bytes) within.1 leaves.1 i begins ends
    ∙ same-overlaid file at bytes within.0 i (⊎_elim (λ before. inr (omega (arith, before, begins))) (λ after. inl (omega (arith, after, ends))) leaves.0)
same-after from to (Again at bytes ∷ later) file within leaves i begins ends = same-after from to later file within.1 leaves.1 i begins ends
same-after from to (Sync ∷ later) file within leaves i begins ends = same-after from to later file within leaves.1 i begins ends

-- So bytes of the file that no task changes stand where they stood.
pub stands-after : (at : ℕ) (bytes : List ℕ) (calls : List DiskCall) (file : List ℕ) → AreWithin file calls → AllByRecursion (LeavesBetween at (at + length bytes)) calls
    → StandsAt at bytes file → StandsAt at bytes (after_tasks file calls)
stands-after at bytes calls file within leaves stands i less =
    stands i less ∙ sym (same-after at (at + length bytes) calls file within leaves (at + i) (omega arith) (omega (arith, less)))

after-write : (file : List ℕ) (calls : List DiskCall) (at : ℕ) (bytes : List ℕ) → after_tasks file (calls ++ Write at bytes ∷ []) ≡ overlaid (after_tasks file calls) at bytes
after-write file [] at bytes = refl
after-write file (Write place more ∷ later) at bytes = after-write (overlaid file place more) later at bytes
after-write file (Again place more ∷ later) at bytes = after-write file later at bytes
after-write file (Sync ∷ later) at bytes = after-write file later at bytes

after-sync : (file : List ℕ) (calls : List DiskCall) → after_tasks file (calls ++ Sync ∷ []) ≡ after_tasks file calls
after-sync file [] = refl
after-sync file (Write place more ∷ later) = after-sync (overlaid file place more) later
after-sync file (Again place more ∷ later) = after-sync file later
after-sync file (Sync ∷ later) = after-sync file later

-- What a read is to give, behind a write, if it has bytes, and behind a sync, if one is due.
pub seen-write : (file : List ℕ) (old new : List DiskCall) (at : ℕ) (bytes : List ℕ) → (0 < length bytes → new ≡ old ++ Write at bytes ∷ []) → (length bytes ≡ 0 → new ≡ old)
    → after_tasks file new ≡ overlaid (after_tasks file old) at bytes
seen-write file old new at [] some none = ap (after_tasks file) (none refl) ∙ sym (overlaid-nothing (after_tasks file old) at)
seen-write file old new at (byte ∷ bytes) some none = ap (after_tasks file) (some (omega arith)) ∙ after-write file old at (byte ∷ bytes)

pub seen-sync : (file : List ℕ) (old new : List DiskCall) (is_synced : Bool) → (is_synced ≡ false → new ≡ old ++ Sync ∷ []) → (is_synced ≡ true → new ≡ old) → after_tasks file new ≡ after_tasks file old
seen-sync file old new true due none = ap (after_tasks file) (none refl)
seen-sync file old new false due none = ap (after_tasks file) (due refl) ∙ after-sync file old

-- ---- writes that begin within the file

within-write : (file : List ℕ) (calls : List DiskCall) (at : ℕ) (bytes : List ℕ) → AreWithin file calls → at ≤ length (after_tasks file calls) → AreWithin file (calls ++ Write at bytes ∷ [])
within-write file [] at bytes within le = (le, tt)
within-write file (Write place more ∷ later) at bytes within le = (within.0, within-write (overlaid file place more) later at bytes within.1 le)
within-write file (Again place more ∷ later) at bytes within le = (within.0, within-write file later at bytes within.1 le)
within-write file (Sync ∷ later) at bytes within le = within-write file later at bytes within le

within-sync : (file : List ℕ) (calls : List DiskCall) → AreWithin file calls → AreWithin file (calls ++ Sync ∷ [])
within-sync file [] within = tt
within-sync file (Write place more ∷ later) within = (within.0, within-sync (overlaid file place more) later within.1)
within-sync file (Again place more ∷ later) within = (within.0, within-sync file later within.1)
within-sync file (Sync ∷ later) within = within-sync file later within

pub still-write : (file : List ℕ) (old new : List DiskCall) (at : ℕ) (bytes : List ℕ) → (0 < length bytes → new ≡ old ++ Write at bytes ∷ []) → (length bytes ≡ 0 → new ≡ old)
    → AreWithin file old → at ≤ length (after_tasks file old) → AreWithin file new
still-write file old new at [] some none within le = subst (AreWithin file) (sym (none refl)) within
still-write file old new at (byte ∷ bytes) some none within le = subst (AreWithin file) (sym (some (omega arith))) (within-write file old at (byte ∷ bytes) within le)

pub still-sync : (file : List ℕ) (old new : List DiskCall) (is_synced : Bool) → (is_synced ≡ false → new ≡ old ++ Sync ∷ []) → (is_synced ≡ true → new ≡ old) → AreWithin file old → AreWithin file new
still-sync file old new true due none within = subst (AreWithin file) (sym (none refl)) within
still-sync file old new false due none within = subst (AreWithin file) (sym (due refl)) (within-sync file old within)

-- ---- bytes that are there

-- writing them again changes nothing
pub overlaid-there : (file : List ℕ) (at : ℕ) (bytes : List ℕ) → IsThere at bytes file → overlaid file at bytes ≡ file
overlaid-there file at bytes there =
    let n = length bytes in
    let rest : drop (at + n) file ≡ drop n (drop at file) = sym (drop-drop n at file) in
    append_assoc (take at file) bytes (drop (at + n) file)
    ∙ ap₂ (λ (l m : List ℕ). take at file ++ (l ++ m)) (sym there) rest
    ∙ ap (λ (l : List ℕ). take at file ++ l) (take-append-drop n (drop at file))
    ∙ take-append-drop at file

-- both parts of them are
pub there-parts : (file : List ℕ) (at len : ℕ) (front rest : List ℕ) → length front ≡ len → IsThere at (front ++ rest) file → IsThere at front file × IsThere (at + len) rest file
there-parts file at len front rest is there =
    let behind = drop at file in
    let both : take (len + length rest) behind ≡ front ++ rest = ap (λ n. take n behind) (sym (length-append front rest ∙ ap (λ n. n + length rest) is)) ∙ there in
    let within : len ≤ len + length rest = omega arith in (
      ap (λ n. take n behind) is ∙ sym (take-take len (len + length rest) behind within) ∙ ap (λ (l : List ℕ). take len l) both ∙ take_at front rest len is,
      ap (λ (l : List ℕ). take (length rest) l) (sym (drop-drop len at file)) ∙ sym (drop-take len (length rest) behind) ∙ ap (λ (l : List ℕ). drop len l) both ∙ drop_at front rest len is,
    )

within-again : (file : List ℕ) (calls : List DiskCall) (at : ℕ) (bytes : List ℕ) → AreWithin file calls → IsThere at bytes (after_tasks file calls) → AreWithin file (calls ++ Again at bytes ∷ [])
within-again file [] at bytes within there = (there, tt)
within-again file (Write place more ∷ later) at bytes within there = (within.0, within-again (overlaid file place more) later at bytes within.1 there)
within-again file (Again place more ∷ later) at bytes within there = (within.0, within-again file later at bytes within.1 there)
within-again file (Sync ∷ later) at bytes within there = within-again file later at bytes within there

after-again : (file : List ℕ) (calls : List DiskCall) (at : ℕ) (bytes : List ℕ) → after_tasks file (calls ++ Again at bytes ∷ []) ≡ after_tasks file calls
after-again file [] at bytes = refl
after-again file (Write place more ∷ later) at bytes = after-again (overlaid file place more) later at bytes
after-again file (Again place more ∷ later) at bytes = after-again file later at bytes
after-again file (Sync ∷ later) at bytes = after-again file later at bytes

pub seen-again : (file : List ℕ) (old new : List DiskCall) (at : ℕ) (bytes : List ℕ) → new ≡ old ++ Again at bytes ∷ [] → after_tasks file new ≡ after_tasks file old
seen-again file old new at bytes is = ap (after_tasks file) is ∙ after-again file old at bytes

pub still-again : (file : List ℕ) (old new : List DiskCall) (at : ℕ) (bytes : List ℕ) → new ≡ old ++ Again at bytes ∷ [] → AreWithin file old → IsThere at bytes (after_tasks file old) → AreWithin file new
still-again file old new at bytes is within there = subst (AreWithin file) (sym is) (within-again file old at bytes within there)

-- ---- a task that was handed out

-- What a read is to give stays, and what waits is within the file.
seen-written : (file buffer : List ℕ) (at len : ℕ) (again : Bool) (old new : List DiskCall) → len ≤ length buffer → (old ≡ write_if again at (take len buffer) ∷ new) ⊎ IsPart again at len buffer old new → AreWithin file old
    → (after_tasks (overlaid file at (take len buffer)) new ≡ after_tasks file old) × AreWithin (overlaid file at (take len buffer)) new
seen-written file buffer at len false old new le (inl is) within =
    let w = subst (AreWithin file) is within in
    (sym (ap (after_tasks file) is), w.1)
seen-written file buffer at len true old new le (inl is) within =
    let w = subst (AreWithin file) is within in
    let same = overlaid-there file at (take len buffer) w.0 in
    (ap (λ (l : List ℕ). after_tasks l new) same ∙ sym (ap (after_tasks file) is), subst (λ (l : List ℕ). AreWithin l new) (sym same) w.1)
seen-written file buffer at len false old new le (inr part) within =
    let w = subst (AreWithin file) part.whole within in
    let front = take len buffer in
    let size : length front ≡ len = length-take-le len buffer le in
    let joins : overlaid (overlaid file at front) (at + len) part.rest ≡ overlaid file at (front ++ part.rest) = subst (λ n. overlaid (overlaid file at front) (at + n) part.rest ≡ overlaid file at (front ++ part.rest)) size (overlaid-then file at front part.rest w.0) in
    let ends : at + len ≤ length (overlaid file at front) = omega (arith, size, length-overlaid file at front w.0) in (
      ap (after_tasks (overlaid file at front)) part.left ∙ ap (λ (l : List ℕ). after_tasks l part.later) joins ∙ sym (ap (after_tasks file) part.whole),
      subst (AreWithin (overlaid file at front)) (sym part.left) (ends, subst (λ (l : List ℕ). AreWithin l part.later) (sym joins) w.1),
    )
seen-written file buffer at len true old new le (inr part) within =
    let w = subst (AreWithin file) part.whole within in
    let front = take len buffer in
    let parts = there-parts file at len front part.rest (length-take-le len buffer le) w.0 in
    let same = overlaid-there file at front parts.0 in (
      ap (after_tasks (overlaid file at front)) part.left ∙ ap (λ (l : List ℕ). after_tasks l part.later) same ∙ sym (ap (after_tasks file) part.whole),
      subst (AreWithin (overlaid file at front)) (sym part.left) (subst (λ (l : List ℕ). IsThere (at + len) part.rest l × AreWithin l part.later) (sym same) (parts.1, w.1)),
    )

seen-handed_out : (file buffer : List ℕ) (task : Task) (old new : List DiskCall) → IsHandedOut task buffer old new → AreWithin file old
    → (after_tasks (after_task file task buffer) new ≡ after_tasks file old) × AreWithin (after_task file task buffer) new
seen-handed_out file buffer task.Sync old new is within =
    (sym (ap (after_tasks file) is), subst (AreWithin file) is within)
seen-handed_out file buffer (task.Write at len) old new is within = seen-written file buffer at len is.again old new is.fits is.out within

pub seen-next : (file buffer : List ℕ) (answer : Option Task) (old new : List DiskCall) → IfSome answer (λ task. IsHandedOut task buffer old new) → AreWithin file old
    → IfSome answer (λ task. after_tasks (after_task file task buffer) new ≡ after_tasks file old)
seen-next file buffer (Some task) old new is within = (seen-handed_out file buffer task old new is within).0
seen-next file buffer None old new is within = is

pub still-next : (file buffer : List ℕ) (answer : Option Task) (old new : List DiskCall) → IfSome answer (λ task. IsHandedOut task buffer old new) → AreWithin file old
    → IfSome answer (λ task. AreWithin (after_task file task buffer) new)
still-next file buffer (Some task) old new is within = (seen-handed_out file buffer task old new is within).1
still-next file buffer None old new is within = is
