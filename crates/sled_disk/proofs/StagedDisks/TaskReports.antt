-- What a caller's file is told of the tasks that it is handed, and the moments of a disk over it.
use Rattle.std.proofs.Common.{◌≡◌, ◌⊎◌, inl, inr, ℕ, ◌+◌, ◌-◌, ◌≤◌, drop, Option, Some, None, IfSome, Bool, true, false, List, [], ◌∷◌, ◌++◌, length, take, refl, sym, ◌∙◌, ap, ap₂, subst, arith}
use Rattle.std.proofs.Math.Seq.{take-add}
use Rattle.std.proofs.lemmas.Bool.{false≢true}
use Rattle.std.proofs.lemmas.List.{append_assoc, append-nil, length-drop, length-take-le}
use Rattle.std.proofs.lemmas.List.Sums.{sum_by-cons}
use Rattle.sled_disk.specs.CallersFile.{writes_of, bytewise, held_after}
use Rattle.sled_disk.specs.CallersFileLaws.{after-append, seen-writes, torn-writes, keeps-writes}
use Rattle.sled_disk.specs.Disk.{overlaid, Torn, Follows}
use Rattle.sled_disk.specs.StagedReads.{AddsTask, AreWithin, IsThere, after_task}
use Rattle.sled_disk.specs.Journal.{DiskCall, Write, Again, Sync, Image, after_calls, MayLeave, WasLeft}
use Rattle.sled_disk.specs.Tasks.{sync_if, write_if, writes_in, IsPart}
use Rattle.sled_disk.specs.declared.disk.staged.tasks.Task.{Task}
use Rattle.sled_disk.specs.declared.disk.staged.tasks.Task.TheVariants as task
use Rattle.sled_disk.specs.declared.disk.staged.tasks.WaitingWrite.{WaitingWrite}
use Rattle.sled_disk.proofs.Disks.JournalMoments.{left-push, kept-push}
use Rattle.sled_disk.proofs.StagedDisks.StagedReads.{overlaid-there, there-parts}
use Rattle.sled_disk.proofs.StagedDisks.StagedTasks.{len_of}

-- ---- tasks byte by byte

pub bytewise-append : (xs ys : List DiskCall) → bytewise (xs ++ ys) ≡ bytewise xs ++ bytewise ys
bytewise-append [] ys = refl
bytewise-append (Write at bytes ∷ xs) ys = ap (λ (l : List DiskCall). writes_of at bytes ++ l) (bytewise-append xs ys) ∙ sym (append_assoc (writes_of at bytes) (bytewise xs) (bytewise ys))
bytewise-append (Again at bytes ∷ xs) ys = bytewise-append xs ys
bytewise-append (Sync ∷ xs) ys = ap (λ (l : List DiskCall). Sync ∷ l) (bytewise-append xs ys)

-- a write in two parts is the whole of it
writes-split : (at : ℕ) (front rest : List ℕ) → writes_of at (front ++ rest) ≡ writes_of at front ++ writes_of (at + length front) rest
writes-split at [] rest = ap (λ n. writes_of n rest) (omega arith)
writes-split at (byte ∷ front) rest =
    ap (λ (l : List DiskCall). Write at (byte ∷ []) ∷ l) (writes-split (at + 1) front rest ∙ ap (λ n. writes_of (at + 1) front ++ writes_of n rest) (omega arith))

-- ---- a task that was handed out

-- What it has done and what waits then are the same together.
pub told-same : (done told : List DiskCall) (buffer : List ℕ) (at len : ℕ) (again : Bool) (old new : List DiskCall) → len ≤ length buffer → (old ≡ write_if again at (take len buffer) ∷ new) ⊎ IsPart again at len buffer old new
    → told ≡ done ++ bytewise (write_if again at (take len buffer) ∷ []) → told ++ bytewise new ≡ done ++ bytewise old
told-same done told buffer at len false old new le (inl is) tells =
    let front = writes_of at (take len buffer) in
    ap (λ (l : List DiskCall). l ++ bytewise new) (tells ∙ ap (λ (l : List DiskCall). done ++ l) (append-nil front)) ∙ append_assoc done front (bytewise new) ∙ sym (ap (λ (l : List DiskCall). done ++ bytewise l) is)
told-same done told buffer at len true old new le (inl is) tells =
    ap (λ (l : List DiskCall). l ++ bytewise new) (tells ∙ append-nil done) ∙ sym (ap (λ (l : List DiskCall). done ++ bytewise l) is)
told-same done told buffer at len false old new le (inr part) tells =
    let front = writes_of at (take len buffer) in
    let rest = writes_of (at + len) part.rest in
    let later = bytewise part.later in
    let size : length (take len buffer) ≡ len = length-take-le len buffer le in
    let joins : front ++ rest ≡ writes_of at (take len buffer ++ part.rest) = sym (writes-split at (take len buffer) part.rest ∙ ap (λ n. front ++ writes_of (at + n) part.rest) size) in
    ap₂ (λ (l m : List DiskCall). l ++ bytewise m) (tells ∙ ap (λ (l : List DiskCall). done ++ l) (append-nil front)) part.left
    ∙ append_assoc done front (rest ++ later) ∙ ap (λ (l : List DiskCall). done ++ l) (sym (append_assoc front rest later) ∙ ap (λ (l : List DiskCall). l ++ later) joins)
    ∙ sym (ap (λ (l : List DiskCall). done ++ bytewise l) part.whole)
told-same done told buffer at len true old new le (inr part) tells =
    ap₂ (λ (l m : List DiskCall). l ++ bytewise m) (tells ∙ append-nil done) part.left ∙ sym (ap (λ (l : List DiskCall). done ++ bytewise l) part.whole)

-- The file holds then what it was handed to write.
held-written : (first : Image) (done told : List DiskCall) (at : ℕ) (bytes : List ℕ) (again : Bool) → (again ≡ false → at ≤ length (held_after first done)) → (again ≡ true → IsThere at bytes (held_after first done))
    → told ≡ done ++ bytewise (write_if again at bytes ∷ []) → held_after first told ≡ overlaid (held_after first done) at bytes
held-written first done told at bytes false le there tells =
    ap (held_after first) (tells ∙ ap (λ (l : List DiskCall). done ++ l) (append-nil (writes_of at bytes)))
    ∙ ap (λ (i : Image). i.seen) (after-append first done (writes_of at bytes)) ∙ seen-writes (after_calls first done) at bytes (le refl)
held-written first done told at bytes true le there tells =
    ap (held_after first) (tells ∙ append-nil done) ∙ sym (overlaid-there (held_after first done) at bytes (there refl))

-- A write that is the first of the tasks begins within the file, or its bytes are there; and so do the first of its bytes.
fits-one : (held : List ℕ) (again : Bool) (at : ℕ) (bytes : List ℕ) (later : List DiskCall) → AreWithin held (write_if again at bytes ∷ later) → (again ≡ false → at ≤ length held) × (again ≡ true → IsThere at bytes held)
fits-one held false at bytes later within = (λ is. within.0, λ is. absurd (false≢true is))
fits-one held true at bytes later within = (λ is. absurd (false≢true (sym is)), λ is. within.0)

pub record Fits (held : List ℕ) (write : WaitingWrite) (bytes : List ℕ) : Type 0 where
  pub begins : write.again ≡ false → write.at ≤ length held
  pub there : write.again ≡ true → IsThere write.at bytes held

pub first-fits : (held : List ℕ) (writes : List WaitingWrite) (first : WaitingWrite) (later : List WaitingWrite) (all : List ℕ) (out len : ℕ) (last : Bool) (bytes : List ℕ) → writes ≡ first ∷ later → first.sync_before ≡ false
    → out + len_of writes ≡ length all → len ≤ first.len → bytes ≡ take len (drop out all) → AreWithin held (writes_in writes (drop out all) ++ sync_if last) → Fits held first bytes
first-fits held writes first later all out len last bytes was none whole le is within =
    let waiting = drop out all in
    let sum : out + (first.len + len_of later) ≡ length all = ap (λ n. out + n) (sym (sum_by-cons (λ (w : WaitingWrite). w.len) first later) ∙ sym (ap len_of was)) ∙ whole in
    let has : len ≤ length waiting = omega (arith, sum, le, length-drop out all) in
    let rest = take (first.len - len) (drop len waiting) in
    let adds : len + (first.len - len) ≡ first.len = omega (arith, le) in
    let parts : take first.len waiting ≡ take len waiting ++ rest = ap (λ n. take n waiting) (sym adds) ∙ take-add len (first.len - len) waiting in
    let here = subst (λ (w : List WaitingWrite). AreWithin held (writes_in w waiting ++ sync_if last)) was within in
    let fits = fits-one held first.again first.at (take first.len waiting) (writes_in later (drop first.len waiting) ++ sync_if last)
    (subst (λ (b : Bool). AreWithin held ((sync_if b ++ write_if first.again first.at (take first.len waiting) ∷ writes_in later (drop first.len waiting)) ++ sync_if last)) none here) in
    record {
      begins = fits.0;
      there = λ again. subst (λ (l : List ℕ). IsThere first.at l held) (sym is) (there-parts held first.at len (take len waiting) rest (length-take-le len waiting has) (subst (λ (l : List ℕ). IsThere first.at l held) parts (fits.1 again))).0;
    }

-- The file holds then what it was handed to write.
pub held-task : (first now : Image) (done told : List DiskCall) (task : Task) (buffer : List ℕ) → now ≡ first → AddsTask (held_after first done) task buffer done told → held_after now told ≡ after_task (held_after first done) task buffer
held-task first now done told (task.Write at len) buffer same adds =
    ap (λ (i : Image). held_after i told) same ∙ held-written first done told at (take len buffer) adds.again adds.begins adds.there adds.done
held-task first now done told task.Sync buffer same adds = ap (λ (i : Image). held_after i told) same ∙ ap (held_after first) adds ∙ ap (λ (i : Image). i.seen) (after-append first done (Sync ∷ []))

pub held-next : (first now : Image) (done told : List DiskCall) (answer : Option Task) (buffer : List ℕ) → now ≡ first → IfSome answer (λ task. AddsTask (held_after first done) task buffer done told)
    → IfSome answer (λ task. held_after now told ≡ after_task (held_after first done) task buffer)
held-next first now done told (Some task) buffer same adds = held-task first now done told task buffer same adds
held-next first now done told None buffer same adds = adds

-- ---- moments

module _ (first : Image) where
  pub kept-writes : (calls : List DiskCall) (at : ℕ) (bytes : List ℕ) (t : ℕ) (left : List ℕ) → WasLeft first calls t left → WasLeft first (calls ++ writes_of at bytes) t left
  kept-writes calls at [] t left was = subst (λ (l : List DiskCall). WasLeft first l t left) (sym (append-nil calls)) was
  kept-writes calls at (byte ∷ bytes) t left was =
      subst (λ (l : List DiskCall). WasLeft first l t left) (append_assoc calls (Write at (byte ∷ []) ∷ []) (writes_of (at + 1) bytes))
      (kept-writes (calls ++ Write at (byte ∷ []) ∷ []) (at + 1) bytes t left (kept-push first calls (Write at (byte ∷ [])) t left was))

  -- the last of these moments may leave all that the others may
  pub left-writes : (calls : List DiskCall) (at : ℕ) (bytes : List ℕ) (t : ℕ) (left : List ℕ) → WasLeft first (calls ++ writes_of at bytes) t left
      → WasLeft first calls t left ⊎ MayLeave (after_calls first (calls ++ writes_of at bytes)) left
  left-writes calls at [] t left was = inl (subst (λ (l : List DiskCall). WasLeft first l t left) (append-nil calls) was)
  left-writes calls at (byte ∷ bytes) t left was =
      let one = Write at (byte ∷ []) in
      let more = writes_of (at + 1) bytes in
      let joins : (calls ++ one ∷ []) ++ more ≡ calls ++ one ∷ more = append_assoc calls (one ∷ []) more in
      elim (left-writes (calls ++ one ∷ []) (at + 1) bytes t left (subst (λ (l : List DiskCall). WasLeft first l t left) (sym joins) was)) [
        | inl before ↦ elim (left-push first calls one t left before) [
          | inl earlier ↦ inl earlier
          | inr may ↦ inr (subst (λ (l : List DiskCall). MayLeave (after_calls first l) left) joins
              (subst (λ (i : Image). MayLeave i left) (sym (after-append first (calls ++ one ∷ []) more)) (keeps-writes (after_calls first (calls ++ one ∷ [])) (at + 1) bytes left may)))
        ]
        | inr may ↦ inr (subst (λ (l : List DiskCall). MayLeave (after_calls first l) left) joins may)
      ]

  pub follows-writes : (calls : List DiskCall) (at : ℕ) (bytes : List ℕ) → Follows (Torn at (length bytes)) (MayLeave (after_calls first calls)) (MayLeave (after_calls first (calls ++ writes_of at bytes)))
  follows-writes calls at bytes left may = torn-writes (after_calls first calls) at bytes left (subst (λ (i : Image). MayLeave i left) (after-append first calls (writes_of at bytes)) may)
