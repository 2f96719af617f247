-- A disk that does the tasks of a staged disk.
use Rattle.std.proofs.Common.{◌≡◌, ◌⊎◌, inl, inr, ℕ, ◌≤◌, Bool, true, false, Result, Ok, Err, OnOk, List, [], ◌∷◌, ◌++◌, length, take, refl, sym, ◌∙◌, ap, subst, arith}
use Rattle.std.proofs.lemmas.List.{append_assoc, append-nil, length-append, take_at}
use Rattle.sled_disk.specs.CallersFile.{bytewise, held_after, writes_of}
use Rattle.sled_disk.specs.CallersFileLaws.{after-append}
use Rattle.sled_disk.specs.Disk.{LeavesNoMore}
use Rattle.sled_disk.specs.StagedReads.{AddsTask, IsThere, LeavesTask, LeavesWrite, SettlesTask, after_task}
use Rattle.sled_disk.specs.Journal.{DiskCall, Sync, Image, MayLeave, WasLeft, after_calls}
use Rattle.sled_disk.specs.Staged.{IsDoneOn, calls_of, holds, might_have_left, waiting}
use Rattle.sled_disk.specs.Tasks.{write_if}
use Rattle.sled_disk.specs.declared.disk.Disk as disk
use Rattle.sled_disk.specs.declared.disk.callers_file.CallersFile.{Ghosts}
use Rattle.sled_disk.specs.declared.disk.staged.StagedDisk.{StagedDisk}
use Rattle.sled_disk.specs.declared.disk.staged.tasks.Task.{Task}
use Rattle.sled_disk.specs.declared.disk.staged.tasks.Task.TheVariants as task
use Rattle.sled_disk.proofs.StagedDisks.TaskReports.{held-task}
use Rattle.sled_disk.proofs.Disks.TornBytes.{tears-writes}

pub on-ok : {T E : Type 0} (P : Type 0) (r : Result T E) → P → OnOk r P
on-ok P (Ok x) p = p
on-ok P (Err e) p = tt

-- what stands before more calls is one of the moments
before : (first : Image) (done more : List DiskCall) (since : ℕ) (left : List ℕ) → since ≤ length done → MayLeave (after_calls first done) left → WasLeft first (done ++ more) since left
before first done more since left le may = record {
  at = length done;
  from = le;
  to = omega (arith, length-append done more);
  may = subst (λ (l : List DiskCall). MayLeave (after_calls first l) left) (sym (take_at done more (length done) refl)) may;
}

-- what was done stays done, and more behind it
extends : (file : List ℕ) (task : Task) (buffer : List ℕ) (old new : List DiskCall) → AddsTask file task buffer old new → (more : List DiskCall) × (new ≡ old ++ more)
extends file (task.Write at len) buffer old new adds = (bytewise (write_if adds.again at (take len buffer) ∷ []), adds.done)
extends file task.Sync buffer old new adds = (Sync ∷ [], adds)

module _ (may was_may : List ℕ → Type 0) (first : Image) (old new : List DiskCall) (seen : List ℕ) (shows : seen ≡ held_after first old) (is : LeavesNoMore (MayLeave (after_calls first old)) was_may) where
  -- a write leaves what it leaves of the file, done or not
  wrote : (at : ℕ) (bytes : List ℕ) (again : Bool) → new ≡ old ++ bytewise (write_if again at bytes ∷ []) → (again ≡ true → IsThere at bytes (held_after first old)) → (again ≡ true → length bytes ≤ 1)
      → LeavesWrite at bytes seen was_may may → LeavesNoMore (MayLeave (after_calls first new)) may
  wrote at bytes true done there alone leaves left left_may =
      subst (λ (l : List DiskCall). MayLeave (after_calls first l) left) (sym (done ∙ append-nil old)) (is left (leaves.again (alone refl) (subst (IsThere at bytes) (sym shows) (there refl)) left left_may))
  wrote at bytes false done there alone leaves left left_may =
      let from = leaves.torn left left_may in
      subst (λ (l : List DiskCall). MayLeave (after_calls first l) left) (sym (done ∙ ap (λ (l : List DiskCall). old ++ l) (append-nil (writes_of at bytes))))
      (subst (λ (i : Image). MayLeave i left) (sym (after-append first old (writes_of at bytes))) (tears-writes (after_calls first old) at bytes from.0 left (is from.0 from.1) from.2))

  leaves-task : (task : Task) (buffer : List ℕ) → AddsTask (held_after first old) task buffer old new → LeavesTask task buffer seen was_may may
      → (left : List ℕ) → may left → MayLeave (after_calls first old) left ⊎ MayLeave (after_calls first new) left
  leaves-task (task.Write at len) buffer adds leaves left left_may = inr (wrote at (take len buffer) adds.again adds.done adds.there adds.alone leaves left left_may)
  leaves-task task.Sync buffer adds leaves left left_may = inl (is left (leaves left left_may))

  leaves-done : (task : Task) (buffer : List ℕ) → AddsTask (held_after first old) task buffer old new → LeavesTask task buffer seen was_may may → SettlesTask task seen may → LeavesNoMore (MayLeave (after_calls first new)) may
  leaves-done (task.Write at len) buffer adds leaves settles left left_may = wrote at (take len buffer) adds.again adds.done adds.there adds.alone leaves left left_may
  leaves-done task.Sync buffer adds leaves settles left left_may =
      subst (λ (l : List DiskCall). MayLeave (after_calls first l) left) (sym adds) (subst (λ (i : Image). MayLeave i left) (sym (after-append first old (Sync ∷ []))) (settles left left_may ∙ shows))

module _ {F D : Type 0} {g : Ghosts F} (d : disk.Ghosts D) (old : StagedDisk F g) (was now : D) (is : IsDoneOn d old was) where
  -- a moment of the staged disk, since those that were done
  since : (new : StagedDisk F g) (left : List ℕ) → g.first new.file ≡ g.first old.file → (more : List DiskCall) × (g.done new.file ≡ g.done old.file ++ more)
      → MayLeave (after_calls (g.first old.file) (g.done old.file)) left ⊎ MayLeave (after_calls (g.first old.file) (g.done new.file)) left → might_have_left new (length (g.done old.file)) left
  since new left same (more, adds) (inl may) =
      let done = g.done old.file in
      let calls : calls_of new ≡ done ++ (more ++ bytewise (waiting new)) = ap (λ (l : List DiskCall). l ++ bytewise (waiting new)) adds ∙ append_assoc done more (bytewise (waiting new)) in
      subst (λ (i : Image). WasLeft i (calls_of new) (length done) left) (sym same)
      (subst (λ (l : List DiskCall). WasLeft (g.first old.file) l (length done) left) (sym calls) (before (g.first old.file) done (more ++ bytewise (waiting new)) (length done) left (omega arith) may))
  since new left same (more, adds) (inr may) =
      let longer = ap length adds ∙ length-append (g.done old.file) more in
      subst (λ (i : Image). WasLeft i (calls_of new) (length (g.done old.file)) left) (sym same)
      (before (g.first old.file) (g.done new.file) (bytewise (waiting new)) (length (g.done old.file)) left (omega (arith, longer)) may)

  -- nothing was handed out
  pub left-none : (new : StagedDisk F g) → g.first new.file ≡ g.first old.file → g.done new.file ≡ g.done old.file → LeavesNoMore (might_have_left new (length (g.done old.file))) (d.may_leave was)
  left-none new same none left may = since new left same ([], none ∙ sym (append-nil (g.done old.file))) (inl (is.may left may))

  module _ (new : StagedDisk F g) (same : g.first new.file ≡ g.first old.file) (task : Task) (buffer : List ℕ) (adds : AddsTask (holds old) task buffer (g.done old.file) (g.done new.file))
      (leaves : LeavesTask task buffer (d.seen was) (d.may_leave was) (d.may_leave now)) where
    pub left-task : LeavesNoMore (might_have_left new (length (g.done old.file))) (d.may_leave now)
    left-task left may =
        since new left same (extends (holds old) task buffer (g.done old.file) (g.done new.file) adds)
        (leaves-task (d.may_leave now) (d.may_leave was) (g.first old.file) (g.done old.file) (g.done new.file) (d.seen was) is.seen is.may task buffer adds leaves left may)

    pub done-task : d.seen now ≡ after_task (d.seen was) task buffer → SettlesTask task (d.seen was) (d.may_leave now) → IsDoneOn d new now
    done-task did settles = record {
      seen = did ∙ ap (λ (l : List ℕ). after_task l task buffer) is.seen ∙ sym (held-task (g.first old.file) (g.first new.file) (g.done old.file) (g.done new.file) task buffer same adds);
      may = λ left may. subst (λ (i : Image). MayLeave (after_calls i (g.done new.file)) left) (sym same)
          (leaves-done (d.may_leave now) (d.may_leave was) (g.first old.file) (g.done old.file) (g.done new.file) (d.seen was) is.seen is.may task buffer adds leaves settles left may);
    }
