-- The moments of a disk over its caller's file.
use Rattle.std.proofs.Common.{◌≡◌, ◌⊎◌, inl, inr, ℕ, ◌<◌, Bool, true, false, List, [], ◌∷◌, ◌++◌, length, refl, sym, ◌∙◌, ap, subst, arith}
use Rattle.std.proofs.lemmas.List.{append_assoc, append-nil, length-append}
use Rattle.sled_disk.specs.CallersFile.{IsSettled, bytewise, writes_of}
use Rattle.sled_disk.specs.CallersFileLaws.{after-append, leaves-tasks, seen-bytewise}
use Rattle.sled_disk.specs.Disk.{Elapses, Follows, LeavesNoMore, Only, Torn}
use Rattle.sled_disk.specs.StagedReads.{AreWithin}
use Rattle.sled_disk.specs.Journal.{DiskCall, Write, Again, Sync, Image, MayLeave, WasLeft, after_calls}
use Rattle.sled_disk.specs.Staged.{StaysTheSame, calls_of, clock_of, holds, image_of, may_leave_of, might_have_left, seen_of, waiting}
use Rattle.sled_disk.specs.declared.disk.callers_file.CallersFile.{Ghosts}
use Rattle.sled_disk.specs.declared.disk.staged.StagedDisk.{StagedDisk}
use Rattle.sled_disk.proofs.Disks.JournalMoments.{left-push, kept-push}
use Rattle.sled_disk.proofs.StagedDisks.TaskReports.{bytewise-append, follows-writes, kept-writes, left-writes}

-- ---- what is added to the calls

pub with-write : (done old new : List DiskCall) (at : ℕ) (bytes : List ℕ) → (0 < length bytes → new ≡ old ++ Write at bytes ∷ []) → (length bytes ≡ 0 → new ≡ old) → done ++ bytewise new ≡ (done ++ bytewise old) ++ writes_of at bytes
with-write done old new at [] some none = ap (λ (l : List DiskCall). done ++ bytewise l) (none refl) ∙ sym (append-nil (done ++ bytewise old))
with-write done old new at (byte ∷ bytes) some none =
    let all = writes_of at (byte ∷ bytes) in
    ap (λ (l : List DiskCall). done ++ bytewise l) (some (omega arith)) ∙ ap (λ (l : List DiskCall). done ++ l) (bytewise-append old (Write at (byte ∷ bytes) ∷ []) ∙ ap (λ (l : List DiskCall). bytewise old ++ l) (append-nil all))
    ∙ sym (append_assoc done (bytewise old) all)

pub with-again : (done old new : List DiskCall) (at : ℕ) (bytes : List ℕ) → new ≡ old ++ Again at bytes ∷ [] → done ++ bytewise new ≡ done ++ bytewise old
with-again done old new at bytes is = ap (λ (l : List DiskCall). done ++ bytewise l) is ∙ ap (λ (l : List DiskCall). done ++ l) (bytewise-append old (Again at bytes ∷ []) ∙ append-nil (bytewise old))

with-sync : (done old new : List DiskCall) → new ≡ old ++ Sync ∷ [] → done ++ bytewise new ≡ (done ++ bytewise old) ++ Sync ∷ []
with-sync done old new is = ap (λ (l : List DiskCall). done ++ bytewise l) is ∙ ap (λ (l : List DiskCall). done ++ l) (bytewise-append old (Sync ∷ [])) ∙ sym (append_assoc done (bytewise old) (Sync ∷ []))

-- What was settled stays so, and a sync settles all.
pub settled-sync : (first : Image) (done old new : List DiskCall) (was : Bool) → (was ≡ false → new ≡ old ++ Sync ∷ []) → (was ≡ true → new ≡ old) → (was ≡ true → IsSettled (after_calls first (done ++ bytewise old))) → IsSettled (after_calls first (done ++ bytewise new))
settled-sync first done old new false due none settled =
    subst IsSettled (sym (ap (after_calls first) (with-sync done old new (due refl)) ∙ after-append first (done ++ bytewise old) (Sync ∷ []))) (λ left is. is)
settled-sync first done old new true due none settled = subst (λ (l : List DiskCall). IsSettled (after_calls first (done ++ bytewise l))) (sym (none refl)) (settled refl)

-- what a write that was added leaves
pub follows-write : (first : Image) (done old new : List DiskCall) (at : ℕ) (bytes : List ℕ) → done ++ bytewise new ≡ (done ++ bytewise old) ++ writes_of at bytes
    → Follows (Torn at (length bytes)) (MayLeave (after_calls first (done ++ bytewise old))) (MayLeave (after_calls first (done ++ bytewise new)))
follows-write first done old new at bytes is left may = follows-writes first (done ++ bytewise old) at bytes left (subst (λ (l : List DiskCall). MayLeave (after_calls first l) left) is may)

module _ {F : Type 0} {g : Ghosts F} where
  -- ---- the old disk and the new one, with some calls more

  module _ (old new : StagedDisk F g) (more : List DiskCall) (same : g.first new.file ≡ g.first old.file) (is : calls_of new ≡ calls_of old ++ more) where
    moved : (P : Image → List DiskCall → Type 0) → P (g.first old.file) (calls_of old ++ more) → P (g.first new.file) (calls_of new)
    moved P p = subst (λ (i : Image). P i (calls_of new)) (sym same) (subst (λ (l : List DiskCall). P (g.first old.file) l) (sym is) p)

    back : (P : Image → List DiskCall → Type 0) → P (g.first new.file) (calls_of new) → P (g.first old.file) (calls_of old ++ more)
    back P p = subst (λ (l : List DiskCall). P (g.first old.file) l) is (subst (λ (i : Image). P i (calls_of new)) same p)

    elapses : ((t : ℕ) (left : List ℕ) → WasLeft (g.first old.file) (calls_of old ++ more) t left → WasLeft (g.first old.file) (calls_of old) t left ⊎ MayLeave (after_calls (g.first old.file) (calls_of old ++ more)) left)
        → ((t : ℕ) (left : List ℕ) → WasLeft (g.first old.file) (calls_of old) t left → WasLeft (g.first old.file) (calls_of old ++ more) t left) → Elapses clock_of might_have_left may_leave_of old new
    elapses nothing_else keeps = record {
      later = omega (arith, ap length is, length-append (calls_of old) more);
      nothing_else = λ t left le was. elim (nothing_else t left (back (λ i l. WasLeft i l t left) was)) [
        | inl earlier ↦ inl earlier
        | inr may ↦ inr (moved (λ i l. MayLeave (after_calls i l) left) may)
      ];
      keeps = λ t left le was. moved (λ i l. WasLeft i l t left) (keeps t left was);
    }

  pub elapses-write : (old new : StagedDisk F g) (at : ℕ) (bytes : List ℕ) → g.first new.file ≡ g.first old.file → calls_of new ≡ calls_of old ++ writes_of at bytes → Elapses clock_of might_have_left may_leave_of old new
  elapses-write old new at bytes same is =
      elapses old new (writes_of at bytes) same is (left-writes (g.first old.file) (calls_of old) at bytes) (kept-writes (g.first old.file) (calls_of old) at bytes)

  -- ---- the same calls

  pub stays : (old new : StagedDisk F g) → (g.tells → seen_of new ≡ seen_of old) → (g.tells → g.first new.file ≡ g.first old.file) → (g.tells → calls_of new ≡ calls_of old) → StaysTheSame old new
  stays old new seen same is =
      let into : g.tells → (t : ℕ) (left : List ℕ) → might_have_left old t left → might_have_left new t left =
      λ told t left was. subst (λ (i : Image). WasLeft i (calls_of new) t left) (sym (same told)) (subst (λ (l : List DiskCall). WasLeft (g.first old.file) l t left) (sym (is told)) was) in
      let out : g.tells → (t : ℕ) (left : List ℕ) → might_have_left new t left → might_have_left old t left =
      λ told t left was. subst (λ (l : List DiskCall). WasLeft (g.first old.file) l t left) (is told) (subst (λ (i : Image). WasLeft i (calls_of new) t left) (same told) was) in
      record {
        same = seen;
        may = λ told left may. subst (λ (l : List DiskCall). MayLeave (after_calls (g.first old.file) l) left) (is told) (subst (λ (i : Image). MayLeave (after_calls i (calls_of new)) left) (same told) may);
        later = λ told. let e = ap length (is told) in omega (arith, e);
        nothing_else = λ told t left le was. out told t left was;
        kept = λ told t left le was. into told t left was;
      }

  -- ---- a sync

  module _ (disk : StagedDisk F g) (within : AreWithin (holds disk) (waiting disk)) (seen_now : MayLeave (after_calls (g.first disk.file) (g.done disk.file)) (holds disk)) where
    -- what a read gives is what the file will hold, and a crash may leave it
    seen-image : (image_of disk).seen ≡ seen_of disk
    seen-image = ap (λ (i : Image). i.seen) (after-append (g.first disk.file) (g.done disk.file) (bytewise (waiting disk))) ∙ seen-bytewise (after_calls (g.first disk.file) (g.done disk.file)) (waiting disk) within

    pub seen-may : may_leave_of disk (seen_of disk)
    seen-may = leaves-tasks (g.first disk.file) (g.done disk.file) (waiting disk) within seen_now

    module _ (new : List DiskCall) where
      only-sync : new ≡ waiting disk ++ Sync ∷ [] → Only (seen_of disk) (MayLeave (after_calls (g.first disk.file) (g.done disk.file ++ bytewise new)))
      only-sync is left may =
          subst (λ (i : Image). MayLeave i left) (ap (after_calls (g.first disk.file)) (with-sync (g.done disk.file) (waiting disk) new is) ∙ after-append (g.first disk.file) (calls_of disk) (Sync ∷ [])) may ∙ seen-image

      only-same : new ≡ waiting disk → IsSettled (image_of disk) → Only (seen_of disk) (MayLeave (after_calls (g.first disk.file) (g.done disk.file ++ bytewise new)))
      only-same is settled left may = settled left (subst (λ (l : List DiskCall). MayLeave (after_calls (g.first disk.file) (g.done disk.file ++ bytewise l)) left) is may) ∙ seen-image

      pub durable : (was : Bool) → (was ≡ false → new ≡ waiting disk ++ Sync ∷ []) → (was ≡ true → new ≡ waiting disk) → (was ≡ true → IsSettled (image_of disk)) → Only (seen_of disk) (MayLeave (after_calls (g.first disk.file) (g.done disk.file ++ bytewise new)))
      durable false due none settled = only-sync (due refl)
      durable true due none settled = only-same (none refl) (settled refl)

      pub no_more : (was : Bool) → (was ≡ false → new ≡ waiting disk ++ Sync ∷ []) → (was ≡ true → new ≡ waiting disk) → (was ≡ true → IsSettled (image_of disk))
          → LeavesNoMore (may_leave_of disk) (MayLeave (after_calls (g.first disk.file) (g.done disk.file ++ bytewise new)))
      no_more was due none settled left may = subst (may_leave_of disk) (sym (durable was due none settled left may)) seen-may

  pub elapses-sync : (old new : StagedDisk F g) → g.first new.file ≡ g.first old.file → g.done new.file ≡ g.done old.file → (was : Bool) → (was ≡ false → waiting new ≡ waiting old ++ Sync ∷ []) → (was ≡ true → waiting new ≡ waiting old) → Elapses clock_of might_have_left may_leave_of old new
  elapses-sync old new same done false due none =
      let is : calls_of new ≡ calls_of old ++ Sync ∷ [] = ap (λ (l : List DiskCall). l ++ bytewise (waiting new)) done ∙ with-sync (g.done old.file) (waiting old) (waiting new) (due refl) in
      elapses old new (Sync ∷ []) same is (left-push (g.first old.file) (calls_of old) Sync) (kept-push (g.first old.file) (calls_of old) Sync)
  elapses-sync old new same done true due none =
      let is : calls_of new ≡ calls_of old ++ [] = ap (λ (l : List DiskCall). l ++ bytewise (waiting new)) done ∙ ap (λ (l : List DiskCall). g.done old.file ++ bytewise l) (none refl) ∙ sym (append-nil (calls_of old)) in
      elapses-write old new 0 [] same is

  -- What is written again adds no call,
  pub again-calls : (old : StagedDisk F g) (file : F) (mid new : List DiskCall) (at : ℕ) (bytes : List ℕ) → file ≡ old.file → mid ≡ waiting old → new ≡ mid ++ Again at bytes ∷ [] → g.done file ++ bytewise new ≡ calls_of old
  again-calls old file mid new at bytes same waits added =
      ap (λ f. g.done f ++ bytewise new) same ∙ with-again (g.done old.file) (waiting old) new at bytes (added ∙ ap (λ (l : List DiskCall). l ++ Again at bytes ∷ []) waits)

  -- and no crash state.
  pub same-may : (old : StagedDisk F g) (file : F) (calls : List DiskCall) → file ≡ old.file → calls ≡ calls_of old → LeavesNoMore (may_leave_of old) (MayLeave (after_calls (g.first file) calls))
  same-may old file calls same is left may = subst (λ f. MayLeave (after_calls (g.first f) (calls_of old)) left) same (subst (λ (l : List DiskCall). MayLeave (after_calls (g.first file) l) left) is may)
