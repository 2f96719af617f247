-- One more call in the journal is one more moment.
use Rattle.std.proofs.Common.{◌≡◌, ◌⊎◌, inl, inr, ℕ, ◌+◌, ◌≤◌, ◌<◌, List, [], ◌∷◌, ◌++◌, length, take, sym, ◌∙◌, ap, subst, arith}
use Rattle.std.proofs.Math.Nat.{eq-or-lt_of_le}
use Rattle.std.proofs.lemmas.List.{length-append, take-append-le, take_all}
use Rattle.sled_disk.specs.Disk.{Torn, Follows, LeavesEach, LeavesNoMore, Only, Elapses}
use Rattle.sled_disk.specs.DiskMemory.{calls_of, clock_of, bytes_of, may_leave_of, might_have_left}
use Rattle.sled_disk.specs.Journal.{DiskCall, Write, Sync, Image, all_synced, after_call, after_calls, MayLeave, WasLeft}
use Rattle.sled_disk.specs.declared.disk.memory.MemDisk.{MemDisk}
use Rattle.sled_disk.proofs.Disks.JournalCalls.{after_calls-push}
use Rattle.sled_disk.specs.JournalLaws.{seen_left}
use Rattle.sled_disk.specs.DiskLaws.{torn-same}

-- a write leaves what was left before, torn
follows-write : (image : Image) (at : ℕ) (bytes : List ℕ) → Follows (Torn at (length bytes)) (MayLeave image) (MayLeave (after_call image (Write at bytes)))
follows-write image at bytes left torn = torn

-- a sync leaves what is there
only-sync : (image : Image) (left : List ℕ) → MayLeave (after_call image Sync) left → left ≡ image.seen
only-sync image left is = is

module _ (first : Image) (calls : List DiskCall) (call : DiskCall) where
  len : length (calls ++ call ∷ []) ≡ length calls + 1
  len = omega (arith, length-append calls (call ∷ []))

  same : (at : ℕ) → at ≤ length calls → take at (calls ++ call ∷ []) ≡ take at calls
  same at le = take-append-le at calls (call ∷ []) le

  last : (at t : ℕ) (left : List ℕ) → at ≤ length (calls ++ call ∷ []) → t ≤ at → MayLeave (after_calls first (take at (calls ++ call ∷ []))) left
      → (at ≡ length (calls ++ call ∷ [])) ⊎ (at < length (calls ++ call ∷ [])) → WasLeft first calls t left ⊎ MayLeave (after_calls first (calls ++ call ∷ [])) left
  last at t left to from may (inr lt) = let le : at ≤ length calls = omega (arith, len) in inl (record { at = at; from = from; to = le; may = subst (λ (l : List DiskCall). MayLeave (after_calls first l) left) (same at le) may })
  last at t left to from may (inl is) = inr (subst (λ (l : List DiskCall). MayLeave (after_calls first l) left) (take_all at (calls ++ call ∷ []) (omega (arith, len))) may)

  pub left-push : (t : ℕ) (left : List ℕ) → WasLeft first (calls ++ call ∷ []) t left → WasLeft first calls t left ⊎ MayLeave (after_calls first (calls ++ call ∷ [])) left
  left-push t left was = last was.at t left was.to was.from was.may (eq-or-lt_of_le was.to)

  pub kept-push : (t : ℕ) (left : List ℕ) → WasLeft first calls t left → WasLeft first (calls ++ call ∷ []) t left
  kept-push t left was =
      let to = was.to in
      record { at = was.at; from = was.from; to = omega (arith, len, to); may = subst (λ (l : List DiskCall). MayLeave (after_calls first l) left) (sym (same was.at to)) was.may }

-- A disk that made one call more.
module _ (old new : MemDisk) (call : DiskCall) (starts : new.start.items ≡ old.start.items) (noted : calls_of new ≡ calls_of old ++ call ∷ []) where
  -- what holds of the same start and the calls of both holds of the new one
  moved : (P : List ℕ → List DiskCall → Type 0) → P old.start.items (calls_of old ++ call ∷ []) → P new.start.items (calls_of new)
  moved P p = subst (λ (s : List ℕ). P s (calls_of new)) (sym starts) (subst (λ (l : List DiskCall). P old.start.items l) (sym noted) p)

  back : (P : List ℕ → List DiskCall → Type 0) → P new.start.items (calls_of new) → P old.start.items (calls_of old ++ call ∷ [])
  back P p = subst (λ (l : List DiskCall). P old.start.items l) noted (subst (λ (s : List ℕ). P s (calls_of new)) starts p)

  now : (left : List ℕ) → may_leave_of new left → MayLeave (after_call (after_calls (all_synced old.start.items) (calls_of old)) call) left
  now left may = subst (λ image. MayLeave image left) (after_calls-push (all_synced old.start.items) (calls_of old) call) (back (λ s l. MayLeave (after_calls (all_synced s) l) left) may)

  elapses-on : (t : ℕ) (left : List ℕ) → WasLeft (all_synced old.start.items) (calls_of old) t left ⊎ MayLeave (after_calls (all_synced old.start.items) (calls_of old ++ call ∷ [])) left → might_have_left old t left ⊎ may_leave_of new left
  elapses-on t left (inl was) = inl was
  elapses-on t left (inr may) = inr (moved (λ s l. MayLeave (after_calls (all_synced s) l) left) may)

  pub elapses : Elapses clock_of might_have_left may_leave_of old new
  elapses = record {
    later = omega (arith, ap length noted, len (all_synced old.start.items) (calls_of old) call);
    nothing_else = λ t left le was. elapses-on t left (left-push (all_synced old.start.items) (calls_of old) call t left (back (λ s l. WasLeft (all_synced s) l t left) was));
    keeps = λ t left le was. moved (λ s l. WasLeft (all_synced s) l t left) (kept-push (all_synced old.start.items) (calls_of old) call t left was);
  }

-- what a write that was made leaves
pub stops-write : (old new : MemDisk) (at : ℕ) (bytes : List ℕ) → new.start.items ≡ old.start.items → calls_of new ≡ calls_of old ++ Write at bytes ∷ [] → Follows (Torn at (length bytes)) (may_leave_of old) (may_leave_of new)
stops-write old new at bytes starts noted left may = follows-write (after_calls (all_synced old.start.items) (calls_of old)) at bytes left (now old new (Write at bytes) starts noted left may)

-- each torn form of it is left
pub tears-write : (old new : MemDisk) (at : ℕ) (bytes : List ℕ) → new.start.items ≡ old.start.items → calls_of new ≡ calls_of old ++ Write at bytes ∷ [] → LeavesEach (Torn at (length bytes)) (may_leave_of old) (may_leave_of new)
tears-write old new at bytes starts noted was left may torn =
    moved old new (Write at bytes) starts noted (λ s l. MayLeave (after_calls (all_synced s) l) left)
    (subst (λ image. MayLeave image left) (sym (after_calls-push (all_synced old.start.items) (calls_of old) (Write at bytes))) (was, may, torn))

-- and a sync
pub stops-sync : (old new : MemDisk) → new.start.items ≡ old.start.items → calls_of new ≡ calls_of old ++ Sync ∷ [] → Only (bytes_of old) (may_leave_of new)
stops-sync old new starts noted left may = only-sync (after_calls (all_synced old.start.items) (calls_of old)) left (now old new Sync starts noted left may) ∙ sym old.replayed

pub stops-sync-no_more : (old new : MemDisk) → new.start.items ≡ old.start.items → calls_of new ≡ calls_of old ++ Sync ∷ [] → LeavesNoMore (may_leave_of old) (may_leave_of new)
stops-sync-no_more old new starts noted left may =
    subst (may_leave_of old) (sym (stops-sync old new starts noted left may)) (seen_left old.start.items old.written.items old.bytes.items (length old.bytes.items) old.calls.items old.within old.replayed)

-- a call that failed changes nothing
pub stops-none : (old : MemDisk) (at n : ℕ) → Follows (Torn at n) (may_leave_of old) (may_leave_of old)
stops-none old at n left may = (left, may, torn-same left at n)
