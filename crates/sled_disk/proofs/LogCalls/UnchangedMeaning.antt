-- A disk that was read, and written at most so that it means the same.
use Rattle.std.proofs.Common.{inl, inr, ⊎_elim, ℕ, ◌≤◌, List, subst, le_trans}
use Rattle.sled_disk.specs.Crash.{BytesLeft}
use Rattle.sled_disk.specs.DiskReads.{Rests}
use Rattle.sled_disk.specs.RecoveredLog.{SameMeaning, LeavesTheMeaning}

module _ {D : Type 0} {tells : Type 0} {seen : D → List ℕ} {may_leave : D → List ℕ → Type 0} {moment : D → ℕ} {left_since : D → ℕ → List ℕ → Type 0} where
  -- it was read at most
  pub rests-mean : (old new : D) → Rests tells seen may_leave moment left_since old new → LeavesTheMeaning tells seen may_leave moment left_since old new
  rests-mean old new r = record {
    may = λ told left may. inl (r.may told left may);
    later = r.later;
    nothing_else = λ told t left le was. inl (r.nothing_else told t left le was);
    kept = r.kept;
  }

  -- it was read at most, and then each crash state means the same
  pub mean-after : (left_now : (disk : D) (left : List ℕ) → tells → may_leave disk left → left_since disk (moment disk) left) (since_earlier : (disk : D) (t u : ℕ) (left : List ℕ) → tells → t ≤ u → left_since disk u left → left_since disk t left)
      → (old mid new : D) → Rests tells seen may_leave moment left_since old mid → (tells → BytesLeft moment left_since mid new (SameMeaning (seen mid))) → LeavesTheMeaning tells seen may_leave moment left_since old new
  mean-after left_now since_earlier old mid new r l = record {
    may = λ told left may. inr (subst (λ (s : List ℕ). SameMeaning s left) (r.same told) ((l told).each left (since_earlier new (moment mid) (moment new) left told (l told).later (left_now new left told may))));
    later = λ told. le_trans (r.later told) (l told).later;
    nothing_else = λ told t left le was. ⊎_elim (λ earlier. inl (r.nothing_else told t left le earlier)) (λ same. inr (subst (λ (s : List ℕ). SameMeaning s left) (r.same told) same)) ((l told).before t left (le_trans le (r.later told)) was);
    kept = λ told t left le was. (l told).kept t left (le_trans le (r.later told)) (r.kept told t left le was);
  }

  -- a disk that was read, or synced and read, before
  pub rests-and-mean : (since_earlier : (disk : D) (t u : ℕ) (left : List ℕ) → tells → t ≤ u → left_since disk u left → left_since disk t left)
      → (old mid new : D) → Rests tells seen may_leave moment left_since old mid → LeavesTheMeaning tells seen may_leave moment left_since mid new → LeavesTheMeaning tells seen may_leave moment left_since old new
  rests-and-mean since_earlier old mid new r l = record {
    may = λ told left may. ⊎_elim (λ was. inl (r.may told left was)) (λ same. inr (subst (λ (s : List ℕ). SameMeaning s left) (r.same told) same)) (l.may told left may);
    later = λ told. le_trans (r.later told) (l.later told);
    nothing_else = λ told t left le was. ⊎_elim (λ earlier. inl (r.nothing_else told t left le earlier)) (λ same. inr (subst (λ (s : List ℕ). SameMeaning s left) (r.same told) same)) (l.nothing_else told t left (le_trans le (r.later told)) was);
    kept = λ told t left le was. l.kept told t left (le_trans le (r.later told)) (r.kept told t left le was);
  }
