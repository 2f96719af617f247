-- Calls of a disk that leave its crash states as they are, one behind another.
use Rattle.std.proofs.Common.{◌≡◌, ◌≤◌, inl, inr, ℕ, List, arith}
use Rattle.sled_disk.specs.Disk.{LeavesNoMore, Elapses, LeavesTheSame}
use Rattle.sled_disk.specs.DiskReads.{Rests}

module _ {D : Type 0} (tells : Type 0) (may_leave : D → List ℕ → Type 0) (moment : D → ℕ) (left_since : D → ℕ → List ℕ → Type 0) where
  pub still : ((d : D) (left : List ℕ) → tells → may_leave d left → left_since d (moment d) left)
      → ((d : D) (t u : ℕ) (left : List ℕ) → tells → t ≤ u → left_since d u left → left_since d t left)
      → (old new : D) → (tells → LeavesNoMore (may_leave old) (may_leave new)) → (tells → Elapses moment left_since may_leave old new) → LeavesTheSame tells may_leave moment left_since old new
  still left_now earlier old new stop time = record {
    may = λ told left now. stop told left now;
    later = λ told. (time told).later;
    nothing_else = λ told t left le was. elim ((time told).nothing_else t left le was) [
      | inl before ↦ before
      | inr may ↦ earlier old t (moment old) left told le (left_now old left told (stop told left may))
    ];
    kept = λ told t left le was. (time told).keeps t left le was;
  }

  pub still-then : (old mid new : D) → LeavesTheSame tells may_leave moment left_since old mid → LeavesTheSame tells may_leave moment left_since mid new → LeavesTheSame tells may_leave moment left_since old new
  still-then old mid new a b = record {
    may = λ told left now. a.may told left (b.may told left now);
    later = λ told. omega (arith, a.later told, b.later told);
    nothing_else = λ told t left le was. a.nothing_else told t left le (b.nothing_else told t left (omega (arith, le, a.later told)) was);
    kept = λ told t left le was. b.kept told t left (omega (arith, le, a.later told)) (a.kept told t left le was);
  }

  pub still-read : (seen : D → List ℕ) (old new : D) → Rests tells seen may_leave moment left_since old new → LeavesTheSame tells may_leave moment left_since old new
  still-read seen old new r = record { may = r.may; later = r.later; nothing_else = r.nothing_else; kept = r.kept }

  pub rests-still : (seen : D → List ℕ) (old new : D) → (tells → seen new ≡ seen old) → LeavesTheSame tells may_leave moment left_since old new → Rests tells seen may_leave moment left_since old new
  rests-still seen old new same s = record { same = same; may = s.may; later = s.later; nothing_else = s.nothing_else; kept = s.kept }
