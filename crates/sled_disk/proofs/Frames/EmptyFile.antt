-- The device calls that make an empty file: the crash states after each.
use Rattle.std.proofs.Common.{ℕ, List}
use Rattle.sled_disk.specs.Crash.{BytesLeft, IsTornOf}
use Rattle.sled_disk.specs.Disk.{Torn, Follows, LeavesNoMore, Elapses}
use Rattle.sled_disk.proofs.Frames.FrameWrite.{started, goes_on}
use Rattle.sled_disk.specs.DiskLaws.{torn-same}

module _ {D : Type 0} (may_leave : D → List ℕ → Type 0) (moment : D → ℕ) (left_since : D → ℕ → List ℕ → Type 0)
    (only_now : (disk : D) (left : List ℕ) → left_since disk (moment disk) left → may_leave disk left) (at n : ℕ) (d : D) where
  abbrev P : List ℕ → Type 0
  P = IsTornOf (may_leave d) at n

  -- room was made
  module _ (d1 : D) (less : LeavesNoMore (may_leave d) (may_leave d1)) (time : Elapses moment left_since may_leave d d1) where
    pub with_room : BytesLeft moment left_since d d1 P
    with_room =
        goes_on moment left_since may_leave d d d1 P (started moment left_since may_leave d P (λ left was. (left, only_now d left was, torn-same left at n))) time
        (λ left may. (left, less left may, torn-same left at n))

    -- the write
    module _ (d2 : D) (torn : Follows (Torn at n) (may_leave d1) (may_leave d2)) (time' : Elapses moment left_since may_leave d1 d2) where
      torn-of : (left : List ℕ) → may_leave d2 left → P left
      torn-of left may = let from = torn left may in (from.0, less from.0 from.1, from.2)

      pub with_write : BytesLeft moment left_since d d2 P
      with_write = goes_on moment left_since may_leave d d1 d2 P with_room time' torn-of

      -- the sync
      pub with_sync : (d3 : D) → LeavesNoMore (may_leave d2) (may_leave d3) → Elapses moment left_since may_leave d2 d3 → BytesLeft moment left_since d d3 P
      with_sync d3 less' time'' = goes_on moment left_since may_leave d d2 d3 P with_write time'' (λ left may. torn-of left (less' left may))
