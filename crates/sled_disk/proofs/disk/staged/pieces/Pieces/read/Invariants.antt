use Rattle.std.proofs.Common.{◌≤◌, ◌<◌, ◌≡◌, ◌+◌, ℕ, List, length, get_or}
use Rattle.sled_disk.specs.StagedReads.{ArePieces}
use Rattle.sled_disk.proofs.disk.staged.pieces.Pieces.read.Given as goal

-- what was copied are the file's bytes
abbrev pub invariant-loop-piece : goal.invariant-loop-piece
invariant-loop-piece l =
    (l.copied ≤ length l.into)
    × ((file : List ℕ) → ArePieces l.self file → (i : ℕ) → i < l.copied → get_or l.into i 0 ≡ get_or file (l.at + i) 0)
