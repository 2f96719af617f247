use Rattle.sled_lines.proofs.piece.Piece.+put_wide_number.Given as goal

abbrev pub decreases-put_wide_number : goal.decreases-put_wide_number
decreases-put_wide_number l = l.number
