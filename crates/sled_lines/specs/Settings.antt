-- The limits of lines and of replies.
use Rattle.std.specs.Prelude.{ℕ}

-- the greatest length of a line that is read, without its newline
abbrev pub longest_line : ℕ
longest_line = 65536

-- the greatest length of a text that is gathered before it is written
abbrev pub piece_room : ℕ
piece_room = 8192
