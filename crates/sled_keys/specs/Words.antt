-- How byte strings are encoded as words of a line.
use Rattle.std.specs.Prelude.{ℕ, ◌/◌, ◌%◌, Bool, not, ◌&&◌, [], ◌∷◌, flat_map, nat_eq, nat_lt, if◌then◌else◌}
use Rattle.sled_base.specs.Order.{Bytes}
use Rattle.sled_lines.specs.Words.{hex_digit}

-- whether the byte is printable, and neither a space nor a backslash
abbrev pub is_plain : ℕ → Bool
is_plain byte = nat_lt 32 byte && (nat_lt byte 127 && not (nat_eq byte 92))

-- such a byte is encoded as itself, a backslash as two backslashes, and any other byte as a backslash and its two hexadecimal digits
abbrev pub spelled_byte : ℕ → Bytes
spelled_byte byte = if is_plain byte then byte ∷ [] else if nat_eq byte 92 then 92 ∷ 92 ∷ [] else 92 ∷ hex_digit (byte / 16) ∷ hex_digit (byte % 16) ∷ []

-- the word of a byte string has the codes of its bytes in a row; that of the empty one is a dash, so that of a single dash has its hexadecimal digits
abbrev pub spelled : Bytes → Bytes
spelled [] = 45 ∷ []
spelled (byte ∷ []) = if nat_eq byte 45 then 92 ∷ hex_digit 2 ∷ hex_digit 13 ∷ [] else spelled_byte byte
spelled (byte ∷ next ∷ bytes) = flat_map spelled_byte (byte ∷ next ∷ bytes)
