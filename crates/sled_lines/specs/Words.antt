-- How the words of a line encode numbers and byte strings. A number is encoded by its decimal digits.
use Rattle.std.specs.Prelude.{◌≡◌, ℕ, ◌+◌, ◌/◌, ◌%◌, ◌<◌, List, [], ◌∷◌, ◌++◌, Option, None, Some, codes, nat_lt, if◌then◌else◌}
use Rattle.std.specs.List.{AllByRecursion, join_with_byte}
use Rattle.sled_base.specs.Order.{Bytes}

-- the hexadecimal digit of a number below 16
abbrev pub hex_digit : ℕ → ℕ
hex_digit n = if nat_lt n 10 then 48 + n else 87 + n

-- two lower-case digits a byte, the high one first
abbrev pub hex : Bytes → Bytes
hex [] = []
hex (byte ∷ bytes) = hex_digit (byte / 16) ∷ hex_digit (byte % 16) ∷ hex bytes

-- a byte string is encoded in hexadecimal, and the empty one as a dash
abbrev pub bytes_word : Bytes → Bytes
bytes_word [] = codes "-"
bytes_word (byte ∷ bytes) = hex (byte ∷ bytes)

-- what follows a command's name: a space and the words with single spaces between them, or nothing
abbrev pub after_name : List Bytes → Option Bytes
after_name [] = None
after_name (word ∷ words) = Some (join_with_byte 32 (word ∷ words))

-- numbers that are bytes
abbrev pub AreBytes : Bytes → Type 0
AreBytes bytes = AllByRecursion (λ byte. byte < 256) bytes

-- the word has no space
abbrev pub HasNoSpace : Bytes → Type 0
HasNoSpace word = AllByRecursion (λ byte. byte ≡ 32 → ⊥) word

-- the line is this word, followed by a space and the rest, if there is a rest
abbrev pub BeginsLine : Bytes → Bytes → Option Bytes → Type 0
BeginsLine line word None = HasNoSpace word × (line ≡ word)
BeginsLine line word (Some rest) = HasNoSpace word × (line ≡ word ++ 32 ∷ rest)

-- the text is a word and any second text, with a single space between them
pub record AreTwo (text : Option Bytes) (first rest : Bytes) : Type 0 where
  pub plain_first : HasNoSpace first
  pub joined : text ≡ Some (join_with_byte 32 (first ∷ rest ∷ []))
