-- How bytes are encoded in hexadecimal.
use Rattle.std.proofs.Common.{◌≡◌, ◌≢◌, Bool, true, false, eqb, ℕ, zero, suc, ◌+◌, ◌*◌, ◌/◌, ◌%◌, ◌<◌, ◌≤◌, [], ◌∷◌, ◌++◌, length, take, get_or, codes, ap, ◌∙◌, arith, refl, append_assoc}
use lib.Pointwise.{pointwise}
use native.Mathlib.Numerals.{unary_clauses}
use Rattle.std.proofs.lemmas.List.{take_more}
use Rattle.std.proofs.lemmas.Bool.Decides.{nat_tests}
use Rattle.sled_base.specs.Order.{Bytes}
use Rattle.sled_lines.specs.Cut.{HasNo}
use Rattle.sled_lines.specs.Words.{AreBytes, hex_digit, hex, bytes_word}

-- ---- hexadecimal

pub length-hex : (bytes : Bytes) → length (hex bytes) ≡ 2 * length bytes
length-hex [] = refl
length-hex (byte ∷ bytes) = omega (arith, length-hex bytes)

-- the two digits of a byte, in the middle of a text
pub digits_at : (bytes : Bytes) (i : ℕ) → AreBytes bytes → i < length bytes
    → (byte : ℕ) × (byte < 256) × (get_or (hex bytes) (2 * i) 0 ≡ hex_digit (byte / 16)) × (get_or (hex bytes) (2 * i + 1) 0 ≡ hex_digit (byte % 16))
digits_at [] i are below = absurd (omega arith)
digits_at (byte ∷ bytes) zero are below = (byte, are.0, refl, refl)
digits_at (byte ∷ bytes) (suc i) are below = simp unary_clauses (simp unary_clauses at (digits_at bytes i are.1 (omega arith)))

-- one more byte is two more digits
pub hex_more : (bytes : Bytes) (byte : ℕ) → hex (bytes ++ byte ∷ []) ≡ hex bytes ++ hex_digit (byte / 16) ∷ hex_digit (byte % 16) ∷ []
hex_more [] byte = refl
hex_more (first ∷ bytes) byte = ap (λ rest. hex_digit (first / 16) ∷ hex_digit (first % 16) ∷ rest) (hex_more bytes byte)

-- hexadecimal text is the word of its bytes, where it isn't empty
pub word_from_hex : (bytes word : Bytes) → word ≡ hex bytes → 0 < length word → word ≡ bytes_word bytes
word_from_hex [] word e some = absurd (omega (arith, ap length e))
word_from_hex (byte ∷ bytes) word e some = e

-- a word that is no dash is hexadecimal text
pub hex_from_word : (bytes word : Bytes) → word ≡ bytes_word bytes → word ≢ codes "-" → (word ≡ hex bytes) × (0 < length bytes)
hex_from_word [] word e other = absurd (other e)
hex_from_word (byte ∷ bytes) word e other = (e, omega arith)

pub no_dash : (word dash : Bytes) (test : Bool) → dash ≡ codes "-" → test ≡ pointwise eqb word dash → test ≡ false → word ≢ codes "-"
no_dash word dash test e by failed same = let is : pointwise eqb (codes "-") (codes "-") ≡ true = refl in absurd cc

-- so it has two digits a byte
pub even_word : (bytes word : Bytes) → word ≡ bytes_word bytes → word ≢ codes "-" → (0 < length word) × (length word % 2 ≡ 0)
even_word bytes word e other =
    let encoded = hex_from_word bytes word e other in
    let count : length word ≡ 2 * length bytes = ap length encoded.0 ∙ length-hex bytes in
    (omega arith, omega arith)

take_two : (word : Bytes) (n : ℕ) → n + 1 < length word → take (n + 1 + 1) word ≡ take n word ++ get_or word n 0 ∷ get_or word (n + 1) 0 ∷ []
take_two word n below =
    take_more word (n + 1) 0 below ∙ ap (λ front. front ++ get_or word (n + 1) 0 ∷ []) (take_more word n 0 (omega arith)) ∙ append_assoc (take n word) (get_or word n 0 ∷ []) (get_or word (n + 1) 0 ∷ [])

-- where two digits encode a byte, the word encodes one byte more
pub byte_more : (word bytes new : Bytes) (i byte : ℕ) → take (2 * i) word ≡ hex bytes → 2 * i + 1 < length word → get_or word (2 * i) 0 ≡ hex_digit (byte / 16) → get_or word (2 * i + 1) 0 ≡ hex_digit (byte % 16) → new ≡ bytes ++ byte ∷ []
    → take (2 * (i + 1)) word ≡ hex new
byte_more word bytes new i byte so_far below high low e =
    let two : 2 * (i + 1) ≡ 2 * i + 1 + 1 = omega arith in
    let more = hex_more bytes byte in
    let taken = take_two word (2 * i) below in
    cc

-- ---- marks

hex_digit_from : (n : ℕ) → n < 16 → 48 ≤ hex_digit n
hex_digit_from n small = grind (arith, nat_tests)

hex_digit_other : (n : ℕ) → n < 16 → hex_digit n ≢ 61
hex_digit_other n small = grind (arith, nat_tests)

no_equals_in_hex : (bytes : Bytes) → AreBytes bytes → HasNo 61 (hex bytes)
no_equals_in_hex [] are = tt
no_equals_in_hex (byte ∷ bytes) are = (hex_digit_other (byte / 16) (omega arith), (hex_digit_other (byte % 16) (omega arith), no_equals_in_hex bytes are.1))

no_space_in_hex : (bytes : Bytes) → AreBytes bytes → HasNo 32 (hex bytes)
no_space_in_hex [] are = tt
no_space_in_hex (byte ∷ bytes) are = (omega (arith, hex_digit_from (byte / 16) (omega arith)), (omega (arith, hex_digit_from (byte % 16) (omega arith)), no_space_in_hex bytes are.1))

pub no_equals : (bytes : Bytes) → AreBytes bytes → HasNo 61 (bytes_word bytes)
no_equals [] are = (omega arith, tt)
no_equals (byte ∷ bytes) are = no_equals_in_hex (byte ∷ bytes) are

pub no_space : (bytes : Bytes) → AreBytes bytes → HasNo 32 (bytes_word bytes)
no_space [] are = (omega arith, tt)
no_space (byte ∷ bytes) are = no_space_in_hex (byte ∷ bytes) are
