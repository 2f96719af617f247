-- Texts that are gathered in a piece.
use Rattle.std.proofs.Common.{◌≡◌, ℕ, ◌+◌, ◌*◌, ◌/◌, ◌%◌, ◌<◌, ◌≤◌, ◌^◌, [], ◌∷◌, ◌++◌, length, length-append, take, length-take-le, get_or, sym, ap, subst, ◌∙◌, arith, append_assoc}
use Rattle.std.specs.Fmt.{decimal}
use Rattle.std.proofs.lemmas.Fmt.{decimal_digit, decimal_step_wide, decimal_nonempty, length-decimal-le, length-decimal-le_wide}
use Rattle.sled_base.specs.Order.{Bytes}
use Rattle.sled_lines.specs.Words.{hex_digit, hex, bytes_word}
use Rattle.sled_lines.proofs.Hex.{length-hex}
use Rattle.sled_lines.proofs.Written.{hex_append, hex_next, hex_word}

-- ---- numbers

pub length-number : (n : ℕ) → n < 2 ^ 64 → length (decimal n) ≤ 20
length-number n small = length-decimal-le 20 n (omega arith) (omega arith) small

pub length-wide : (n : ℕ) → n < 2 ^ 128 → length (decimal n) ≤ 39
length-wide n small = length-decimal-le_wide 39 n (omega arith) (omega arith) (omega arith)

-- there is room for the last digit, behind the others or alone
pub tens_room : (items before : Bytes) (n room : ℕ) → 10 ≤ n → n < 10 ^ 64 → items ≡ before ++ decimal (n / 10) → length before + length (decimal n) ≤ room → length items < room
tens_room items before n room large small e fits =
    omega (arith, ap length e, length-append before (decimal (n / 10)), ap length (decimal_step_wide n large small), length-append (decimal (n / 10)) ((48 + n % 10) ∷ []))

pub digit_room : (before : Bytes) (n room : ℕ) → n < 2 ^ 64 → length before + length (decimal n) ≤ room → length before < room
digit_room before n room small fits = omega (arith, decimal_nonempty n small)

pub tens_fit : (before : Bytes) (n room : ℕ) → 10 ≤ n → n < 10 ^ 64 → length before + length (decimal n) ≤ room → length before + length (decimal (n / 10)) ≤ room
tens_fit before n room large small fits = omega (arith, ap length (decimal_step_wide n large small), length-append (decimal (n / 10)) ((48 + n % 10) ∷ []))

-- the last digit behind the others, or alone
pub tens_next : (items new before : Bytes) (n : ℕ) → 10 ≤ n → n < 10 ^ 64 → items ≡ before ++ decimal (n / 10) → new ≡ items ++ (48 + n % 10) ∷ [] → new ≡ before ++ decimal n
tens_next items new before n large small e last =
    let digit = (48 + n % 10) ∷ [] in
    last ∙ ap (λ l. l ++ digit) e ∙ append_assoc before (decimal (n / 10)) digit ∙ ap (λ l. before ++ l) (sym (decimal_step_wide n large small))

pub digit_next : (new before : Bytes) (n : ℕ) → n < 10 → new ≡ before ++ (48 + n % 10) ∷ [] → new ≡ before ++ decimal n
digit_next new before n small last =
    let same : n % 10 ≡ n = omega arith in
    last ∙ ap (λ d. before ++ (48 + d) ∷ []) same ∙ ap (λ l. before ++ l) (sym (decimal_digit n small))

-- the digits but the last two, where there are more
pub hundreds_fit : (before : Bytes) (n room : ℕ) → 100 ≤ n → n < 10 ^ 64 → length before + length (decimal n) ≤ room → length before + length (decimal (n / 100)) ≤ room
hundreds_fit before n room large small fits =
    let same : n / 10 / 10 ≡ n / 100 = omega arith in
    subst (λ k. length before + length (decimal k) ≤ room) same (tens_fit before (n / 10) room (omega arith) (omega arith) (tens_fit before n room (omega arith) small fits))

-- all digits but the last one, where there are two
pub two_next : (items new before : Bytes) (n : ℕ) → 10 ≤ n → n < 100 → items ≡ before → new ≡ items ++ (48 + n / 10 % 10) ∷ [] → new ≡ before ++ decimal (n / 10)
two_next items new before n large small e next = digit_next new before (n / 10) (omega arith) (next ∙ ap (λ l. l ++ (48 + n / 10 % 10) ∷ []) e)

-- and where there are more
pub more_next : (items new before : Bytes) (n : ℕ) → 100 ≤ n → n < 10 ^ 64 → items ≡ before ++ decimal (n / 100) → new ≡ items ++ (48 + n / 10 % 10) ∷ [] → new ≡ before ++ decimal (n / 10)
more_next items new before n large small e next =
    let same : n / 100 ≡ n / 10 / 10 = omega arith in
    tens_next items new before (n / 10) (omega arith) (omega arith) (e ∙ ap (λ k. before ++ decimal k) same) next

-- there is room for the last digit but one
pub next_room : (items before : Bytes) (n room : ℕ) → 100 ≤ n → n < 10 ^ 64 → items ≡ before ++ decimal (n / 100) → length before + length (decimal n) ≤ room → length items < room
next_room items before n room large small e fits =
    let same : n / 100 ≡ n / 10 / 10 = omega arith in
    tens_room items before (n / 10) room (omega arith) (omega arith) (e ∙ ap (λ k. before ++ decimal k) same) (tens_fit before n room (omega arith) small fits)

-- ---- byte strings

-- there is room for the first digit of one more byte, and for the second
pub put_room : (items before bytes : Bytes) (i room : ℕ) → i < length bytes → items ≡ before ++ hex (take i bytes) → length before + length (hex bytes) ≤ room → length items < room
put_room items before bytes i room below e fits =
    omega (arith, length-hex bytes, ap length e, length-append before (hex (take i bytes)), length-hex (take i bytes), length-take-le i bytes (omega arith))

pub more_room : (mid items before bytes : Bytes) (digit i room : ℕ) → i < length bytes → mid ≡ items ++ digit ∷ [] → items ≡ before ++ hex (take i bytes) → length before + length (hex bytes) ≤ room → length mid < room
more_room mid items before bytes digit i room below first e fits =
    omega (arith, length-hex bytes, ap length first, length-append items (digit ∷ []), ap length e, length-append before (hex (take i bytes)), length-hex (take i bytes), length-take-le i bytes (omega arith))

-- the digits of one more byte
pub put_next : (items mid new before bytes : Bytes) (i high low : ℕ) → i < length bytes → items ≡ before ++ hex (take i bytes) → mid ≡ items ++ high ∷ [] → new ≡ mid ++ low ∷ []
    → high ≡ hex_digit (get_or bytes i 0 / 16) → low ≡ hex_digit (get_or bytes i 0 % 16) → new ≡ before ++ hex (take (i + 1) bytes)
put_next items mid new before bytes i high low below e first second p q =
    let next = hex_next bytes i high low below p q in
    let digits = second ∙ ap (λ l. l ++ low ∷ []) first ∙ append_assoc items (high ∷ []) (low ∷ []) in
    digits ∙ ap (λ l. l ++ high ∷ low ∷ []) e ∙ append_assoc before (hex (take i bytes)) (high ∷ low ∷ []) ∙ ap (λ l. before ++ l) (sym next)

hex_fits : (bytes : Bytes) → length (hex bytes) ≤ length (bytes_word bytes)
hex_fits [] = omega arith
hex_fits (byte ∷ bytes) = omega arith

-- the word of a byte string of two parts
pub word_of_parts : (front rest : Bytes) → 0 < length front + length rest → bytes_word (front ++ rest) ≡ hex front ++ hex rest
word_of_parts front rest some = hex_word (front ++ rest) (omega (arith, length-append front rest)) ∙ hex_append front rest

-- how long a word is
pub parts_fit : (front rest : Bytes) → length (hex front) + length (hex rest) ≤ length (bytes_word (front ++ rest))
parts_fit front rest = omega (arith, hex_fits (front ++ rest), ap length (hex_append front rest), length-append (hex front) (hex rest))

pub length-word : (bytes : Bytes) → length (bytes_word bytes) ≤ 2 * length bytes + 1
length-word [] = omega arith
length-word (byte ∷ bytes) = omega (arith, length-hex (byte ∷ bytes))
