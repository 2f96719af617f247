-- Texts that are written one after another.
use Rattle.std.proofs.Common.{◌≡◌, ℕ, ◌+◌, ◌-◌, ◌/◌, ◌%◌, ◌<◌, [], ◌∷◌, ◌++◌, length, take, drop, get_or, sym, ap, ◌∙◌, arith, refl, append_assoc, take-append-drop}
use Rattle.std.proofs.lemmas.List.{take_rest, take_more}
use Rattle.sled_base.specs.Order.{Bytes}
use Rattle.sled_lines.specs.Words.{hex_digit, hex, bytes_word}
use Rattle.sled_lines.proofs.Hex.{hex_more}

-- the front of what is left was written too
pub moved : (all done rest left : Bytes) (n : ℕ) → all ≡ done ++ rest → left ≡ take (length rest - n) (drop n rest) → all ≡ (done ++ take n rest) ++ left
moved all done rest left n e f =
    e ∙ ap (λ l. done ++ l) (sym (take-append-drop n rest)) ∙ sym (append_assoc done (take n rest) (drop n rest)) ∙ ap (λ l. (done ++ take n rest) ++ l) (sym (f ∙ take_rest rest n))

-- ---- byte strings

pub hex_word : (bytes : Bytes) → 0 < length bytes → bytes_word bytes ≡ hex bytes
hex_word [] some = absurd (omega arith)
hex_word (byte ∷ bytes) some = refl

-- the digits of one more byte
pub hex_next : (bytes : Bytes) (i high low : ℕ) → i < length bytes → high ≡ hex_digit (get_or bytes i 0 / 16) → low ≡ hex_digit (get_or bytes i 0 % 16) → hex (take (i + 1) bytes) ≡ hex (take i bytes) ++ high ∷ low ∷ []
hex_next bytes i high low below p q =
    let more = hex_more (take i bytes) (get_or bytes i 0) in
    let front = take_more bytes i 0 below in
    cc

-- ---- keys of two parts

pub hex_append : (a b : Bytes) → hex (a ++ b) ≡ hex a ++ hex b
hex_append [] b = refl
hex_append (byte ∷ a) b = ap (λ rest. hex_digit (byte / 16) ∷ hex_digit (byte % 16) ∷ rest) (hex_append a b)

pub word_of_both : (a b : Bytes) → (a ≡ [] → ⊥) → (b ≡ [] → ⊥) → bytes_word (a ++ b) ≡ bytes_word a ++ bytes_word b
word_of_both [] b some more = absurd (some refl)
word_of_both (x ∷ a) [] some more = absurd (more refl)
word_of_both (x ∷ a) (y ∷ b) some more = hex_append (x ∷ a) (y ∷ b)
