-- Bytes are encoded by one word.
use Rattle.std.proofs.Common.{◌≡◌, ℕ, ◌/◌, ◌%◌, ◌<◌, List, [], ◌∷◌, ◌++◌, length, ap, arith, refl}
use Rattle.std.specs.List.{AllByRecursion}
use Rattle.std.proofs.lemmas.Bool.Decides.{nat_tests}
use Rattle.sled_base.specs.Order.{Bytes}
use Rattle.sled_lines.specs.Words.{AreBytes, hex_digit, hex, bytes_word}

-- what holds of all and of one more
pub all_and_one : {X : Type 0} (P : X → Type 0) (xs : List X) (x : X) → AllByRecursion P xs → P x → AllByRecursion P (xs ++ x ∷ [])
all_and_one P [] x all one = (one, tt)
all_and_one P (first ∷ xs) x all one = (all.0, all_and_one P xs x all.1 one)

digit_once : (a b : ℕ) → a < 16 → b < 16 → hex_digit a ≡ hex_digit b → a ≡ b
digit_once a b small also e = grind (arith, nat_tests)

byte_once : (a b : ℕ) → a < 256 → b < 256 → hex_digit (a / 16) ≡ hex_digit (b / 16) → hex_digit (a % 16) ≡ hex_digit (b % 16) → a ≡ b
byte_once a b small also high low =
    let highs = digit_once (a / 16) (b / 16) (omega arith) (omega arith) high in
    let lows = digit_once (a % 16) (b % 16) (omega arith) (omega arith) low in
    omega arith

hex_once : (a b : Bytes) → AreBytes a → AreBytes b → hex a ≡ hex b → a ≡ b
hex_once [] [] are also e = refl
hex_once [] (y ∷ b) are also e = absurd cc
hex_once (x ∷ a) [] are also e = absurd cc
hex_once (x ∷ a) (y ∷ b) are also e =
    let high : hex_digit (x / 16) ≡ hex_digit (y / 16) = cc in
    let low : hex_digit (x % 16) ≡ hex_digit (y % 16) = cc in
    let front = byte_once x y are.0 also.0 high low in
    let same : hex a ≡ hex b = cc in
    let rest = hex_once a b are.1 also.1 same in
    cc

pub word_once : (a b : Bytes) → AreBytes a → AreBytes b → bytes_word a ≡ bytes_word b → a ≡ b
word_once [] [] are also e = refl
word_once [] (y ∷ b) are also e = absurd (omega (arith, ap length e))
word_once (x ∷ a) [] are also e = absurd (omega (arith, ap length e))
word_once (x ∷ a) (y ∷ b) are also e = hex_once (x ∷ a) (y ∷ b) are also e
