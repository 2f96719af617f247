-- A text in plain decimal digits is what its number is written as.
use Rattle.std.proofs.Common.{◌≡◌, ◌≢◌, ℕ, zero, suc, [], ◌∷◌, ◌+◌, ◌*◌, ◌<◌, ◌≤◌, ◌^◌, length, take, get_or, sym, ap, ◌∙◌, subst, arith, refl, lit<}
use Rattle.std.specs.Char.{digit_value}
use Rattle.std.specs.Fmt.{decimal}
use Rattle.std.specs.Str.Parse.{AllDigits, digits_value}
use Rattle.std.proofs.lemmas.Bool.Decides.{nat_tests}
use Rattle.std.proofs.lemmas.Fmt.{decimal_digit, first_decimal, decimal-digits_value, digits_decimal, digits_value-decimal}
use Rattle.std.proofs.lemmas.Int.Digits.{digits_value_push}
use Rattle.std.proofs.lemmas.List.{take_more}
use Rattle.std.proofs.lemmas.Str.{digit_value_digit}
use Rattle.std.proofs.lemmas.Str.Parse.{IsNumeralModel, numerals_by_value, tells_digits, digit_at, digits_value-take-le}
use Rattle.sled_base.specs.Order.{Bytes}
use Rattle.sled_lines.specs.Cut.{HasNo, HasPlainFront}

own : IsNumeralModel (AllDigits 10) (digits_value 10)
own = numerals_by_value (AllDigits 10) tells_digits

-- a number is written with neither a sign nor a needless zero
plain_front : (n : ℕ) → n < 2 ^ 64 → HasPlainFront (decimal n)
plain_front zero small = let e = decimal_digit 0 (lit< tt) in subst HasPlainFront (sym e) (omega arith, λ _. refl)
plain_front (suc n) small = let above = first_decimal (suc n) (omega arith) small in (omega arith, omega arith)

pub encoded_is_plain : (word : Bytes) (n : ℕ) → n < 2 ^ 64 → word ≡ decimal n → HasPlainFront word
encoded_is_plain word n small e = subst HasPlainFront (sym e) (plain_front n small)

-- the number of one more digit
pub value_more : (word : Bytes) (i before after : ℕ) → i < length word → before ≡ digits_value 10 (take i word) → after ≡ before * 10 + digit_value (get_or word i 0) → after ≡ digits_value 10 (take (i + 1) word)
value_more word i before after below e more =
    more ∙ ap (λ n. n * 10 + digit_value (get_or word i 0)) e ∙ sym (digits_value_push 10 (take i word) (get_or word i 0)) ∙ ap (digits_value 10) (sym (take_more word i 0 below))

-- digits with a plain front are what their number is written as
pub digits_are_written : (word : Bytes) (n : ℕ) → AllDigits 10 word → n ≡ digits_value 10 word → n < 2 ^ 64 → 0 < length word → HasPlainFront word → word ≡ decimal n
digits_are_written word n digits e small some plain = sym (ap decimal e ∙ decimal-digits_value own word digits some plain.1 (omega (arith, e)))

-- no number is written with a byte that is no digit, or with a front whose number is too large
pub stops_at : (word : Bytes) (i before n : ℕ) → i < length word → before ≡ digits_value 10 (take i word) → (digit_value (get_or word i 0) < 10 → 2 ^ 64 ≤ before * 10 + digit_value (get_or word i 0)) → n < 2 ^ 64 → word ≢ decimal n
stops_at word i before n below e over small same =
    let digits : AllDigits 10 word = subst (AllDigits 10) (sym same) (digits_decimal own n small) in
    let range = digit_at word i digits below in
    let digit : digit_value (get_or word i 0) < 10 = omega (arith, range, digit_value_digit _ range) in
    let value : digits_value 10 word ≡ n = ap (digits_value 10) same ∙ digits_value-decimal own n small in
    omega (arith, over digit, value_more word i before _ below e refl, digits_value-take-le 10 word (i + 1) (omega arith), value)

-- no space stands in a number
digit_from : (byte : ℕ) → digit_value byte < 10 → byte ≢ 32
digit_from byte small = grind (arith, nat_tests)

no_space_in_digits : (word : Bytes) → AllDigits 10 word → HasNo 32 word
no_space_in_digits [] all = tt
no_space_in_digits (byte ∷ word) all = (digit_from byte all.0, no_space_in_digits word all.1)

pub no_space_in_number : (n : ℕ) → n < 2 ^ 64 → HasNo 32 (decimal n)
no_space_in_number n small = no_space_in_digits (decimal n) (digits_decimal (own) n small)
