-- The laws of the encoding of numbers.
use Rattle.std.specs.Prelude.{◌≡◌, not, ℕ, ℤ, zero, suc, ◌+◌, ◌-◌, ◌*◌, ◌/◌, ◌^◌, ◌<◌, ◌≤◌, Bool, true, false, List, [], ◌∷◌, ◌++◌, length, take, drop, Option, Some, None, nat_le, nat_lt, ◌==◌, if◌then◌else◌, refl}
use Rattle.std.proofs.Common.{sym, ap, subst, ◌∙◌, arith, get_or}
use Rattle.std.proofs.Math.Nat.{pow-suc, pow-le-pow_right}
use Rattle.std.proofs.lemmas.Bool.{leb-true, leb-false, ltb-true, ltb-false, eqb-true, eqb-false, le-leb, lt-leb, le-ltb, ne_eqb}
use Rattle.std.proofs.lemmas.List.{take_at, drop_at, take-append-drop, length-append, length-take}
use Rattle.std.proofs.lemmas.Option.{some_pair_parts}
use Rattle.std.proofs.lemmas.Int.{ints, to_z-of_z}
use Rattle.std.specs.Int.{w64, cast_signed, cast_unsigned}
use Rattle.std.specs.Int.RustNames.{FitsSigned}
use Rattle.sled_base.specs.Payloads.Reading.{IsGrammar}
use Rattle.sled_base.specs.Payloads.Numbers.{from_low_bytes, low_bytes, EncodesU64, ReadsU64, written_u64, ReadsLow, ReadsI64, written_i64, ReadsU8, written_u8, ReadsBool, written_bool}
use Rattle.sled_base.specs.Payloads.PlainNumbers.{u64_at, after_one, after_two, after_many}

-- what holds of both branches holds of the choice
pub chosen : {A : Type 0} (P : A → Type 0) (b : Bool) (x y : A) → (b ≡ true → P x) → (b ≡ false → P y) → P (if b then x else y)
chosen P true x y first second = first refl
chosen P false x y first second = second refl

-- ---- bytes of a number

pub length-low_bytes : (count n : ℕ) → length (low_bytes count n) ≡ count
length-low_bytes zero n = refl
length-low_bytes (suc count) n = ap suc (length-low_bytes count (n / 256))

pub from_low_bytes-low_bytes : (count n : ℕ) → n < 256 ^ count → from_low_bytes (low_bytes count n) ≡ n
from_low_bytes-low_bytes zero n lt = omega arith
from_low_bytes-low_bytes (suc count) n lt =
    let less : n / 256 < 256 ^ count = omega (arith, rw pow-suc at lt) in
    omega (arith, from_low_bytes-low_bytes count (n / 256) less)

-- up to seven bytes make a number below 2 ^ 56
pub below_seven : (n count : ℕ) → n < 256 ^ count → count ≤ 7 → n < 2 ^ 56
below_seven n count lt few =
    let most : 256 ^ count ≤ 256 ^ 7 = pow-le-pow_right {n = 256} (omega arith) few in
    omega arith

-- ---- what is written is an encoding of the number

pub encodes_written : (n : ℕ) → n < 2 ^ 64 → EncodesU64 (written_u64 n) n
encodes_written n lt =
    let P = λ (s : List ℕ). EncodesU64 s n in
    let Q = λ (count : ℕ). EncodesU64 ((247 + count) ∷ low_bytes count n) n in
    chosen P (nat_le n 240) _ _ (λ e. (leb-true n 240 e, refl)) (λ above_240.
    chosen P (nat_le n 2287) _ _ (λ e. let low = leb-true n 2287 e in let high = leb-false n 240 above_240 in (omega arith, omega arith, omega arith)) (λ above_2287.
    chosen P (nat_le n 67823) _ _ (λ e. let low = leb-true n 67823 e in let high = leb-false n 2287 above_2287 in (refl, omega arith)) (λ above_67823.
    chosen Q (nat_lt n (2 ^ 24)) _ _ (λ e. (omega arith, refl, sym (from_low_bytes-low_bytes 3 n (ltb-true n (2 ^ 24) e)))) (λ a.
    chosen Q (nat_lt n (2 ^ 32)) _ _ (λ e. (omega arith, refl, sym (from_low_bytes-low_bytes 4 n (ltb-true n (2 ^ 32) e)))) (λ b.
    chosen Q (nat_lt n (2 ^ 40)) _ _ (λ e. (omega arith, refl, sym (from_low_bytes-low_bytes 5 n (ltb-true n (2 ^ 40) e)))) (λ c.
    chosen Q (nat_lt n (2 ^ 48)) _ _ (λ e. (omega arith, refl, sym (from_low_bytes-low_bytes 6 n (ltb-true n (2 ^ 48) e)))) (λ d.
    chosen Q (nat_lt n (2 ^ 56)) _ _ (λ e. (omega arith, refl, sym (from_low_bytes-low_bytes 7 n (ltb-true n (2 ^ 56) e)))) (λ f.
    (omega arith, refl, sym (from_low_bytes-low_bytes 8 n lt))))))))))

-- ---- the plain reader computes the grammar

-- an encoding at the front is read
pub reads_encoding : (encoding rest : List ℕ) (n : ℕ) → EncodesU64 encoding n → u64_at (encoding ++ rest) ≡ Some (n, rest)
unfolding u64_at
reads_encoding [] rest n h = absurd h
reads_encoding (b ∷ []) rest n h = rw (le-leb b 240 h.0) (ap (λ k. Some (k, rest)) (sym h.1))
reads_encoding (b ∷ c ∷ []) rest n h = rw (lt-leb b 240 h.0, le-leb b 248 h.1) (ap (λ k. Some (k, rest)) (sym h.2))
reads_encoding (b ∷ c ∷ d ∷ []) rest n h = rw (h.0) (ap (λ k. Some (k, rest)) (sym h.1))
reads_encoding (b ∷ c ∷ d ∷ e ∷ bytes) rest n h =
    let tail : List ℕ = c ∷ d ∷ e ∷ bytes in
    let count : b - 247 ≡ length tail = omega arith in
    let enough : nat_lt (length (tail ++ rest)) (length tail) ≡ false = le-ltb _ _ (omega (arith, length-append tail rest)) in
    let low : 240 < b = omega arith in
    let high : 248 < b = omega arith in
    rw (lt-leb b 240 low, lt-leb b 248 high, ne_eqb b 249 (λ same. omega arith), count, enough, take_at bytes rest (length bytes) refl, drop_at bytes rest (length bytes) refl) (ap (λ k. Some (k, rest)) (sym h.2))

-- a number and a rest
abbrev found : ℕ → List ℕ → Option (ℕ × List ℕ)
found n rest = Some (n, rest)

-- an encoding that is followed by the rest
after : (encoding rest : List ℕ) (n m : ℕ) (out : List ℕ) → EncodesU64 encoding m → found m out ≡ found n rest → ReadsU64 (encoding ++ out) n rest
after encoding rest n m out encodes e =
    let parts = some_pair_parts m n out rest e in
    (encoding, ap (λ k. encoding ++ k) parts.1, subst (EncodesU64 encoding) parts.0 encodes)

-- what follows a first byte of 241 to 248, of 249, and above
one_more : (b : ℕ) (bytes : List ℕ) (n : ℕ) (rest : List ℕ) → 240 < b → b ≤ 248 → after_one b bytes ≡ Some (n, rest) → ReadsU64 (b ∷ bytes) n rest
one_more b [] n rest low high e = absurd cc
one_more b (c ∷ out) n rest low high e = after (b ∷ c ∷ []) rest n (240 + 256 * (b - 241) + c) out (omega arith, high, refl) e

two_more : (b : ℕ) (bytes : List ℕ) (n : ℕ) (rest : List ℕ) → b ≡ 249 → after_two bytes ≡ Some (n, rest) → ReadsU64 (b ∷ bytes) n rest
two_more b [] n rest is e = absurd cc
two_more b (c ∷ []) n rest is e = absurd cc
two_more b (c ∷ d ∷ out) n rest is e = after (b ∷ c ∷ d ∷ []) rest n (2288 + 256 * c + d) out (is, refl) e

-- three bytes or more after the first
many_encode : (b : ℕ) (low : List ℕ) → b < 256 → 3 ≤ length low → b ≡ 247 + length low → EncodesU64 (b ∷ low) (from_low_bytes low)
many_encode b [] byte long is = absurd (omega arith)
many_encode b (c ∷ []) byte long is = absurd (omega arith)
many_encode b (c ∷ d ∷ []) byte long is = absurd (omega arith)
many_encode b (c ∷ d ∷ e ∷ low) byte long is = (omega arith, omega arith, refl)

many_more : (b : ℕ) (bytes : List ℕ) (n : ℕ) (rest : List ℕ) → b < 256 → 249 < b → after_many (b - 247) bytes ≡ Some (n, rest) → ReadsU64 (b ∷ bytes) n rest
many_more b bytes n rest byte low =
    let count = b - 247 in
    chosen (λ (r : Option (ℕ × List ℕ)). r ≡ Some (n, rest) → ReadsU64 (b ∷ bytes) n rest) (nat_lt (length bytes) count) None (Some (from_low_bytes (take count bytes), drop count bytes)) (λ short e. absurd cc) (λ enough e.
    let room = ltb-false (length bytes) count enough in
    let len : length (take count bytes) ≡ count = omega (arith, length-take count bytes) in
    let encodes = many_encode b (take count bytes) byte (omega arith) (omega arith) in
    subst (λ input. ReadsU64 (b ∷ input) n rest) (take-append-drop count bytes) (after (b ∷ take count bytes) rest n (from_low_bytes (take count bytes)) (drop count bytes) encodes e))

-- what is read has its encoding at the front
pub encoding_read : (input : List ℕ) (n : ℕ) (rest : List ℕ) → get_or input 0 0 < 256 → u64_at input ≡ Some (n, rest) → ReadsU64 input n rest
unfolding u64_at
encoding_read [] n rest byte e = absurd cc
encoding_read (b ∷ bytes) n rest byte e =
    let P = λ (r : Option (ℕ × List ℕ)). r ≡ Some (n, rest) → ReadsU64 (b ∷ bytes) n rest in
    chosen P (nat_le b 240) _ _ (λ t is. after (b ∷ []) rest n b bytes (leb-true b 240 t, refl) is) (λ low.
    chosen P (nat_le b 248) _ _ (λ t is. one_more b bytes n rest (leb-false b 240 low) (leb-true b 248 t) is) (λ high.
    chosen P (b == 249) _ _ (λ t is. two_more b bytes n rest (eqb-true b 249 t) is) (λ other is.
    let past = leb-false b 248 high in
    let apart = eqb-false b 249 other in
    let above : 249 < b = grind arith in
    many_more b bytes n rest byte above is))) e

-- the grammar of numbers has one reading, reads what is written, and consumes at least a byte
pub U64-complete : (input : List ℕ) (n : ℕ) (rest : List ℕ) → ReadsU64 input n rest → u64_at input ≡ Some (n, rest)
U64-complete input n rest (encoding, is, encodes) = rw is (reads_encoding encoding rest n encodes)

takes_one : (input : List ℕ) (n : ℕ) (rest : List ℕ) → ReadsU64 input n rest → length rest + 1 ≤ length input
takes_one input n rest ([], is, encodes) = absurd encodes
takes_one input n rest (b ∷ bytes, is, encodes) = omega (arith, ap length is, length-append bytes rest)

pub U64-grammar : IsGrammar ReadsU64 written_u64 (λ n. n < 2 ^ 64) (λ _ _. Unit {0}) 1
U64-grammar = record {
  one_reading = λ input v w r s left right. some_pair_parts v w r s (sym (U64-complete input v r left) ∙ U64-complete input w s right);
  read_again = λ v rest can follows. (written_u64 v, refl, encodes_written v can);
  takes = takes_one;
}

-- ---- a given number of bytes, and a signed number

-- two encodings of the same length at the front of the same input
pub same_front : (v w r s : List ℕ) → length v ≡ length w → v ++ r ≡ w ++ s → (v ≡ w) × (r ≡ s)
same_front v w r s len is =
    let n = length w in
    (sym (take_at v r n len) ∙ ap (take n) is ∙ take_at w s n refl, sym (drop_at v r n len) ∙ ap (drop n) is ∙ drop_at w s n refl)

one_low : (count : ℕ) (input : List ℕ) (v w : ℕ) (r s : List ℕ) → ReadsLow count input v r → ReadsLow count input w s → (v ≡ w) × (r ≡ s)
one_low count input v w r s left right =
    let same = same_front left.0 right.0 r s (left.2 ∙ sym right.2) (sym left.1 ∙ right.1) in
    (left.3 ∙ ap from_low_bytes same.0 ∙ sym right.3, same.1)

low_takes : (count : ℕ) (input : List ℕ) (v : ℕ) (rest : List ℕ) → ReadsLow count input v rest → length rest + count ≤ length input
low_takes count input v rest found = omega (arith, ap length found.1, length-append found.0 rest, found.2)

low_again : (count v : ℕ) (rest : List ℕ) → v < 256 ^ count → ReadsLow count (low_bytes count v ++ rest) v rest
low_again count v rest lt = (low_bytes count v, refl, length-low_bytes count v, sym (from_low_bytes-low_bytes count v lt))

pub U32-grammar : IsGrammar (ReadsLow 4) (low_bytes 4) (λ n. n < 2 ^ 32) (λ _ _. Unit {0}) 4
U32-grammar = record {
  one_reading = one_low 4;
  read_again = λ v rest can follows. low_again 4 v rest can;
  takes = low_takes 4;
}

bits_fit : (n : ℤ) → FitsSigned w64 n → cast_unsigned w64 n < 2 ^ 64
bits_fit n fits = omega (arith, ints)

pub I64-grammar : IsGrammar ReadsI64 written_i64 (λ n. FitsSigned w64 n) (λ _ _. Unit {0}) 8
I64-grammar = record {
  one_reading = λ input v w r s left right.
      let same = one_low 8 input left.0 right.0 r s left.1 right.1 in
      (left.2 ∙ ap (cast_signed w64) same.0 ∙ sym right.2, same.1);
  read_again = λ v rest can follows. (cast_unsigned w64 v, low_again 8 (cast_unsigned w64 v) rest (bits_fit v can), sym (to_z-of_z w64 v can));
  takes = λ input v rest found. low_takes 8 input found.0 rest found.1;
}

-- ---- a byte, and a truth value

-- two lists with a head
heads : (b c : ℕ) (r s : List ℕ) → ◌≡◌ {A = List ℕ} (b ∷ r) (c ∷ s) → (b ≡ c) × (r ≡ s)
heads b c r s e = (cc, cc)

pub U8-grammar : IsGrammar ReadsU8 written_u8 (λ n. n < 2 ^ 8) (λ _ _. Unit {0}) 1
U8-grammar = record {
  one_reading = λ input v w r s left right. heads v w r s (sym left ∙ right);
  read_again = λ v rest can follows. refl;
  takes = λ input v rest is. omega (arith, ap length is);
}

bool_again : (v : Bool) (rest : List ℕ) → ReadsBool (written_bool v ++ rest) v rest
bool_again false rest = (0, refl, refl)
bool_again true rest = (1, refl, refl)

pub Bool-grammar : IsGrammar ReadsBool written_bool (λ _. Unit {0}) (λ _ _. Unit {0}) 1
Bool-grammar = record {
  one_reading = λ input v w r s left right.
      let same = heads left.0 right.0 r s (sym left.1 ∙ right.1) in
      (left.2 ∙ ap (λ b. not (b == 0)) same.0 ∙ sym right.2, same.1);
  read_again = λ v rest can follows. bool_again v rest;
  takes = λ input v rest found. omega (arith, ap length found.1);
}
