-- The bytes of a number, the lowest first, are those that std gives.
use Rattle.std.proofs.Common.{◌≡◌, ℕ, zero, suc, ◌+◌, ◌-◌, ◌*◌, ◌/◌, ◌%◌, ◌^◌, ◌<◌, ◌≤◌, List, [], ◌∷◌, ◌++◌, length, take, replicate, get_or, refl, ap, ◌∙◌, arith}
use Rattle.std.specs.Int.{w64, to_le_bytes, from_le_bytes, bytes_low_first, byte_at}
use Rattle.std.proofs.Math.Nat.{pow-suc, div-div-eq-div-mul, div-one}
use Rattle.std.proofs.lemmas.List.{length-append, length-replicate}
use Rattle.sled_base.specs.Payloads.Numbers.{from_low_bytes, low_bytes}

-- ---- from a number

byte_is : (i n : ℕ) → byte_at i n ≡ n / 256 ^ i % 256
byte_is zero n = omega (arith, div-one n)
byte_is (suc i) n = refl

-- one byte more is taken away
one_more : (i n : ℕ) → n / 256 ^ i / 256 ≡ n / 256 ^ suc i
one_more i n = rw pow-suc (div-div-eq-div-mul n (256 ^ i) 256)

-- the bytes above so many others
bytes_above : (count i n : ℕ) → bytes_low_first i count n ≡ low_bytes count (n / 256 ^ i)
bytes_above zero i n = refl
bytes_above (suc count) i n = rw (byte_is i n, bytes_above count (suc i) n, one_more i n) refl

pub le_low : (n : ℕ) → to_le_bytes w64 n ≡ low_bytes 8 n
le_low n = bytes_above 8 0 n ∙ ap (low_bytes 8) (div-one n)

-- the first of them
pub take_low : (count all n : ℕ) → count ≤ all → take count (low_bytes all n) ≡ low_bytes count n
take_low zero all n few = refl
take_low (suc count) zero n few = absurd (omega arith)
take_low (suc count) (suc all) n few = ap (λ bytes. n % 256 ∷ bytes) (take_low count all (n / 256) (omega arith))

-- ---- to a number

zeros_are_zero : (count : ℕ) → from_low_bytes (replicate count 0) ≡ 0
zeros_are_zero zero = refl
zeros_are_zero (suc count) = omega (arith, zeros_are_zero count)

-- zeros behind the bytes add nothing
zeros_behind : (bytes : List ℕ) (count : ℕ) → from_low_bytes (bytes ++ replicate count 0) ≡ from_low_bytes bytes
zeros_behind [] count = zeros_are_zero count
zeros_behind (byte ∷ bytes) count = ap (λ n. byte + 256 * n) (zeros_behind bytes count)

eight_make : (bytes : List ℕ) → length bytes ≡ 8 → from_le_bytes w64 bytes ≡ from_low_bytes bytes
eight_make (a ∷ b ∷ c ∷ d ∷ e ∷ f ∷ g ∷ h ∷ []) len = omega arith
eight_make bytes len = absurd (omega arith)

pub padded_make : (bytes : List ℕ) → length bytes ≤ 8 → from_le_bytes w64 (bytes ++ replicate (8 - length bytes) 0) ≡ from_low_bytes bytes
padded_make bytes few =
    let zeros : List ℕ = replicate (8 - length bytes) 0 in
    eight_make (bytes ++ zeros) (omega (arith, length-append bytes zeros, length-replicate {A = ℕ} (8 - length bytes) 0)) ∙ zeros_behind bytes (8 - length bytes)

-- so many bytes make less than one more would
pub low_bytes_bound : (bytes : List ℕ) → ((i : ℕ) → get_or bytes i 0 < 256) → from_low_bytes bytes < 256 ^ length bytes
low_bytes_bound [] fits = omega arith
low_bytes_bound (byte ∷ bytes) fits =
    let others = low_bytes_bound bytes (λ i. fits (suc i)) in
    rw pow-suc (omega (arith, others, fits 0))
