-- How numbers are encoded.
use Rattle.std.specs.Prelude.{◌≡◌, ℕ, zero, suc, ◌+◌, ◌-◌, ◌*◌, ◌/◌, ◌%◌, ◌^◌, ◌≤◌, ℤ, Bool, true, false, not, ◌==◌, List, [], ◌∷◌, ◌++◌, length, nat_le, nat_lt, if◌then◌else◌}
use Rattle.std.specs.Int.{w64, cast_signed, cast_unsigned}

-- the number that the bytes encode, the lowest byte first
abbrev pub from_low_bytes : List ℕ → ℕ
from_low_bytes [] = 0
from_low_bytes (byte ∷ bytes) = byte + 256 * from_low_bytes bytes

-- An encoding of a number, by its number of bytes. One byte is the number itself, two bytes start from 240, and three from 2288.
-- In a longer encoding 3 to 8 bytes of any value follow the first byte.
abbrev pub EncodesU64 : List ℕ → ℕ → Type 0
EncodesU64 [] n = ⊥
EncodesU64 (b ∷ []) n = (b ≤ 240) × (n ≡ b)
EncodesU64 (b ∷ c ∷ []) n = (241 ≤ b) × (b ≤ 248) × (n ≡ 240 + 256 * (b - 241) + c)
EncodesU64 (b ∷ c ∷ d ∷ []) n = (b ≡ 249) × (n ≡ 2288 + 256 * c + d)
EncodesU64 (b ∷ c ∷ d ∷ e ∷ bytes) n = (b ≤ 255) × (b ≡ 250 + length bytes) × (n ≡ from_low_bytes (c ∷ d ∷ e ∷ bytes))

-- the input is an encoding of the number, followed by the rest
abbrev pub ReadsU64 : List ℕ → ℕ → List ℕ → Type 0
ReadsU64 input n rest = (encoding : List ℕ) × (input ≡ encoding ++ rest) × EncodesU64 encoding n

-- the given number of low bytes of a number, the lowest first
abbrev pub low_bytes : ℕ → ℕ → List ℕ
low_bytes zero n = []
low_bytes (suc count) n = n % 256 ∷ low_bytes count (n / 256)

-- how many bytes are written for a number above 67823: the least of 3 to 8 that hold it
abbrev pub byte_count : ℕ → ℕ
byte_count n =
    if nat_lt n (2 ^ 24) then 3 else
    if nat_lt n (2 ^ 32) then 4 else
    if nat_lt n (2 ^ 40) then 5 else
    if nat_lt n (2 ^ 48) then 6 else
    if nat_lt n (2 ^ 56) then 7 else 8

-- the encoding that is written
abbrev pub written_u64 : ℕ → List ℕ
written_u64 n =
    if nat_le n 240 then n ∷ [] else
    if nat_le n 2287 then (241 + (n - 240) / 256) ∷ (n - 240) % 256 ∷ [] else
    if nat_le n 67823 then 249 ∷ (n - 2288) / 256 ∷ (n - 2288) % 256 ∷ [] else
    (247 + byte_count n) ∷ low_bytes (byte_count n) n

-- a number in the given number of bytes, the lowest first
abbrev pub ReadsLow : ℕ → List ℕ → ℕ → List ℕ → Type 0
ReadsLow count input n rest = (bytes : List ℕ) × (input ≡ bytes ++ rest) × (length bytes ≡ count) × (n ≡ from_low_bytes bytes)

-- a signed number, by the 64 bits of its two's complement
abbrev pub ReadsI64 : List ℕ → ℤ → List ℕ → Type 0
ReadsI64 input n rest = (bits : ℕ) × ReadsLow 8 input bits rest × (n ≡ cast_signed w64 bits)

abbrev pub written_i64 : ℤ → List ℕ
written_i64 n = low_bytes 8 (cast_unsigned w64 n)

-- a byte by itself
abbrev pub ReadsU8 : List ℕ → ℕ → List ℕ → Type 0
ReadsU8 input n rest = input ≡ n ∷ rest

abbrev pub written_u8 : ℕ → List ℕ
written_u8 n = n ∷ []

-- 0 is false, any other byte is true
abbrev pub ReadsBool : List ℕ → Bool → List ℕ → Type 0
ReadsBool input value rest = (byte : ℕ) × (input ≡ byte ∷ rest) × (value ≡ not (byte == 0))

abbrev pub written_bool : Bool → List ℕ
written_bool false = 0 ∷ []
written_bool true = 1 ∷ []
