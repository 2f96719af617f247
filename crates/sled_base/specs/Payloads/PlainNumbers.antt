-- A plain reader of a number, which computes the grammar.
use Rattle.std.specs.Prelude.{ℕ, ◌+◌, ◌-◌, ◌*◌, List, [], ◌∷◌, length, take, drop, Option, Some, None, nat_le, nat_lt, ◌==◌, if◌then◌else◌}
use Rattle.sled_base.specs.Payloads.Numbers.{from_low_bytes}

-- the number and the rest after a first byte of 241 to 248, of 249, and above
abbrev pub after_one : ℕ → List ℕ → Option (ℕ × List ℕ)
after_one b [] = None
after_one b (c ∷ rest) = Some (240 + 256 * (b - 241) + c, rest)

abbrev pub after_two : List ℕ → Option (ℕ × List ℕ)
after_two [] = None
after_two (c ∷ []) = None
after_two (c ∷ d ∷ rest) = Some (2288 + 256 * c + d, rest)

abbrev pub after_many : ℕ → List ℕ → Option (ℕ × List ℕ)
after_many count bytes = if nat_lt (length bytes) count then None else Some (from_low_bytes (take count bytes), drop count bytes)

-- the number at the front and the rest, if there is one
unfoldable pub u64_at : List ℕ → Option (ℕ × List ℕ)
u64_at [] = None
u64_at (b ∷ bytes) =
    if nat_le b 240 then Some (b, bytes) else
    if nat_le b 248 then after_one b bytes else
    if b == 249 then after_two bytes else
    after_many (b - 247) bytes
