-- A text that is split at the first place of a byte.
use Rattle.std.specs.Prelude.{◌≡◌, ◌≢◌, ℕ, ◌∷◌, ◌++◌, length, slice_index, Option, None, Some}
use Rattle.std.specs.List.{AllByRecursion}
use Rattle.sled_base.specs.Order.{Bytes}

-- the byte isn't in the text
abbrev pub HasNo : ℕ → Bytes → Type 0
HasNo mark text = AllByRecursion (λ byte. byte ≡ mark → ⊥) text

-- the text is this front, followed by the mark and the rest, if there is a rest
abbrev pub IsCutAt : ℕ → Bytes → Bytes → Option Bytes → Type 0
IsCutAt mark text front None = HasNo mark front × (text ≡ front)
IsCutAt mark text front (Some rest) = HasNo mark front × (text ≡ front ++ mark ∷ rest)

-- there is no leading plus sign, and no leading zero before other characters
abbrev pub HasPlainFront : Bytes → Type 0
HasPlainFront word = (slice_index word 0 ≢ 43) × (slice_index word 0 ≡ 48 → length word ≡ 1)
