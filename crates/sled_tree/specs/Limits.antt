-- The most pairs of a leaf, and the most children of an index.
use Rattle.std.specs.Prelude.{ℕ, max, min}

-- the nearest number from 4 to 65,536: the number itself if it is in this range
abbrev pub nearest : ℕ → ℕ
nearest number = max 4 (min number 65536)
