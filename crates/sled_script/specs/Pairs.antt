-- How the words of a line encode pairs.
use Rattle.std.specs.Prelude.{◌≡◌, List, ◌++◌, Option, codes, map}
use Rattle.std.specs.List.{AllByRecursion}
use Rattle.sled_base.specs.Order.{Bytes}
use Rattle.sled_lines.specs.Words.{AreBytes, after_name, bytes_word}

-- a key, an equals sign, and a value
abbrev pub pair_word : Bytes × Bytes → Bytes
pair_word pair = bytes_word pair.0 ++ codes "=" ++ bytes_word pair.1

-- the words after a command's name encode these pairs, a word each
abbrev pub EncodePairs : Option Bytes → List (Bytes × Bytes) → Type 0
EncodePairs words pairs = words ≡ after_name (map pair_word pairs)

abbrev pub IsPairOfBytes : Bytes × Bytes → Type 0
IsPairOfBytes pair = AreBytes pair.0 × AreBytes pair.1

abbrev pub ArePairs : List (Bytes × Bytes) → Type 0
ArePairs pairs = AllByRecursion IsPairOfBytes pairs
