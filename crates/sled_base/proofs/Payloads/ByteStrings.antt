-- Where no byte string is read.
use Rattle.std.proofs.Common.{ℕ, ◌<◌, List, length, ap, arith}
use Rattle.std.proofs.lemmas.List.{length-append}
use Rattle.sled_base.specs.Payloads.Reading.{ReadsNoValue}
use Rattle.sled_base.specs.Payloads.Numbers.{ReadsU64}
use Rattle.sled_base.specs.Payloads.NumberLaws.{U64-grammar}
use Rattle.sled_base.specs.Payloads.ByteStrings.{ReadsBytes}

pub no_length : (input : List ℕ) → ReadsNoValue ReadsU64 input → ReadsNoValue ReadsBytes input
no_length input nothing bytes rest found = nothing (length bytes) found.0 found.1

-- the length passes the end
pub too_long : (input : List ℕ) (len : ℕ) (middle : List ℕ) → ReadsU64 input len middle → length middle < len → ReadsNoValue ReadsBytes input
too_long input len middle read long bytes rest found =
    let same = U64-grammar.one_reading input len (length bytes) middle found.0 read found.1 in
    omega (arith, same.0, long, ap length same.1, ap length found.2, length-append bytes rest)
