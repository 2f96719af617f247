-- Where no short byte string is read.
use Rattle.std.proofs.Common.{ℕ, ◌≤◌, ◌^◌, List, length, ap, arith}
use Rattle.sled_base.specs.Payloads.Reading.{ReadsNoValue}
use Rattle.sled_base.specs.Payloads.ByteStrings.{ReadsBytes}
use Rattle.sled_base.specs.Payloads.ByteStringLaws.{Bytes-grammar}
use Rattle.sled_node.specs.Payloads.ShortStrings.{ReadsShort}

-- what is read is longer than a short string
pub not_short : (input text rest : List ℕ) → ReadsBytes input text rest → 2 ^ 31 ≤ length text → ReadsNoValue ReadsShort input
not_short input text rest read long bytes others found =
    let same = Bytes-grammar.one_reading input text bytes rest others read found.0 in
    omega (arith, ap length same.0, long, found.1)
