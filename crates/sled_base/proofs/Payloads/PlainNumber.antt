-- What the plain reader of a number finds is what the grammar reads.
use Rattle.std.proofs.Common.{◌≡◌, ℕ, ◌<◌, List, get_or, Option, Some, None, sym, Bor}
use Rattle.std.specs.Prelude.{IfSome, IfNone}
use Rattle.std.specs.Option.{option_map}
use Rattle.sled_base.specs.Payloads.Reading.{ReadsNoValue}
use Rattle.sled_base.specs.Payloads.Numbers.{ReadsU64}
use Rattle.sled_base.specs.Payloads.PlainNumbers.{u64_at}
use Rattle.sled_base.specs.Payloads.NumberLaws.{U64-complete, encoding_read}

pub is_read : (input : List ℕ) (r : Option (ℕ × Bor (List ℕ))) → get_or input 0 0 < 256 → option_map (λ x. (x.0, x.1.now)) r ≡ u64_at input → IfSome r (λ x. ReadsU64 input x.0 x.1.now)
is_read input None byte is = tt
is_read input (Some x) byte is = encoding_read input x.0 x.1.now byte (sym is)

pub is_nothing : (input : List ℕ) (r : Option (ℕ × Bor (List ℕ))) → option_map (λ x. (x.0, x.1.now)) r ≡ u64_at input → IfNone r (ReadsNoValue ReadsU64 input)
is_nothing input None is = λ n rest found. let read = U64-complete input n rest found in absurd cc
is_nothing input (Some x) is = tt
