-- The laws of the encoding of short byte strings.
use Rattle.std.specs.Prelude.{ℕ, List}
use Rattle.std.proofs.Common.{arith}
use Rattle.sled_base.specs.Payloads.Reading.{IsGrammar}
use Rattle.sled_base.specs.Payloads.ReadingLaws.{Only-grammar}
use Rattle.sled_base.specs.Payloads.ByteStrings.{written_bytes, CanWriteBytes}
use Rattle.sled_base.specs.Payloads.ByteStringLaws.{Bytes-grammar}
use Rattle.sled_node.specs.Pairs.{IsWithinLimit}
use Rattle.sled_node.specs.Payloads.ShortStrings.{ReadsShort}

can_write_short : (bytes : List ℕ) → IsWithinLimit bytes → CanWriteBytes bytes × IsWithinLimit bytes
can_write_short bytes short = (omega arith, short)

pub Short-grammar : IsGrammar ReadsShort written_bytes IsWithinLimit (λ _ _. Unit {0}) 1
Short-grammar = Only-grammar IsWithinLimit IsWithinLimit can_write_short Bytes-grammar
