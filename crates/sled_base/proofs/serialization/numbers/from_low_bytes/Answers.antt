use Rattle.std.proofs.Common.{◌<◌, ◌^◌, length, ap, sym, subst, ◌∙◌, arith}
use Rattle.std.specs.Int.{w64, from_le_bytes}
use Rattle.sled_base.proofs.Payloads.LowBytes.{padded_make, low_bytes_bound}
use Rattle.sled_base.proofs.serialization.numbers.from_low_bytes.Goals as goal

pub returns-clause-value : goal.returns-clause-value
returns-clause-value c = c.from_le_bytes.ensures ∙ ap (from_le_bytes w64) c.padded.ensures ∙ padded_make c.args.bytes.now c.requires

pub returns-clause-bound : goal.returns-clause-bound
returns-clause-bound c = subst (λ n. n < 256 ^ length c.args.bytes.now) (sym (returns-clause-value c)) (low_bytes_bound c.args.bytes.now (λ i. omega (arith, c.type_inv.bytes i)))
