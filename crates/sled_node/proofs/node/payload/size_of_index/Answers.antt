use Rattle.std.proofs.Common.{◌<◌, ◌^◌, length, sym, subst, arith}
use Rattle.sled_base.specs.Payloads.Numbers.{written_u64}
use Rattle.sled_node.specs.Payloads.Pairs.{CanWritePairs, written_pairs}
use Rattle.sled_node.specs.Payloads.DataLaws.{index_can_write}
use Rattle.sled_node.proofs.Payloads.Sizes.{index_size}
use Rattle.sled_node.proofs.node.payload.size_of_index.Goals as goal

pub size_of_pairs-requires-clause-can_write : goal.size_of_pairs-requires-clause-can_write
size_of_pairs-requires-clause-can_write c = subst (CanWritePairs (λ page. page < 2 ^ 64)) (sym c.pairs.ensures.value) (index_can_write _ c.pairs.ensures.stored)

pub size_of_pairs-requires-clause-fits : goal.size_of_pairs-requires-clause-fits
size_of_pairs-requires-clause-fits c = subst (λ pairs. length (written_pairs written_u64 pairs) < 2 ^ 64) (sym c.pairs.ensures.value) (omega (arith, index_size _ c.pairs.ensures.stored))

pub returns-clause-bound : goal.returns-clause-bound
returns-clause-bound c =
    let small : length (written_pairs written_u64 c.pairs.result.now) < 2 ^ 57 = subst (λ pairs. length (written_pairs written_u64 pairs) < 2 ^ 57) (sym c.pairs.ensures.value) (index_size _ c.pairs.ensures.stored) in
    omega (arith, small, c.size_of_pairs.ensures)
