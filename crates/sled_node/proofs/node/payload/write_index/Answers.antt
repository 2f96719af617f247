use Rattle.std.proofs.Common.{◌<◌, ◌^◌, sym, subst}
use Rattle.sled_node.specs.Payloads.Pairs.{CanWritePairs}
use Rattle.sled_node.specs.Payloads.DataLaws.{index_can_write}
use Rattle.sled_node.proofs.node.payload.write_index.Goals as goal

pub write_pairs-requires-clause-can_write : goal.write_pairs-requires-clause-can_write
write_pairs-requires-clause-can_write c = subst (CanWritePairs (λ page. page < 2 ^ 64)) (sym c.pairs.ensures.value) (index_can_write _ c.pairs.ensures.stored)
