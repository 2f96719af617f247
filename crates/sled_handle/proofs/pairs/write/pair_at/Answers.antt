-- The pair stands at its place, and the node is well-formed.
use Rattle.sled_handle.proofs.NodeBytes.{next_pair, short_at}
use Rattle.sled_handle.proofs.pairs.write.pair_at.Goals as goal

pub returns-clause-next : goal.returns-clause-next
returns-clause-next c = next_pair c.args.node.now.pairs c.args.i _ c.pair.ensures

pub returns-clause-short : goal.returns-clause-short
returns-clause-short c = short_at c.args.node.now c.args.i _ c.data-data.ensures.well_formed c.pair.ensures
