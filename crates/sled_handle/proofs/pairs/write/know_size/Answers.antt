-- Every node is well-formed.
use Rattle.sled_handle.proofs.NodeBytes.{node_fits}
use Rattle.sled_handle.proofs.pairs.write.know_size.Goals as goal

pub returns : goal.returns
returns c = node_fits c.args.node.now c.data-data.ensures.well_formed
