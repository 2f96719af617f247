-- Every node is well-formed.
use Rattle.sled_handle.proofs.ReadAgain.{read_again}
use Rattle.sled_handle.proofs.laws.pairs_are_read_again.Goals as goal

pub returns : goal.returns
returns c = read_again c.args.node.now c.data-data.ensures.well_formed
