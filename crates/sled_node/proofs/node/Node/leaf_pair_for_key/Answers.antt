use Rattle.sled_node.proofs.StoredPairs.{found_pair}
use Rattle.sled_node.proofs.Nearest.{gap_lacks}
use Rattle.sled_node.proofs.node.Node.leaf_pair_for_key.Goals as goal

pub returns-in-Ok-clause-key : goal.returns-in-Ok-clause-key
returns-in-Ok-clause-key c = (found_pair c.args.self.now c.args.key.now c.in-Ok.at c.leaf_pair.result.0.now c.leaf_pair.result.1.now c.leaf_pair.ensures.there c.in-Ok.ensures.same).0

pub returns-in-Ok-clause-value : goal.returns-in-Ok-clause-value
returns-in-Ok-clause-value c = (found_pair c.args.self.now c.args.key.now c.in-Ok.at c.leaf_pair.result.0.now c.leaf_pair.result.1.now c.leaf_pair.ensures.there c.in-Ok.ensures.same).1

pub returns-in-Err-clause-absent : goal.returns-in-Err-clause-absent
returns-in-Err-clause-absent c = gap_lacks c.args.key.now c.args.self.now.pairs c.in-Err.field-0 c.in-Err.ensures.missing
