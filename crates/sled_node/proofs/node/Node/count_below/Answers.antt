use Rattle.sled_node.proofs.Nearest.{found_below, gap_below}
use Rattle.sled_node.proofs.node.Node.count_below.Goals as goal

pub returns-in-Ok : goal.returns-in-Ok
returns-in-Ok c = found_below c.args.key.now c.args.self.now.pairs c.in-Ok.at c.in-Ok.ensures.found c.in-Ok.ensures.same

pub returns-in-Err : goal.returns-in-Err
returns-in-Err c = gap_below c.args.key.now c.args.self.now.pairs c.in-Err.at c.in-Err.ensures.missing
