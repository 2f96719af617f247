use Rattle.std.proofs.Common.{arith}
use Rattle.sled_node.proofs.Nearest.{found_up_to, gap_up_to}
use Rattle.sled_node.proofs.node.Node.count_up_to.Goals as goal

pub overflow_add-result : goal.overflow_add-result
overflow_add-result c = omega (arith, c.in-Ok.ensures.found.within, c.place_of_whole_key.ensures.well_formed.few)

pub returns-in-Ok : goal.returns-in-Ok
returns-in-Ok c = found_up_to c.args.key.now c.args.self.now.pairs c.in-Ok.at c.in-Ok.ensures.found c.in-Ok.ensures.same

pub returns-in-Err : goal.returns-in-Err
returns-in-Err c = gap_up_to c.args.key.now c.args.self.now.pairs c.in-Err.at c.in-Err.ensures.missing
