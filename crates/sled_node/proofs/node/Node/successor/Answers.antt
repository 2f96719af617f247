use Rattle.std.proofs.lemmas.Option.{slice_get_within}
use Rattle.sled_node.specs.Node.{Value}
use Rattle.sled_node.specs.Neighbours.{IsBehind}
use Rattle.sled_node.proofs.Nearest.{is_least}
use Rattle.sled_node.proofs.node.Node.successor.Goals as goal

pub returns-clause-least : goal.returns-clause-least
returns-clause-least c =
    let n = c.args.self.now in
    let copy = c.in_ok-whole_pair in
    is_least (IsBehind c.args.bound.now) n c.first_behind-first.result copy.field-0 copy.ensures.well_formed.ascending (slice_get_within n.pairs c.first_behind-first.result (copy.field-0.0, Value copy.field-0.1) copy.ensures.there) copy.ensures.there c.first_behind-first.ensures
