use Rattle.std.proofs.Common.{length, ap, arith}
use Rattle.sled_node.specs.Payloads.Nodes.{written_node}
use Rattle.sled_node.proofs.Payloads.Sizes.{data_size}
use Rattle.sled_node.proofs.Payloads.Nodes.{parts_of, whole_length, parts_stored, head_size, bounds_size}
use Rattle.sled_node.proofs.node.payload.NodeSerialize.serialized_size.Goals as goal

pub size_of_three-head-requires-clause-fits : goal.size_of_three-head-requires-clause-fits
size_of_three-head-requires-clause-fits c = omega (arith, head_size (parts_of c.self.inside))

pub size_of_three-bounds-requires-clause-fits : goal.size_of_three-bounds-requires-clause-fits
size_of_three-bounds-requires-clause-fits c = omega (arith, bounds_size (parts_of c.self.inside) c.self.invariant)

pub returns : goal.returns
returns c =
    let whole = whole_length (parts_of c.self.inside) c.self.invariant in
    omega (arith, whole, ap (λ m. length (written_node m)) c.self.view_is, c.size_of_three-head.ensures, c.size_of_three-bounds.ensures, c.serialized_size.ensures)

pub overflow_add-result : goal.overflow_add-result
overflow_add-result c =
    let parts = parts_of c.self.inside in
    omega (arith, head_size parts, bounds_size parts c.self.invariant, c.size_of_three-head.ensures, c.size_of_three-bounds.ensures)

pub overflow_add-result-2 : goal.overflow_add-result-2
overflow_add-result-2 c =
    let parts = parts_of c.self.inside in
    let pairs = data_size parts.2 (parts_stored parts c.self.invariant) in
    omega (arith, head_size parts, bounds_size parts c.self.invariant, pairs, c.size_of_three-head.ensures, c.size_of_three-bounds.ensures, c.serialized_size.ensures)
