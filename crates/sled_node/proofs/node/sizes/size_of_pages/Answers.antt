use Rattle.std.proofs.Common.{arith}
use Rattle.sled_node.proofs.Sizes.{index_so_far, index_strings}
use Rattle.sled_node.proofs.node.sizes.size_of_pages.Goals as goal

pub overflow_add-size-in-loop-pair : goal.overflow_add-size-in-loop-pair
overflow_add-size-in-loop-pair c =
    let strings = index_strings c.args.pairs.now c.requires c.loop-pair.pair-index c.pair-item.result c.loop-pair-test.true c.pair-item.is in
    omega (arith, index_so_far c.args.pairs.now c.requires c.loop-pair.pair-index, c.loop-pair.invariant, strings, c.len.ensures)

pub returns-clause-bound : goal.returns-clause-bound
returns-clause-bound c = omega (arith, index_so_far c.args.pairs.now c.requires c.loop-pair.pair-index, c.loop-pair.invariant)
