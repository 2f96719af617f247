use Rattle.std.proofs.Common.{◌<◌, length, arith}
use Rattle.std.proofs.lemmas.Option.{slice_get_within}
use Rattle.sled_node.specs.Node.{Child}
use Rattle.sled_search.proofs.Counts.{leading-count, none-counted}
use Rattle.sled_search.proofs.bounds.count_up_to.Goals as goal

pub returns-then-not-has_child_for : goal.returns-then-not-has_child_for
returns-then-not-has_child_for c = none-counted c.args.node.now.pairs c.args.key.now c.data.ensures.well_formed.ascending (λ begins. grind (arith, c.has_child_for.ensures.1 (c.requires.index, c.requires.range, begins), c.if-not-has_child_for.true))

pub overflow_add-result : goal.overflow_add-result
overflow_add-result c =
    let is = c.index_next_node-at.ensures in
    let lt : c.index_next_node-at.result.0 < length c.args.node.now.pairs = slice_get_within c.args.node.now.pairs c.index_next_node-at.result.0 (is.found, Child c.index_next_node-at.result.1) is.here in
    omega (arith, lt, c.data.ensures.well_formed.few)

pub returns : goal.returns
returns c =
    let is = c.index_next_node-at.ensures in
    let lt : c.index_next_node-at.result.0 < length c.args.node.now.pairs = slice_get_within c.args.node.now.pairs c.index_next_node-at.result.0 (is.found, Child c.index_next_node-at.result.1) is.here in
    leading-count c.args.node.now.pairs c.args.key.now c.index_next_node-at.result.0 (Child c.index_next_node-at.result.1) c.data.ensures.well_formed.ascending lt is
