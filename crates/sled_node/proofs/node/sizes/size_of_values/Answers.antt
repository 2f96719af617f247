use Rattle.std.proofs.Common.{◌≡◌, ◌+◌, length, get_or, take, sym, ap, ◌∙◌, arith}
use Rattle.std.proofs.lemmas.List.{take_all}
use Rattle.std.proofs.lemmas.List.Sums.{sum_by_more}
use Rattle.std.proofs.lemmas.Option.{get_or_from_slice_get}
use Rattle.sled_base.specs.Order.{Bytes}
use Rattle.sled_node.specs.Sizes.{leaf_size}
use Rattle.sled_node.proofs.Sizes.{leaf_so_far, leaf_strings}
use Rattle.sled_node.proofs.node.sizes.size_of_values.Goals as goal

pub overflow_add-size-in-loop-i : goal.overflow_add-size-in-loop-i
overflow_add-size-in-loop-i c =
    let pair : Bytes × Bytes = (c.pair.result.0.now, c.pair.result.1.now) in
    let is : pair ≡ get_or c.args.leaf.now c.loop-i.i pair = sym (get_or_from_slice_get c.args.leaf.now c.loop-i.i pair pair c.pair.ensures) in
    let strings = leaf_strings c.args.leaf.now c.strings.ensures.stored c.loop-i.i pair (omega (arith, c.len-i-end.ensures, c.loop-i-test.true)) is in
    omega (arith, leaf_so_far c.args.leaf.now c.strings.ensures.stored c.loop-i.i, c.loop-i.invariant, strings.0, strings.1)

pub loop-i-preserved : goal.loop-i-preserved
loop-i-preserved c =
    let pair : Bytes × Bytes = (c.pair.result.0.now, c.pair.result.1.now) in
    let is : get_or c.args.leaf.now c.loop-i.i pair ≡ pair = get_or_from_slice_get c.args.leaf.now c.loop-i.i pair pair c.pair.ensures in
    let more = sum_by_more (λ p. length p.0 + length p.1) c.args.leaf.now c.loop-i.i pair (omega (arith, c.len-i-end.ensures, c.loop-i-test.true)) ∙ ap (λ (p : Bytes × Bytes). leaf_size (take c.loop-i.i c.args.leaf.now) + (length p.0 + length p.1)) is in
    omega (arith, more, c.loop-i.invariant)

pub returns-clause-value : goal.returns-clause-value
returns-clause-value c = c.loop-i.invariant ∙ ap leaf_size (take_all c.loop-i.i c.args.leaf.now (omega (arith, c.len-i-end.ensures, c.loop-i-test.false)))

pub returns-clause-bound : goal.returns-clause-bound
returns-clause-bound c = omega (arith, leaf_so_far c.args.leaf.now c.strings.ensures.stored c.loop-i.i, c.loop-i.invariant)
