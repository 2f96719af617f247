use Rattle.std.proofs.Common.{◌≡◌, [], ◌+◌, ◌-◌, ◌<◌, length, get_or, refl, sym, ap, ◌∙◌, arith}
use Rattle.std.proofs.lemmas.Option.{get_or_from_slice_get}
use Rattle.sled_base.specs.Order.{Bytes}
use Rattle.sled_node.specs.LeafStrings.{paired}
use Rattle.sled_node.proofs.Ascending.{ascending_here, must_rise_here}
use Rattle.sled_node.proofs.LeafStrings.{key_there, one_rises}
use Rattle.sled_node.proofs.node.leaf.are_rising.Goals as goal

pub loop-i-init : goal.loop-i-init
loop-i-init c =
    let strings = c.args.strings.now in
    let pairs = paired strings in
    let none : Bytes × Bytes = ([], []) in
    (one_rises pairs, sym (get_or_from_slice_get strings 0 c.get-last.result.now [] c.get-last.ensures) ∙ key_there pairs strings (sym c.requires) 0 [] none (omega (arith, c.pairs_in-count.ensures)))

-- where the test fails, ascending pairs would pass it
pub returns-then-not-is_below : goal.returns-then-not-is_below
returns-then-not-is_below c =
    let strings = c.args.strings.now in
    let pairs = paired strings in
    let i = c.loop-i.i in
    let none : Bytes × Bytes = ([], []) in
    let within : i < length pairs = omega (arith, c.pairs_in-count.ensures, c.loop-i-test.true) in
    let here : c.get-key.result.now ≡ (get_or pairs i none).0 = sym (get_or_from_slice_get strings i c.get-key.result.now [] c.get-key.ensures) ∙ key_there pairs strings (sym c.requires) i [] none within in
    let tested = rw (c.loop-i.invariant.1, here) at c.if-not-is_below.ensures in
    (λ h. absurd cc, λ ascending. tested.1 (must_rise_here pairs i none none (omega arith) within ascending))

-- where it passes, one pair more rises
pub loop-i-preserved : goal.loop-i-preserved
loop-i-preserved c =
    let strings = c.args.strings.now in
    let pairs = paired strings in
    let i = c.loop-i.i in
    let none : Bytes × Bytes = ([], []) in
    let within : i < length pairs = omega (arith, c.pairs_in-count.ensures, c.loop-i-test.true) in
    let here : c.get-key.result.now ≡ (get_or pairs i none).0 = sym (get_or_from_slice_get strings i c.get-key.result.now [] c.get-key.ensures) ∙ key_there pairs strings (sym c.requires) i [] none within in
    let tested = rw (c.loop-i.invariant.1, here) at c.if-not-is_below.ensures in
    let place : i + 1 - 1 ≡ i = omega arith in
    (ascending_here pairs i none none (omega arith) within c.loop-i.invariant.0 (tested.0 refl), here ∙ ap (λ k. (get_or pairs k none).0) (sym place))
