use Rattle.std.proofs.Common.{refl, arith}
use Rattle.sled_node.proofs.Ascending.{ascending_here, must_rise_here}
use Rattle.sled_node.proofs.node.pairs.are_ascending.Goals as goal

-- where the test fails, ascending pairs would pass it
pub returns-then-not-is_below : goal.returns-then-not-is_below
returns-then-not-is_below g c =
    let tested = rw (c.as_slice.ensures, c.as_slice-in-loop-i.ensures) at c.if-not-is_below.ensures in
    (λ h. absurd cc, λ ascending. tested.1 (must_rise_here c.args.pairs.now c.loop-i.i c.index-pairs-i.result c.index-pairs-i-in-loop-i.result (omega arith) c.loop-i-test.true ascending))

-- where it passes, one pair more rises
pub loop-i-preserved : goal.loop-i-preserved
loop-i-preserved g c =
    let tested = rw (c.as_slice.ensures, c.as_slice-in-loop-i.ensures) at c.if-not-is_below.ensures in
    ascending_here c.args.pairs.now c.loop-i.i c.index-pairs-i.result c.index-pairs-i-in-loop-i.result (omega arith) c.loop-i-test.true c.loop-i.invariant (tested.0 refl)
