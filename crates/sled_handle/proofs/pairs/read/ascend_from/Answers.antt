-- Each turn reads the first pair of what is left.
use Rattle.std.proofs.Common.{◌≡◌, true, length, ap, arith}
use Rattle.std.proofs.lemmas.List.{length-append}
use Rattle.std.specs.Ordering.{is_lt}
use Rattle.sled_base.specs.Order.{Bytes, IsBelow, is_below}
use Rattle.sled_handle.specs.Pairs.{pair_bytes}
use Rattle.sled_handle.proofs.PairBytes.{is_some, no_pairs, one_less_above}
use Rattle.sled_handle.proofs.pairs.read.ascend_from.Goals as goal

below : (a b : Bytes) → IsBelow a b → is_below a b ≡ true
below a b is = ap is_lt is

pub loop-last-init : goal.loop-last-init
loop-last-init c = λ pairs encode above. (pairs, encode, above)

pub returns-in_default : goal.returns-in_default
returns-in_default c = λ is pairs encode above.
    let left = c.loop-last.invariant pairs encode above in
    no_pairs c.loop-last.left.now (is_some _ _ c.is_empty.ensures c.loop-last-test.true) c.in_default.ensures.none left.0 left.1

pub returns-then-not-is_below : goal.returns-then-not-is_below
returns-then-not-is_below c = λ is pairs encode above.
    let left = c.loop-last.invariant pairs encode above in
    let one = one_less_above c.loop-last.left.now c.in-Some.behind.now c.loop-last.last.now (c.in-Some.key.now, c.in-Some.field-0-1.now) left.0 c.in-Some.ensures.some left.1 left.2 in
    let e = below c.loop-last.last.now c.in-Some.key.now one.1 in
    let f = c.is_below.ensures in
    let g = c.if-not-is_below.true in
    cc

pub loop-last-smaller : goal.loop-last-smaller
loop-last-smaller c =
    let read = c.in-Some.ensures.some in
    omega (arith, ap length read.1, length-append (pair_bytes (c.in-Some.key.now, c.in-Some.field-0-1.now)) c.in-Some.behind.now)

pub loop-last-preserved : goal.loop-last-preserved
loop-last-preserved c = λ pairs encode above.
    let left = c.loop-last.invariant pairs encode above in
    let one = one_less_above c.loop-last.left.now c.in-Some.behind.now c.loop-last.last.now (c.in-Some.key.now, c.in-Some.field-0-1.now) left.0 c.in-Some.ensures.some left.1 left.2 in
    (one.0, one.2, one.3)
