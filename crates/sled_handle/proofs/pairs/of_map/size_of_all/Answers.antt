-- Nothing is left behind the last turn.
use Rattle.std.proofs.Common.{◌≡◌, length, drop, sym, ap, subst, arith}
use Rattle.std.specs.List.{AllByRecursion, flat_map}
use Rattle.std.proofs.lemmas.List.{drop_all}
use Rattle.sled_handle.specs.Pairs.{IsShort, pair_bytes}
use Rattle.sled_handle.proofs.pairs.of_map.size_of_all.Goals as goal

pub returns : goal.returns
returns c =
    let so_far = c.loop-pair.invariant in
    let none = drop_all c.loop-pair.pair-index c.args.pairs.now (omega (arith, c.loop-pair-test.false)) in
    let left : length (flat_map pair_bytes (drop c.loop-pair.pair-index c.args.pairs.now)) ≡ 0 = ap (λ pairs. length (flat_map pair_bytes pairs)) none in
    ((so_far.2 (subst (AllByRecursion IsShort) (sym none) tt), omega (arith, so_far.0, so_far.1, left)), omega (arith, so_far.0, left))
