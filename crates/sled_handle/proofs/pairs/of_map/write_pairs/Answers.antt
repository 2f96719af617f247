-- Each turn writes the next pair behind those so far.
use Rattle.std.proofs.Common.{◌≡◌, ◌+◌, ◌++◌, drop, ap, subst, arith}
use Rattle.std.specs.List.{AllByRecursion, flat_map}
use Rattle.sled_node.proofs.Payloads.WriteAll.{next_is, writes_on}
use Rattle.sled_handle.specs.Pairs.{IsShort, pair_bytes}
use Rattle.sled_handle.proofs.pairs.of_map.write_pairs.Goals as goal

pub loop-pair-preserved : goal.loop-pair-preserved
loop-pair-preserved c =
    let so_far = c.loop-pair.invariant in
    let pairs = c.args.pairs.now in
    let i = c.loop-pair.pair-index in
    let pair = c.pair-item.result in
    let next = next_is pairs i pair c.loop-pair-test.true c.pair-item.is in
    let others = flat_map pair_bytes (drop (i + 1) pairs) in
    let left : flat_map pair_bytes (drop i pairs) ≡ pair_bytes pair ++ others = ap (flat_map pair_bytes) next in
    let wrote = writes_on c.loop-pair.out c.put_at-end.new.out c.args.out.now (pair_bytes pair) others (flat_map pair_bytes (drop i pairs)) (flat_map pair_bytes pairs) c.loop-pair.end c.put_at-end.result
    left (omega (arith, c.requires.room, c.loop-pair.auto.out)) so_far.size so_far.front so_far.back c.put_at-end.ensures.end c.put_at-end.ensures.bytes in
    record { size = wrote.0; front = wrote.1; back = wrote.2; short = (subst (AllByRecursion IsShort) next so_far.short).1 }
