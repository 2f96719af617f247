use Rattle.std.proofs.Common.{ap, subst, arith}
use Rattle.std.specs.List.{flat_map, AllByRecursion}
use Rattle.sled_node.specs.Payloads.Pairs.{items_of}
use Rattle.sled_node.proofs.Payloads.WriteAll.{writes_on, next_is}
use Rattle.sled_node.proofs.serialization.pairs.write_items.Goals as goal

pub loop-pair-preserved : goal.loop-pair-preserved
loop-pair-preserved g c =
    let so_far = c.loop-pair.invariant in
    let step = next_is c.args.pairs.now c.loop-pair.pair-index c.pair-item.result c.loop-pair-test.true c.pair-item.is in
    let can = subst (λ rest. AllByRecursion g.V.Serialize.can_write (items_of rest)) step so_far.can_write in
    let wrote = writes_on c.loop-pair.out c.write_at-end.new.out c.args.out.now (g.V.Serialize.written c.pair-item.result.1) _ _ _ c.loop-pair.end c.write_at-end.result
    (ap (λ rest. flat_map g.V.Serialize.written (items_of rest)) step) (omega (arith, c.requires.room, c.loop-pair.auto.out)) so_far.size so_far.front so_far.back c.write_at-end.ensures.size c.write_at-end.ensures.bytes in
    record { size = wrote.0; front = wrote.1; back = wrote.2; can_write = can.1 }
