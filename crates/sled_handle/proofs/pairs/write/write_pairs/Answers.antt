-- Each turn writes the next pair behind those so far.
use Rattle.std.proofs.Common.{◌≡◌, ◌+◌, ◌++◌, drop, sym, ap, ◌∙◌, arith}
use Rattle.std.specs.List.{flat_map}
use Rattle.sled_node.specs.Parts.{item_of}
use Rattle.sled_node.proofs.Payloads.WriteAll.{writes_on}
use Rattle.sled_handle.specs.Pairs.{item_bytes, node_bytes}
use Rattle.sled_handle.proofs.pairs.write.write_pairs.Goals as goal

pub loop-i-preserved : goal.loop-i-preserved
loop-i-preserved c =
    let so_far = c.loop-i.invariant in
    let node = c.args.node.now in
    let rest = c.pair_at.result.0.now in
    let item = item_of c.pair_at.result.1 in
    let now = item_bytes (c.prefix_of-front.result.now ++ rest, item) in
    let others = flat_map item_bytes (drop (c.loop-i.i + 1) node.pairs) in
    let left : flat_map item_bytes (drop c.loop-i.i node.pairs) ≡ now ++ others =
    ap (flat_map item_bytes) c.pair_at.ensures.next ∙ ap (λ front. item_bytes (front ++ rest, item) ++ others) (sym c.prefix_of-front.ensures) in
    let wrote = writes_on c.loop-i.out c.put_item-end.new.out c.args.out.now now others (flat_map item_bytes (drop c.loop-i.i node.pairs)) (node_bytes node) c.loop-i.end c.put_item-end.result
    left (omega (arith, c.requires, c.loop-i.auto.out)) so_far.size so_far.front so_far.back c.put_item-end.ensures.end c.put_item-end.ensures.bytes in
    record { size = wrote.0; front = wrote.1; back = wrote.2 }
