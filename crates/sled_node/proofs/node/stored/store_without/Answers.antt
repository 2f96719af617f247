use Rattle.std.proofs.Common.{◌++◌, set, get_or, drop, sym, ap, ◌∙◌, arith}
use Rattle.std.proofs.lemmas.List.Edits.{map_over_more}
use Rattle.sled_base.specs.Order.{Bytes}
use Rattle.sled_node.proofs.Prefixes.{restored_same}
use Rattle.sled_node.proofs.node.stored.store_without.Goals as goal

pub returns-then-skipped-front : goal.returns-then-skipped-front
returns-then-skipped-front g c = sym (restored_same c.args.front.now c.args.skipped c.args.pairs.now.items c.if-skipped-front.true)

-- one key more lacks them
pub loop-pair-preserved : goal.loop-pair-preserved
loop-pair-preserved g c =
    let front = c.args.front.now in
    let items = c.loop-pair.pair-items in
    let at = c.loop-pair.pair-index in
    let pair = c.pair-item.result in
    let store : Bytes × g.row.V.Denot → Bytes × g.row.V.Denot = λ p. (drop c.args.skipped (front ++ p.0), p.1) in
    ap (λ (key : Bytes). set items at (key, (get_or items at pair).1)) c.in_ok-pair.ensures ∙ ap (λ (p : Bytes × g.row.V.Denot). set items at (store p)) (sym c.pair-item.is) ∙ map_over_more store c.deref_mut-pair-items.result.now items at pair (omega arith) c.loop-pair.invariant c.pair-item.is
