-- One value more.
use Rattle.std.proofs.Common.{[], ◌∷◌, ◌-◌, ◌++◌, take, drop, sym, ap, ◌∙◌, append_assoc, arith}
use Rattle.sled_node.specs.Payloads.Pairs.{items_of}
use Rattle.sled_node.proofs.LeafStrings.{items_on}
use Rattle.sled_node.proofs.node.leaf.Leaf.push_values.Goals as goal

pub loop-i-preserved : goal.loop-i-preserved
loop-i-preserved c =
    let pairs = c.args.self.now in
    let key = c.pair.result.0.now in
    let value = c.pair.result.1.now in
    let so_far = items_of (take (c.loop-i.i - c.args.from) (drop c.args.from pairs)) in
    c.in_ok-push.ensures.ok ∙ ap (λ strings. strings ++ value ∷ []) c.loop-i.invariant ∙ append_assoc c.args.strings.now so_far (value ∷ []) ∙ ap (λ rest. c.args.strings.now ++ rest) (sym (items_on pairs c.args.from c.loop-i.i key value (omega arith) c.pair.ensures))
