-- One key more.
use Rattle.std.proofs.Common.{[], ◌∷◌, ◌-◌, ◌++◌, length, take, drop, sym, ap, ◌∙◌, append_assoc, arith}
use Rattle.sled_node.specs.Payloads.Pairs.{keys_of}
use Rattle.sled_node.specs.Restoring.{restored}
use Rattle.sled_node.proofs.LeafStrings.{keys_on, key_short}
use Rattle.sled_node.proofs.node.leaf.Leaf.push_keys.Goals as goal

pub push-requires : goal.push-requires
push-requires c =
    let short = key_short c.args.self.now c.args.from c.loop-i.i c.pair.result.0.now c.pair.result.1.now (omega arith) c.pair.ensures c.args.front.now c.args.skipped c.args.to (omega arith) c.requires.short in
    omega (arith, short, ap length (c.as_slice.ensures ∙ c.in_ok-key.ensures.ok))

pub loop-i-preserved : goal.loop-i-preserved
loop-i-preserved c =
    let pairs = c.args.self.now in
    let front = c.args.front.now in
    let stored = drop c.args.skipped (front ++ c.pair.result.0.now) in
    let so_far = keys_of (restored front c.args.skipped (take (c.loop-i.i - c.args.from) (drop c.args.from pairs))) in
    c.in_ok-push.ensures.ok ∙ ap (λ key. c.loop-i.strings ++ key ∷ []) (c.as_slice.ensures ∙ c.in_ok-key.ensures.ok) ∙ ap (λ strings. strings ++ stored ∷ []) c.loop-i.invariant ∙ append_assoc c.args.strings.now so_far (stored ∷ []) ∙
    ap (λ rest. c.args.strings.now ++ rest) (sym (keys_on pairs c.args.from c.loop-i.i c.pair.result.0.now c.pair.result.1.now (omega arith) c.pair.ensures front c.args.skipped))
