use Rattle.std.proofs.Common.{◌≡◌, ◌-◌, ◌++◌, take, drop, sym, ap, ◌∙◌}
use Rattle.sled_node.specs.Payloads.Pairs.{keys_of, items_of}
use Rattle.sled_node.specs.Restoring.{restored}
use Rattle.sled_node.proofs.LeafStrings.{is_leaf, paired_so, items_restored}
use Rattle.sled_node.proofs.node.leaf.Leaf.restored.Goals as goal

pub invariant_of-result : goal.invariant_of-result
invariant_of-result c =
    let some = take (c.args.to - c.args.from) (drop c.args.from c.args.self.now) in
    let pairs = restored c.args.front.now c.args.skipped some in
    let are : c.build.result ≡ keys_of pairs ++ items_of pairs =
    c.build.ensures ∙ c.in_ok-push_values.ensures ∙ ap (λ strings. strings ++ items_of some) (c.in_ok-push_keys.ensures ∙ ap (λ strings. strings ++ keys_of pairs) c.in_ok-strings.ensures) ∙ ap (λ items. keys_of pairs ++ items) (sym (items_restored c.args.front.now c.args.skipped some)) in
    is_leaf pairs c.build.result are c.requires.stored

pub returns : goal.returns
returns c =
    let some = take (c.args.to - c.args.from) (drop c.args.from c.args.self.now) in
    let pairs = restored c.args.front.now c.args.skipped some in
    let are : c.build.result ≡ keys_of pairs ++ items_of pairs =
    c.build.ensures ∙ c.in_ok-push_values.ensures ∙ ap (λ strings. strings ++ items_of some) (c.in_ok-push_keys.ensures ∙ ap (λ strings. strings ++ keys_of pairs) c.in_ok-strings.ensures) ∙ ap (λ items. keys_of pairs ++ items) (sym (items_restored c.args.front.now c.args.skipped some)) in
    paired_so pairs c.build.result are
