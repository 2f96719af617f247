use Rattle.std.proofs.Common.{◌++◌, ap, ◌∙◌, arith}
use Rattle.sled_node.specs.Payloads.Pairs.{keys_of, items_of}
use Rattle.sled_node.specs.Payloads.DataLaws.{leaf_can_write}
use Rattle.sled_node.proofs.Payloads.Sizes.{leaf_size}
use Rattle.sled_node.proofs.LeafStrings.{is_leaf, paired_so}
use Rattle.sled_node.proofs.node.leaf.Leaf.of_pairs.Goals as goal

pub size_of_pairs-room-requires-clause-can_write : goal.size_of_pairs-room-requires-clause-can_write
size_of_pairs-room-requires-clause-can_write c = leaf_can_write c.args.pairs.now c.requires

pub size_of_pairs-room-requires-clause-fits : goal.size_of_pairs-room-requires-clause-fits
size_of_pairs-room-requires-clause-fits c = omega (arith, leaf_size c.args.pairs.now c.requires)

pub invariant_of-result : goal.invariant_of-result
invariant_of-result c =
    let pairs = c.args.pairs.now in
    let are = c.build.ensures ∙ c.in_ok-push_values.ensures ∙ ap (λ strings. strings ++ items_of pairs) (c.in_ok-push_keys.ensures ∙ ap (λ strings. strings ++ keys_of pairs) c.in_ok-strings.ensures) in
    is_leaf pairs c.build.result are c.requires

pub returns : goal.returns
returns c =
    let pairs = c.args.pairs.now in
    let are = c.build.ensures ∙ c.in_ok-push_values.ensures ∙ ap (λ strings. strings ++ items_of pairs) (c.in_ok-push_keys.ensures ∙ ap (λ strings. strings ++ keys_of pairs) c.in_ok-strings.ensures) in
    paired_so pairs c.build.result are
