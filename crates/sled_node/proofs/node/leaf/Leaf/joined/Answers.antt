use Rattle.std.proofs.Common.{◌++◌, sym, subst, ◌∙◌}
use Rattle.std.specs.List.{AllByRecursion}
use Rattle.sled_node.specs.Pairs.{IsWithinLimit}
use Rattle.sled_node.specs.Payloads.Pairs.{keys_of, items_of}
use Rattle.sled_node.specs.Restoring.{restored}
use Rattle.sled_node.proofs.Restoring.{all_parts}
use Rattle.sled_node.proofs.LeafStrings.{is_leaf, paired_so, all_taken, joined_strings}
use Rattle.sled_node.proofs.node.leaf.Leaf.joined.Goals as goal

pub push_keys-requires-clause-short : goal.push_keys-requires-clause-short
push_keys-requires-clause-short c =
    let left = restored c.args.front.now c.args.skipped c.args.self.now in
    let right = restored c.args.right_front.now c.args.skipped c.args.right.now in
    let both = all_parts (λ pair. IsWithinLimit pair.0) left right c.requires.keys in
    subst (λ pairs. AllByRecursion (λ pair. IsWithinLimit pair.0) (restored c.args.front.now c.args.skipped pairs)) (sym (all_taken c.args.self.now c.len-3.result c.len-3.ensures)) both.0

pub push_keys-requires-2-clause-short : goal.push_keys-requires-2-clause-short
push_keys-requires-2-clause-short c =
    let left = restored c.args.front.now c.args.skipped c.args.self.now in
    let right = restored c.args.right_front.now c.args.skipped c.args.right.now in
    let both = all_parts (λ pair. IsWithinLimit pair.0) left right c.requires.keys in
    subst (λ pairs. AllByRecursion (λ pair. IsWithinLimit pair.0) (restored c.args.right_front.now c.args.skipped pairs)) (sym (all_taken c.args.right.now c.len-4.result c.len-4.ensures)) both.1

pub invariant_of-result : goal.invariant_of-result
invariant_of-result c =
    let left = restored c.args.front.now c.args.skipped c.args.self.now in
    let right = restored c.args.right_front.now c.args.skipped c.args.right.now in
    let one = c.in_ok-push_keys.ensures ∙ (λ i. c.in_ok-strings.ensures i ++ keys_of (restored c.args.front.now c.args.skipped (all_taken c.args.self.now c.len-3.result c.len-3.ensures i))) in
    let two = c.in_ok-push_keys-2.ensures ∙ (λ i. one i ++ keys_of (restored c.args.right_front.now c.args.skipped (all_taken c.args.right.now c.len-4.result c.len-4.ensures i))) in
    let three = c.in_ok-push_values.ensures ∙ (λ i. two i ++ items_of (all_taken c.args.self.now c.len-5.result c.len-5.ensures i)) in
    let four = c.in_ok-push_values-2.ensures ∙ (λ i. three i ++ items_of (all_taken c.args.right.now c.len-6.result c.len-6.ensures i)) in
    is_leaf (left ++ right) c.build.result (c.build.ensures ∙ four ∙ joined_strings c.args.front.now c.args.right_front.now c.args.skipped c.args.self.now c.args.right.now) c.requires

pub returns : goal.returns
returns c =
    let left = restored c.args.front.now c.args.skipped c.args.self.now in
    let right = restored c.args.right_front.now c.args.skipped c.args.right.now in
    let one = c.in_ok-push_keys.ensures ∙ (λ i. c.in_ok-strings.ensures i ++ keys_of (restored c.args.front.now c.args.skipped (all_taken c.args.self.now c.len-3.result c.len-3.ensures i))) in
    let two = c.in_ok-push_keys-2.ensures ∙ (λ i. one i ++ keys_of (restored c.args.right_front.now c.args.skipped (all_taken c.args.right.now c.len-4.result c.len-4.ensures i))) in
    let three = c.in_ok-push_values.ensures ∙ (λ i. two i ++ items_of (all_taken c.args.self.now c.len-5.result c.len-5.ensures i)) in
    let four = c.in_ok-push_values-2.ensures ∙ (λ i. three i ++ items_of (all_taken c.args.right.now c.len-6.result c.len-6.ensures i)) in
    paired_so (left ++ right) c.build.result (c.build.ensures ∙ four ∙ joined_strings c.args.front.now c.args.right_front.now c.args.skipped c.args.self.now c.args.right.now)
