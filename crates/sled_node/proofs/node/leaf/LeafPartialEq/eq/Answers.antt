use Rattle.std.proofs.Common.{◌++◌, sym, ap, ◌∙◌}
use Rattle.std.specs.Prelude.{nat_eq}
use Rattle.std.specs.Cmp.Lexicographic.{pointwise}
use Rattle.sled_node.specs.Equality.{same_pairs, leaf_Decides}
use Rattle.sled_node.specs.LeafStrings.{paired}
use Rattle.sled_node.specs.Payloads.Pairs.{keys_of, items_of}
use Rattle.sled_node.proofs.LeafStrings.{leaf_strings, same_tests}
use Rattle.sled_node.proofs.node.leaf.LeafPartialEq.eq.Goals as goal

-- the strings are the same just where the pairs are
pub returns : goal.returns
returns c =
    let xs = c.args.self.now in
    let ys = c.args.other.now in
    let left = leaf_strings c.self.inside.strings xs c.self.invariant c.self.view_is in
    let right = leaf_strings c.other.inside.strings ys c.other.invariant c.other.view_is in
    same_tests c.is_same.result (same_pairs (pointwise nat_eq) xs ys) c.is_same.ensures (leaf_Decides xs ys)
    (λ same. sym c.self.view_is ∙ ap paired same ∙ c.other.view_is) (λ same. left ∙ ap (λ ps. keys_of ps ++ items_of ps) same ∙ sym right)
