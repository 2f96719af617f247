use Rattle.std.proofs.Common.{subst, sym}
use Rattle.std.specs.Option.{option_map}
use Rattle.std.specs.Int.NonZero.{non_zero_u64_get}
use Rattle.sled_node.specs.Children.{BeginsAtMost, IsLeadingPair}
use Rattle.sled_node.proofs.Children.{holds_index, begins_stored, last_whole}
use Rattle.sled_node.proofs.node.Node.index_next_node.Goals as goal

pub leading_pair-requires-clause-begins : goal.leading_pair-requires-clause-begins
leading_pair-requires-clause-begins c =
    let n = c.self.inside in
    let holds = holds_index n.prefix_len (option_map non_zero_u64_get n.next) (option_map non_zero_u64_get n.merging_child) n.merging n.lo n.hi n.contents c.in-Index.index c.args.self.now c.in-Index.is c.self.view_is in
    subst (λ pairs. BeginsAtMost pairs c.without_prefix.result.now) (sym c.pairs.ensures.value) (begins_stored c.args.self.now c.in-Index.index holds c.without_prefix.result.now c.args.key.now c.without_prefix.ensures.key c.requires)

pub returns : goal.returns
returns c =
    let n = c.self.inside in
    let holds = holds_index n.prefix_len (option_map non_zero_u64_get n.next) (option_map non_zero_u64_get n.merging_child) n.merging n.lo n.hi n.contents c.in-Index.index c.args.self.now c.in-Index.is c.self.view_is in
    let last = subst (λ pairs. IsLeadingPair pairs c.without_prefix.result.now c.leading_pair.result.0 c.leading_pair.result.1) c.pairs.ensures.value c.leading_pair.ensures in
    last_whole c.args.self.now c.in-Index.index holds c.without_prefix.result.now c.args.key.now c.without_prefix.ensures.key c.leading_pair.result.0 c.leading_pair.result.1 last
