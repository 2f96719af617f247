use Rattle.std.proofs.Common.{◌↔◌, IsTrue, subst}
use Rattle.std.specs.Option.{option_map}
use Rattle.std.specs.Int.NonZero.{non_zero_u64_get}
use Rattle.sled_node.specs.Children.{BeginsAtMost}
use Rattle.sled_node.proofs.Children.{holds_index, leads_where_begins}
use Rattle.sled_node.proofs.node.Node.has_child_for.Goals as goal

-- an index with the key in its range
pub returns-then-contains_key : goal.returns-then-contains_key
returns-then-contains_key c =
    let n = c.self.inside in
    let holds = holds_index n.prefix_len (option_map non_zero_u64_get n.next) (option_map non_zero_u64_get n.merging_child) n.merging n.lo n.hi n.contents c.in-Index.index c.args.self.now c.in-Index.is c.self.view_is in
    let begins = subst (λ pairs. IsTrue c.begins_at_most.result ↔ BeginsAtMost pairs c.without_prefix.result.now) c.pairs.ensures.value c.begins_at_most.ensures in
    leads_where_begins c.args.self.now c.in-Index.index holds c.without_prefix.result.now c.args.key.now c.without_prefix.ensures.key c.begins_at_most.result (c.contains_key.ensures.0 c.if-contains_key.true) begins
