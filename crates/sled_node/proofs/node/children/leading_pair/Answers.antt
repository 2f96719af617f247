use Rattle.std.proofs.Common.{rules}
use Rattle.std.proofs.lemmas.List.Sorted.{IsPartitionPoint-from_clause}
use Rattle.sled_node.proofs.Children.{is_at_most, parted, some_at_most, last_found}
use Rattle.sled_node.proofs.node.children.leading_pair.Goals as goal

-- the pairs part where the closure's test ends
pub overflow_sub-last : goal.overflow_sub-last
overflow_sub-last c =
    let facts = c.partition_point-count.ensures in
    let key = c.args.key.now in
    let pairs = c.args.pairs.now in
    some_at_most key pairs c.requires.begins c.partition_point-count.result facts.bound (IsPartitionPoint-from_clause (is_at_most key) pairs c.partition_point-count.result facts.partitioned (parted key pairs c.requires.ascending) (λ a r next called. search rules))

pub returns : goal.returns
returns c =
    let facts = c.partition_point-count.ensures in
    let key = c.args.key.now in
    let pairs = c.args.pairs.now in
    last_found key pairs c.requires.begins c.partition_point-count.result facts.bound (IsPartitionPoint-from_clause (is_at_most key) pairs c.partition_point-count.result facts.partitioned (parted key pairs c.requires.ascending) (λ a r next called. search rules)) c.index-pairs-last.result
