-- The closure answers whether an item's key isn't above the key.
use Rattle.std.proofs.Common.{rules}
use Rattle.std.proofs.lemmas.Fn.{always_returns_same}
use Rattle.std.specs.Ordering.{is_le}
use Rattle.sled_base.specs.Order.{bytes_cmp}
use Rattle.sled_base.proofs.Searching.{parted_by_test, count_from_test}
use Rattle.sled_base.proofs.search.count_at_most.Goals as goal

pub returns-clause-parted : goal.returns-clause-parted
returns-clause-parted g c =
    let key_of = g.T.Keyed.key_of in
    let key = c.args.key.now in
    let items = c.args.items.now in
    let facts = c.partition_point.ensures in
    count_from_test key_of key items _ facts.bound (facts.partitioned (λ item. is_le (bytes_cmp (key_of item) key)) (always_returns_same _ _ _ (λ item answer next called. search rules)) (parted_by_test key_of key items c.requires))
