-- The closure answers whether an item's key isn't above the next one's.
use Rattle.std.proofs.Common.{rules}
use Rattle.std.proofs.lemmas.Fn.{always_returns_same}
use Rattle.std.specs.Ordering.{is_le}
use Rattle.sled_base.specs.Order.{bytes_cmp}
use Rattle.sled_base.proofs.Searching.{sorted_by_test}
use Rattle.sled_base.proofs.search.is_sorted.Goals as goal

pub returns : goal.returns
returns g c =
    let key_of = g.T.Keyed.key_of in
    let items = c.args.items.now in
    sorted_by_test key_of items _ (c.is_sorted_by.ensures.cases (λ a b. is_le (bytes_cmp (key_of a) (key_of b))) (always_returns_same _ _ _ (λ pair answer next called. search rules)))
