use Rattle.std.proofs.Common.{rules}
use Rattle.std.proofs.lemmas.Fn.{always_returns_same}
use Rattle.sled_base.specs.Order.{bytes_cmp}
use Rattle.sled_node.proofs.Places.{search_found, search_same, search_missing}
use Rattle.sled_node.proofs.node.pairs.place_of_key.Goals as goal

-- the closure compares a pair's key with the key
pub returns-clause-found : goal.returns-clause-found
returns-clause-found g c =
    let facts = c.binary_search_by.ensures in
    search_found c.args.key.now c.args.pairs.now c.requires _ facts.bound (facts.position (λ pair. bytes_cmp pair.0 c.args.key.now) (always_returns_same _ _ _ (λ a r next called. search rules)))

pub returns-clause-same : goal.returns-clause-same
returns-clause-same g c =
    let facts = c.binary_search_by.ensures in
    search_same c.args.key.now c.args.pairs.now c.requires _ facts.bound (facts.position (λ pair. bytes_cmp pair.0 c.args.key.now) (always_returns_same _ _ _ (λ a r next called. search rules)))

pub returns-clause-missing : goal.returns-clause-missing
returns-clause-missing g c =
    let facts = c.binary_search_by.ensures in
    search_missing c.args.key.now c.args.pairs.now c.requires _ facts.bound (facts.position (λ pair. bytes_cmp pair.0 c.args.key.now) (always_returns_same _ _ _ (λ a r next called. search rules)))
