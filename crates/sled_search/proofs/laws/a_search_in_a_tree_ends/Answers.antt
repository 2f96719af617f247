use Rattle.std.proofs.Common.{◌<◌, length, arith}
use Rattle.sled_search.specs.Map.{at_key}
use Rattle.sled_search.specs.Search.{HasAt}
use Rattle.sled_search.proofs.Paths.{rest-of, few-turns, found-node, found-not-astray, met-once}
use Rattle.sled_search.proofs.laws.a_search_in_a_tree_ends.Goals as goal

pub returns-clause-once : goal.returns-clause-once
returns-clause-once c pages root m tree key i j at goes again =
    let (t, found) = tree.comes key in
    met-once pages key (λ _ n. HasAt key (at_key m key) n) t i j root at found goes again

pub returns-clause-turns : goal.returns-clause-turns
returns-clause-turns c pages root m tree key turns at goes =
    let (j, found) = tree.comes key in
    let (k, sum, rest) = rest-of pages key (λ _ n. HasAt key (at_key m key) n) turns j root at goes found in
    let few : j < length pages = few-turns pages key (λ _ n. HasAt key (at_key m key) n) j root found in
    omega arith

pub returns-clause-astray : goal.returns-clause-astray
returns-clause-astray c pages root m tree key turns at goes stray =
    let (j, found) = tree.comes key in
    let (k, sum, rest) = rest-of pages key (λ _ n. HasAt key (at_key m key) n) turns j root at goes found in
    found-not-astray pages key (λ _ n. HasAt key (at_key m key) n) k at rest stray

pub returns-clause-node : goal.returns-clause-node
returns-clause-node c pages root m tree key turns at goes =
    let (j, found) = tree.comes key in
    let (k, sum, rest) = rest-of pages key (λ _ n. HasAt key (at_key m key) n) turns j root at goes found in
    found-node pages key (λ _ n. HasAt key (at_key m key) n) k at rest
