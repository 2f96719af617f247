use Rattle.std.proofs.Common.{◌≡◌, refl}
use Rattle.sled_node.specs.Node.{IsInRange}
use Rattle.sled_search.specs.Search.{HasAt}
use Rattle.sled_search.proofs.Off.{goes-up_to}
use Rattle.sled_search.proofs.Search.{goes-then, goes-finds}
use Rattle.sled_search.proofs.laws.turns_make_a_search.Goals as goal

pub returns-clause-then : goal.returns-clause-then
returns-clause-then c pages key turns from at to goes leads = goes-then pages key turns from at to goes leads

pub returns-clause-leaf : goal.returns-clause-leaf
returns-clause-leaf c pages key turns from leaf goes (n, there, of) = goes-finds pages key (λ pid k. (pid ≡ leaf) × IsInRange k key) turns from leaf goes (n, there, (of, (refl, of.1)))

pub returns-clause-value : goal.returns-clause-value
returns-clause-value c pages key value turns from leaf goes (n, there, answers) = goes-finds pages key (λ _ k. HasAt key value k) turns from leaf goes (n, there, (answers.0, answers.1))

pub returns-clause-up_to : goal.returns-clause-up_to
returns-clause-up_to c pages changed p one key turns from at goes away = goes-up_to pages changed p one key turns from at goes away
