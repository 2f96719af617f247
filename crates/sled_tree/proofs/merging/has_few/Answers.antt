use Rattle.std.specs.Prelude.{⊤}
use Rattle.sled_tree.proofs.Performing.{looks, looks-err}
use Rattle.sled_tree.proofs.merging.has_few.Goals as goal

pub returns-in-Ok-Some : goal.returns-in-Ok-Some
returns-in-Ok-Some g c = looks g.L.Log c.get.follows.holds-at-none c.in-Ok-Some.is c.in-Ok-Some.field-0-is c.node.ensures {Said = λ _. ⊤} (λ _ _ _ _. tt) tt

pub returns-in-Ok-None : goal.returns-in-Ok-None
returns-in-Ok-None g c = looks-err g.L.Log c.get.follows.holds-at-none

pub returns-in-Err : goal.returns-in-Err
returns-in-Err g c = looks-err g.L.Log c.get.follows.holds-at-none
