use Rattle.sled_tree.proofs.Performing.{looks-at, looks-err}
use Rattle.sled_tree.proofs.neighbours.nearest.near_at.Goals as goal

pub returns-in-Ok-Some : goal.returns-in-Ok-Some
returns-in-Ok-Some g c = looks-at g.L.Log c.get.follows.holds-at-none c.in-Ok-Some.is c.in-Ok-Some.field-0-is c.node.ensures c.near_in.ensures

pub returns-in-Ok-None : goal.returns-in-Ok-None
returns-in-Ok-None g c = looks-err g.L.Log c.get.follows.holds-at-none

pub returns-in-Err : goal.returns-in-Err
returns-in-Err g c = looks-err g.L.Log c.get.follows.holds-at-none
