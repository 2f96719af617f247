use Rattle.sled_tree.proofs.Performing.{looks-err, looks-for}
use Rattle.sled_tree.proofs.merging.plan.joined_at.Goals as goal

pub returns-in-Ok-Some-clause-joined : goal.returns-in-Ok-Some-clause-joined
returns-in-Ok-Some-clause-joined g c = looks-for g.L.Log c.get.follows.holds-at-none c.in-Ok-Some.is c.in-Ok-Some.field-0-is c.node.ensures c.join.ensures.joined

pub returns-in-Ok-None-clause-joined : goal.returns-in-Ok-None-clause-joined
returns-in-Ok-None-clause-joined g c = looks-err g.L.Log c.get.follows.holds-at-none

pub returns-in-Err-clause-joined : goal.returns-in-Err-clause-joined
returns-in-Err-clause-joined g c = looks-err g.L.Log c.get.follows.holds-at-none
