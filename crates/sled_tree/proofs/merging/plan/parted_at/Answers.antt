use Rattle.sled_tree.proofs.Performing.{looks-err, looks-for}
use Rattle.sled_tree.proofs.merging.plan.parted_at.Goals as goal

pub returns-in-Ok-Some-clause-parted : goal.returns-in-Ok-Some-clause-parted
returns-in-Ok-Some-clause-parted g c = looks-for g.L.Log c.get.follows.holds-at-none c.in-Ok-Some.is c.in-Ok-Some.field-0-is c.node.ensures c.part.ensures.parted

pub returns-in-Ok-None-clause-parted : goal.returns-in-Ok-None-clause-parted
returns-in-Ok-None-clause-parted g c = looks-err g.L.Log c.get.follows.holds-at-none

pub returns-in-Err-clause-parted : goal.returns-in-Err-clause-parted
returns-in-Err-clause-parted g c = looks-err g.L.Log c.get.follows.holds-at-none
