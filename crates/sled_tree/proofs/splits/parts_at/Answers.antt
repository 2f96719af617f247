use Rattle.sled_tree.proofs.Performing.{looks-at, looks-err}
use Rattle.sled_tree.proofs.splits.parts_at.Goals as goal

pub returns-in-Ok-Some-clause-parts : goal.returns-in-Ok-Some-clause-parts
returns-in-Ok-Some-clause-parts g c = looks-at g.L.Log c.get.follows.holds-at-none c.in-Ok-Some.is c.in-Ok-Some.field-0-is c.node.ensures c.parts_of.ensures.parts

pub returns-in-Ok-None-clause-parts : goal.returns-in-Ok-None-clause-parts
returns-in-Ok-None-clause-parts g c = looks-err g.L.Log c.get.follows.holds-at-none

pub returns-in-Err-clause-parts : goal.returns-in-Err-clause-parts
returns-in-Err-clause-parts g c = looks-err g.L.Log c.get.follows.holds-at-none
