use Rattle.sled_tree.proofs.Performing.{looks-err, looks-for}
use Rattle.sled_tree.proofs.splits.end_at.Goals as goal

pub returns-in-Ok-Some-clause-end : goal.returns-in-Ok-Some-clause-end
returns-in-Ok-Some-clause-end g c = looks-for g.L.Log c.get.follows.holds-at-none c.in-Ok-Some.is c.in-Ok-Some.field-0-is c.node.ensures c.end_of.ensures.end

pub returns-in-Ok-None-clause-end : goal.returns-in-Ok-None-clause-end
returns-in-Ok-None-clause-end g c = looks-err g.L.Log c.get.follows.holds-at-none

pub returns-in-Err-clause-end : goal.returns-in-Err-clause-end
returns-in-Err-clause-end g c = looks-err g.L.Log c.get.follows.holds-at-none
