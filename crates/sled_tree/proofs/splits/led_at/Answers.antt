use Rattle.sled_tree.proofs.Performing.{looks-err, looks-for}
use Rattle.sled_tree.proofs.splits.led_at.Goals as goal

pub returns-in-Ok-Some-clause-led : goal.returns-in-Ok-Some-clause-led
returns-in-Ok-Some-clause-led g c = looks-for g.L.Log c.get.follows.holds-at-none c.in-Ok-Some.is c.in-Ok-Some.field-0-is c.node.ensures c.led.ensures.led

pub returns-in-Ok-None-clause-led : goal.returns-in-Ok-None-clause-led
returns-in-Ok-None-clause-led g c = looks-err g.L.Log c.get.follows.holds-at-none

pub returns-in-Err-clause-led : goal.returns-in-Err-clause-led
returns-in-Err-clause-led g c = looks-err g.L.Log c.get.follows.holds-at-none
