-- How the cache ended.
use Rattle.sled_pagecache.specs.Openings.{Crashed, Rewritten}
use Rattle.sled_pagecache_tests.proofs.tests.id_law.left_by.Goals as goal

pub returns-in_ok-log-in-Some : goal.returns-in_ok-log-in-Some
returns-in_ok-log-in-Some c = (Crashed, c.in_ok-log-in-Some.ensures)

pub returns-in_ok-log-in-None : goal.returns-in_ok-log-in-None
returns-in_ok-log-in-None c = (Rewritten, c.in_ok-log-in-None.ensures)
