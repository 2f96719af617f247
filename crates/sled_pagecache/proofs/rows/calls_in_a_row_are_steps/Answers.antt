use Rattle.sled_pagecache.proofs.Names.{row-none, row-one, row-then, made-row}
use Rattle.sled_pagecache.proofs.rows.calls_in_a_row_are_steps.Goals as goal

pub returns-clause-none : goal.returns-clause-none
returns-clause-none g c = λ cache. row-none g.L.Log cache g.met.L.Log.only_now

pub returns-clause-one : goal.returns-clause-one
returns-clause-one g c = row-one g.L.Log

pub returns-clause-then : goal.returns-clause-then
returns-clause-then g c = row-then g.L.Log

pub returns-clause-made : goal.returns-clause-made
returns-clause-made g c = λ old new calls made. made-row g.L.Log old new calls g.met.L.Log.only_now made
