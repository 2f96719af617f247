use Rattle.std.proofs.Common.{[], refl}
use Rattle.sled_pagecache.specs.Prefixes as cache
use Rattle.sled_tree.specs.Calls.{Needs, Does}
use Rattle.sled_tree.specs.Prefixes.{history_from, nothing_named}
use Rattle.sled_tree.proofs.OpeningsCaches.{caches_of, run-of}
use Rattle.sled_tree.proofs.OpeningsMaps.{matches-nothing}
use Rattle.sled_tree.proofs.OpeningsShown.{shows}
use Rattle.sled_tree.proofs.openings.every_opening_shows_maps.Goals as goal

pub returns : goal.returns
returns g c = λ told log openings empty run.
    shows g.L.Log Needs Does c.calls_in_a_row_are_steps.ensures.made c.a_served_cache_stays_as_it_is.ensures (history_from [] nothing_named) (cache.history_from []) log openings run
    (matches-nothing [] nothing_named refl)
    (c.every_opening_shows_a_prefix.ensures told log (caches_of g.L.Log Needs Does log openings run) empty (run-of g.L.Log Needs Does log openings run))
