use Rattle.sled_pagecache.proofs.Opening.ShownPrefixes.{every-shows}
use Rattle.sled_pagecache.proofs.openings.every_opening_shows_a_prefix.Goals as goal

pub returns : goal.returns
returns g c = λ told log openings empty run. (every-shows g.L.Log told g.met.L.Log.only_now (λ log t u pages. g.met.L.Log.since_earlier log t u pages told) log openings empty run).0
