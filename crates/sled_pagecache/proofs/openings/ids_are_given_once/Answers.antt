use Rattle.sled_pagecache.proofs.Names.{ids_of}
use Rattle.sled_pagecache.proofs.Ids.IdRuns.{rising}
use Rattle.sled_pagecache.proofs.Opening.ShownPrefixes.{every-shows}
use Rattle.sled_pagecache.proofs.openings.ids_are_given_once.Goals as goal

pub returns : goal.returns
returns g c = λ told log openings empty run keeps.
    let rise = (every-shows g.L.Log told g.met.L.Log.only_now (λ log t u pages. g.met.L.Log.since_earlier log t u pages told) log openings empty run).1 in
    rising 0 (ids_of openings) (rise keeps)
