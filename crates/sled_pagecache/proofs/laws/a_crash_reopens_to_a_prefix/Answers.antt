use Rattle.sled_pagecache.proofs.Crash.ReopenedCaches.{crash-reopens}
use Rattle.sled_pagecache.proofs.Names.{changes_of, changes_of_start, List, [], append-nil, Result, Ok, Err, Error, Update, Event, IsPrefix, Cache, Logged, AreAfterPrefix, CrashReopens, Opens, Config, log_after}
use Rattle.sled_pagecache.specs.Logged.{now}
use Rattle.sled_pagecache.proofs.laws.a_crash_reopens_to_a_prefix.Goals as goal

pub returns-clause-of_a_call : goal.returns-clause-of_a_call
returns-clause-of_a_call g c = λ old new call answer steps held s is free.
    let one = steps.from_each held s is in
    (one.out, one.step, crash-reopens g.L.Log (λ log t u pages. g.met.L.Log.since_earlier log t u pages is.tells) new.log (g.L.Log.moment old.log) held one.out.changes (one.crash free).each)

pub returns-clause-of_calls : goal.returns-clause-of_calls
returns-clause-of_calls g c = λ old new calls steps held s is free.
    let row = steps.from_each held s is in
    (row.outs, row.t, row.steps, crash-reopens g.L.Log (λ log t u pages. g.met.L.Log.since_earlier log t u pages is.tells) new.log (g.L.Log.moment old.log) held (changes_of row.outs) (row.crash free).each)

pub returns-clause-of_opening : goal.returns-clause-of_opening
returns-clause-of_opening g c = λ told log config held result opens. by told log config held result opens
  where
    by : g.L.Log.tells → (log : _) (config : Config) (held : Logged) (result : Result (Cache _) (Error × _)) → Opens g.L.Log log config held result
        → (begun : List (Event Update)) × IsPrefix begun (changes_of_start (now held)) × CrashReopens g.L.Log (log_after result) (g.L.Log.moment log) (AreAfterPrefix held begun)
    by told log config held (Ok cache) opens =
        (changes_of_start (now held), ([], append-nil (changes_of_start (now held))), crash-reopens g.L.Log (λ log t u pages. g.met.L.Log.since_earlier log t u pages told) cache.log (g.L.Log.moment log) held (changes_of_start (now held)) opens.crash.each)
    by told log config held (Err refused) opens =
        (opens.begun, (opens.rest, opens.are), crash-reopens g.L.Log (λ log t u pages. g.met.L.Log.since_earlier log t u pages told) refused.1 (g.L.Log.moment log) held opens.begun opens.crash.each)
