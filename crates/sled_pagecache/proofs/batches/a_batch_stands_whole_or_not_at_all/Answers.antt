use Rattle.sled_pagecache.proofs.Crash.AtomicBatches.{cancelled, flushed, sealed, unsealed}
use Rattle.sled_pagecache.proofs.batches.a_batch_stands_whole_or_not_at_all.Goals as goal

pub returns-clause-unsealed : goal.returns-clause-unsealed
returns-clause-unsealed g c = unsealed g.L.Log (λ log t u pages told. g.met.L.Log.since_earlier log t u pages told)

pub returns-clause-sealed : goal.returns-clause-sealed
returns-clause-sealed g c = λ old mid new calls result batch seal held s is clear.
    sealed g.L.Log (λ log t u pages told. g.met.L.Log.since_earlier log t u pages told) old mid new calls batch held s is clear result seal

pub returns-clause-flushed : goal.returns-clause-flushed
returns-clause-flushed g c = flushed g.L.Log (λ log t u pages told. g.met.L.Log.since_earlier log t u pages told) g.met.L.Log.only_now

pub returns-clause-cancelled : goal.returns-clause-cancelled
returns-clause-cancelled g c = λ old mid new calls result batch cancel held s is clear.
    cancelled g.L.Log (λ log t u pages told. g.met.L.Log.since_earlier log t u pages told) old mid new calls batch held s is clear result cancel
