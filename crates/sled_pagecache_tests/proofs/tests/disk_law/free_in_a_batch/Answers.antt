use Rattle.std.proofs.Common.{[], ◌∷◌, Ok, subst, sym, rules}
use Rattle.sled_pagecache.specs.Cache.{Cache}
use Rattle.sled_pagecache.specs.Calls.{Steps}
use Rattle.sled_pagecache.specs.declared.pagecache.handles.call.Answer.TheVariants.{Pinned, Freed, Sealed}
use Rattle.sled_pagecache.specs.declared.pagecache.handles.call.Call.TheVariants.{Pin, Free, Seal}
use Rattle.sled_pagecache_tests.proofs.tests.disk_law.free_in_a_batch.Goals as goal

pub returns : goal.returns
returns g c =
    let rows = c.calls_in_a_row_are_steps.ensures in
    let pinned = subst (λ (cache : Cache _). Steps g.L.Log c.args.cache.now Pin (Pinned (Ok tt)) cache) (sym c.cache.ensures.value) c.in_ok-guard.ensures.pinned.step in
    let freed = c.free-freed.ensures.step in
    let sealed = c.seal_batch-sealed.ensures.step in
    let row = rows.then _ _ _ _ _ (rows.one _ _ Pin (Pinned (Ok tt)) pinned) (rows.then _ _ _ _ _ (rows.one _ _ (Free c.args.token) (Freed c.free-freed.result) freed) (rows.one _ _ Seal (Sealed c.seal_batch-sealed.result) sealed)) in
    ((Pin, Pinned (Ok tt)) ∷ (Free c.args.token, Freed c.free-freed.result) ∷ (Seal, Sealed c.seal_batch-sealed.result) ∷ [], search (rules, row))
