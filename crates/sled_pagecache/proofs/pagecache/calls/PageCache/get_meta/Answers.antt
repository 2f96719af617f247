use Rattle.sled_base.specs.declared.types.Error.TheVariants.{Io}
use Rattle.sled_pagecache.proofs.Names.{Err, refl, ap, Write, GetMeta, GotMeta, token, refused-is}
use Rattle.sled_pagecache.proofs.Steps.CacheSteps.{steps-stuck}
use Rattle.sled_pagecache.proofs.Roots.RootPage.{keeps-roots, gets-meta}
use Rattle.sled_pagecache.proofs.pagecache.calls.PageCache.get_meta.Goals as goal

pub own_roots-requires : goal.own_roots-requires
own_roots-requires g c = keeps-roots c.self.inside.pages.pages c.self.invariant.whole.consistent.own c.self.invariant.whole.consistent.both

pub returns-clause-step : goal.returns-clause-step
returns-clause-step g c =
    let view = c.in_ok-view.view in
    let found = c.in_ok-view.ensures in
    rw (← c.self.view_is)
    (gets-meta g.L.Log _ _ _ _ _ _ _ c.self.invariant.whole.consistent found.0 view.meta.now view.token.stamp found.2 (g.met.L.Log.only_now _) view.token (ap (λ n. token n view.token.stamp) found.1))

pub returns-in_err-view-clause-step : goal.returns-in_err-view-clause-step
returns-in_err-view-clause-step g c =
    rw (refused-is c.from_residual.result _ c.from_residual.ensures.1, ← c.self.view_is)
    (rw c.in_err-view.ensures.1 (steps-stuck g.L.Log _ GetMeta (GotMeta (Err (Io Write))) c.in_err-view.ensures.0 (λ s kept. rw kept (refl, refl))))
