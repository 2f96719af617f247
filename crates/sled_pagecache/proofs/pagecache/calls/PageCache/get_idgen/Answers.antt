use Rattle.sled_base.specs.declared.types.Error.TheVariants.{Io}
use Rattle.sled_pagecache.proofs.Names.{Err, GetIdgen, GotIdgen, Page, Write, refl, map-at}
use Rattle.sled_pagecache.proofs.Steps.CacheSteps.{steps-stuck}
use Rattle.sled_pagecache.proofs.Ids.CounterPage.{gets-idgen, keeps-counter}
use Rattle.sled_pagecache.proofs.pagecache.calls.PageCache.get_idgen.Goals as goal

pub returns-then-self-clause-step : goal.returns-then-self-clause-step
returns-then-self-clause-step g c = rw (← c.self.view_is) (steps-stuck g.L.Log _ GetIdgen (GotIdgen (Err (Io Write))) c.if-self.true (λ s kept. rw kept (refl, refl)))

pub own_counter-requires : goal.own_counter-requires
own_counter-requires g c = keeps-counter c.self.inside.pages.pages c.self.invariant.whole.consistent.own c.self.invariant.whole.consistent.both

pub returns-clause-step : goal.returns-clause-step
returns-clause-step g c =
    let found = c.own_counter.ensures in
    rw (← c.self.view_is)
    (gets-idgen g.L.Log _ _ _ _ _ _ _ c.self.invariant.whole.consistent c.if-self.false found.page c.own_counter.result.1 found.at found.counter
    (g.met.L.Log.only_now _) c.own_counter.result.0 found.token)

pub returns-clause-token : goal.returns-clause-token
returns-clause-token g c =
    let found = c.own_counter.ensures in
    rw (← c.self.view_is, found.token) (refl, map-at (λ (p : Page). p.stamp) c.self.inside.pages.pages 1 found.page found.at)
