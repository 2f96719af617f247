use Rattle.sled_base.specs.declared.types.Error.TheVariants.{Io}
use Rattle.sled_pagecache.proofs.Names.{Err, GenerateId, Generated, Acts, Write, arith, refl, rules, ◌+◌, ◌∙◌, no_name}
use Rattle.sled_pagecache.proofs.Steps.CacheSteps.{steps-stuck}
use Rattle.sled_pagecache.proofs.Ids.DurableCounter.{covered-next, whole-next}
use Rattle.sled_pagecache.proofs.Ids.CounterPage.{keeps-counter}
use Rattle.sled_pagecache.proofs.Memory.Eviction.{kept-settled, leaves-same}
use Rattle.sled_pagecache.proofs.Ids.GeneratedIds.{id-covered, id-too-early, id-used-up}
use Rattle.sled_pagecache.proofs.Ids.GivenIds.{id-made, id-unmade}
use Rattle.sled_pagecache.proofs.Table.StatePages.{beside-long}
use Rattle.sled_pagecache.proofs.pagecache.calls.PageCache.generate_id_inner.Goals as goal

pub returns-then-self : goal.returns-then-self
returns-then-self g c =
    let step : Acts g.L.Log c.args.self.now GenerateId (Generated (Err (Io Write))) c.args.self.now = steps-stuck g.L.Log _ GenerateId (Generated (Err (Io Write))) (search rules) (λ s kept. rw kept (refl, refl)) in
    search (rules, leaves-same, no_name, rw c.self.view_is at c.self.invariant.bounded)

pub own_counter-counter-requires : goal.own_counter-counter-requires
own_counter-counter-requires g c = keeps-counter c.self.inside.pages.pages c.self.invariant.whole.consistent.own c.self.invariant.whole.consistent.both

pub returns-then-self-2 : goal.returns-then-self-2
returns-then-self-2 g c =
    let step = id-used-up g.L.Log c.self.invariant c.if-self.false (g.met.L.Log.only_now c.self.inside.writer.sticky_log.log) (omega (arith, c.if-self-2.true)) in
    rw (← c.self.view_is) (search (rules, leaves-same, no_name))

-- the counter covers the id
pub invariant_of-self : goal.invariant_of-self
invariant_of-self g c = kept-settled g.L.Log _ _ _ _ _ _ _ _ _ c.self.invariant (whole-next g.L.Log c.self.invariant.whole)

pub returns-then-start-interval_start : goal.returns-then-start-interval_start
returns-then-start-interval_start g c =
    let inside = c.self.inside in
    let found = c.own_counter-counter.ensures in
    let covered = covered-next g.L.Log c.self.invariant.whole c.if-self.false found (omega (arith, c.interval_start-start.ensures, c.interval_start.ensures, c.if-start-interval_start.true)) in
    let step = id-covered g.L.Log c.self.invariant c.if-self.false found.at found.counter (omega (arith, c.if-self-2.false)) c.interval_start-start.ensures c.interval_start.ensures (g.met.L.Log.only_now inside.writer.sticky_log.log) c.if-start-interval_start.true in
    let bounded = (kept-settled g.L.Log _ (inside.next + 1) _ _ _ _ _ _ _ c.self.invariant (whole-next g.L.Log c.self.invariant.whole)).bounded in
    rw (← c.self.view_is) (search (rules, covered, step, bounded))

-- inside a batch no new counter is made
pub returns-then-self-3 : goal.returns-then-self-3
returns-then-self-3 g c =
    let step = id-too-early g.L.Log c.self.invariant c.if-self.false c.own_counter-counter.ensures.at c.own_counter-counter.ensures.counter (omega (arith, c.if-self-2.false)) c.interval_start-start.ensures c.interval_start.ensures c.if-start-interval_start.false (g.met.L.Log.only_now c.self.inside.writer.sticky_log.log) c.if-self-3.true in
    rw (← c.self.view_is) (search (rules, leaves-same, no_name))

pub put_counter-requires-clause-closed : goal.put_counter-requires-clause-closed
put_counter-requires-clause-closed g c = c.self.invariant.whole.consistent.opened c.if-self.false ∙ c.if-self-3.false

pub put_counter-requires-clause-there : goal.put_counter-requires-clause-there
put_counter-requires-clause-there g c = λ told.
    let whole = c.self.invariant.whole in
    omega (arith, whole.consistent.both, beside-long g.L.Log.tells g.L.Log.state c.self.inside.writer.sticky_log.log c.self.inside.pages.pages (whole.consistent.beside c.if-self.false) told)

-- a new counter is put on its page
pub invariant_of-self-in-Ok : goal.invariant_of-self-in-Ok
invariant_of-self-in-Ok g c = (id-made g.L.Log c.self.invariant c.if-self.false c.if-self-3.false c.get_mut-page.ensures.page c.own_counter-counter.ensures (omega (arith, c.if-self-2.false)) c.interval_start-start.ensures c.interval_start.ensures c.if-start-interval_start.false c.in-Ok.ensures.put c.in-Ok.ensures.stable c.evict.ensures).0.is

pub invariant_of-self-in-Err : goal.invariant_of-self-in-Err
invariant_of-self-in-Err g c = (id-unmade g.L.Log c.self.invariant c.if-self.false c.if-self-3.false c.get_mut-page.ensures.page c.own_counter-counter.ensures (omega (arith, c.if-self-2.false)) c.interval_start-start.ensures c.interval_start.ensures c.if-start-interval_start.false c.in-Err.ensures.put c.evict-in-Err.ensures).0.is

pub returns-in-Ok : goal.returns-in-Ok
returns-in-Ok g c =
    let given = id-made g.L.Log c.self.invariant c.if-self.false c.if-self-3.false c.get_mut-page.ensures.page c.own_counter-counter.ensures (omega (arith, c.if-self-2.false)) c.interval_start-start.ensures c.interval_start.ensures c.if-start-interval_start.false c.in-Ok.ensures.put c.in-Ok.ensures.stable c.evict.ensures in
    rw (← c.self.view_is) (search (rules, given))

pub returns-in-Err : goal.returns-in-Err
returns-in-Err g c =
    let refused = id-unmade g.L.Log c.self.invariant c.if-self.false c.if-self-3.false c.get_mut-page.ensures.page c.own_counter-counter.ensures (omega (arith, c.if-self-2.false)) c.interval_start-start.ensures c.interval_start.ensures c.if-start-interval_start.false c.in-Err.ensures.put c.evict-in-Err.ensures in
    rw (c.from.ensures, ← c.self.view_is) (search (rules, refused, no_name))
