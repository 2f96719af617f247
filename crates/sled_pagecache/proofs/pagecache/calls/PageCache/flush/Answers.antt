use Rattle.sled_base.specs.declared.types.Error.TheVariants.{Io}
use Rattle.sled_pagecache.proofs.Names.{◌∙◌, [], Err, refl, ap, err_from_is_err_and, error_of, Write, Flushed, Flush}
use Rattle.sled_pagecache.proofs.Steps.CacheSteps.{steps-stuck}
use Rattle.sled_pagecache.proofs.Ids.DurableCounter.{spares-none, whole-then}
use Rattle.sled_pagecache.proofs.Memory.Eviction.{keeps-same, kept-settled}
use Rattle.sled_pagecache.proofs.Steps.Flushes.{flushes, flush_is_refused, flush_is_too_early}
use Rattle.sled_pagecache.proofs.Table.ChangedTables.{consistent-same}
use Rattle.sled_pagecache.proofs.pagecache.calls.PageCache.flush.Goals as goal

pub invariant_of-self-2 : goal.invariant_of-self-2
invariant_of-self-2 g c =
    let done = c.make_stable.ensures in
    kept-settled g.L.Log _ _ _ _ _ _ _ _ _ c.self.invariant
    (whole-then g.L.Log c.self.invariant.whole c.if-self.false (spares-none g.L.Log done.went) refl
    (consistent-same g.L.Log c.self.inside.writer.sticky_log c.make_stable.new.self c.self.inside.pages.pages c.self.inside.free.ids.keys c.self.inside.free.ids.keys c.self.invariant.whole.consistent c.if-self.false [] done.went (λ was. refl) done.same))

pub returns-then-self-clause-step : goal.returns-then-self-clause-step
returns-then-self-clause-step g c = rw (← c.self.view_is) (steps-stuck g.L.Log _ Flush (Flushed (Err (Io Write))) c.if-self.true (λ s kept. rw kept (refl, refl)))

pub returns-then-self-clause-bounded : goal.returns-then-self-clause-bounded
returns-then-self-clause-bounded g c = rw (← c.self.view_is) c.self.invariant.bounded

pub returns-then-self-clause-same : goal.returns-then-self-clause-same
returns-then-self-clause-same g c = keeps-same c.args.self.now

pub returns-then-self-2-clause-step : goal.returns-then-self-2-clause-step
returns-then-self-2-clause-step g c =
    rw (← c.self.view_is)
    (flush_is_too_early g.L.Log _ _ _ _ c.self.inside.pages.pages c.self.inside.writer.sticky_log c.if-self.false c.if-self-2.true (c.self.invariant.whole.consistent.beside c.if-self.false).usable (g.met.L.Log.only_now _))

pub returns-then-self-2-clause-bounded : goal.returns-then-self-2-clause-bounded
returns-then-self-2-clause-bounded g c = rw (← c.self.view_is) c.self.invariant.bounded

pub returns-then-self-2-clause-same : goal.returns-then-self-2-clause-same
returns-then-self-2-clause-same g c = keeps-same c.args.self.now

pub make_stable-requires-clause-closed : goal.make_stable-requires-clause-closed
make_stable-requires-clause-closed g c = c.self.invariant.whole.consistent.opened c.if-self.false ∙ c.if-self-2.false

pub returns-in_err-make_stable-clause-step : goal.returns-in_err-make_stable-clause-step
returns-in_err-make_stable-clause-step g c =
    let refused = c.in_err-make_stable.ensures in
    let p = err_from_is_err_and c.from_residual.result c.from_residual.ensures.1 in
    rw (p.1, p.2 ∙ ap error_of refused.only, ← c.self.view_is)
    (flush_is_refused g.L.Log _ _ _ _ c.self.inside.pages.pages c.self.inside.writer.sticky_log c.if-self.false c.if-self-2.false c.make_stable.new.self refused.went
    (refused.cause.fault ∙ rw refused.only refl))

pub returns-clause-step : goal.returns-clause-step
returns-clause-step g c =
    let done = c.in_ok-make_stable.ensures in
    rw (← c.self.view_is)
    (flushes g.L.Log _ _ _ _ c.self.inside.pages.pages c.self.inside.writer.sticky_log c.if-self.false c.if-self-2.false c.make_stable.new.self done.went _ done.cause.fault)
