use Rattle.sled_base.specs.declared.types.Error.TheVariants.{Io}
use Rattle.sled_pagecache.proofs.Names.{Amplified, Cache, Err, SpaceAmplification, Write, chain_at, error_of, refl, refused-is, subst}
use Rattle.sled_pagecache.proofs.Steps.CacheSteps.{steps-stuck}
use Rattle.sled_pagecache.proofs.Memory.Eviction.{kept-settled}
use Rattle.sled_pagecache.proofs.Sizes.Measurements.{damage-told, measures, read-all-of, read-part-of, unmeasured, whole-read}
use Rattle.sled_pagecache.specs.Damage.{ReportsSomeWrong}
use Rattle.sled_pagecache.proofs.pagecache.calls.PageCache.space_amplification.Goals as goal

pub returns-then-self-clause-step : goal.returns-then-self-clause-step
returns-then-self-clause-step g c = rw (← c.self.view_is) (steps-stuck g.L.Log _ SpaceAmplification (Amplified (Err (Io Write))) c.if-self.true (λ s kept. rw kept (refl, refl)))

pub invariant_of-self : goal.invariant_of-self
invariant_of-self g c =
    let read = c.in_err-pages.ensures.read in
    kept-settled g.L.Log _ _ _ _ _ _ _ _ _ c.self.invariant (whole-read g.L.Log c.self.invariant.whole c.if-self.false read.went read.same)

pub returns-in_err-pages-clause-step : goal.returns-in_err-pages-clause-step
returns-in_err-pages-clause-step g c =
    let refused = c.in_err-pages.ensures in
    let whole = c.self.invariant.whole.consistent in
    rw (refused-is c.from_residual.result _ c.from_residual.ensures.1, ← c.self.view_is)
    (unmeasured g.L.Log _ _ _ _ c.self.inside.writer.sticky_log c.self.inside.pages.pages c.if-self.false c.total_rss.new.sticky_log refused.read.went _ refused.read.cause whole.own refused.refused)

pub returns-in_err-pages-clause-damaged : goal.returns-in_err-pages-clause-damaged
returns-in_err-pages-clause-damaged g c = λ known ready.
    let whole = c.self.invariant.whole.consistent in
    rw (refused-is c.from_residual.result _ c.from_residual.ensures.1)
    (subst (λ (cache : Cache g.row.L.Denot). ReportsSomeWrong (chain_at (g.L.Log.state cache.log)) (error_of c.in_err-pages.field-0.0)) c.self.view_is
    (damage-told _ c.self.inside.pages.pages c.in_err-pages.field-0.0 whole.own (c.in_err-pages.ensures.refused known) whole.few))

pub returns-in_err-pages-clause-reads : goal.returns-in_err-pages-clause-reads
returns-in_err-pages-clause-reads g c = λ known.
    rw (refused-is c.from_residual.result _ c.from_residual.ensures.1, ← c.self.view_is)
    (read-part-of g.L.Log.counts _ _ c.self.inside.writer.sticky_log.log c.total_rss.new.sticky_log.log ((c.self.invariant.whole.consistent.beside c.if-self.false).kept known) _ _ c.in_err-pages.ensures.read.reads)

pub invariant_of-self-2 : goal.invariant_of-self-2
invariant_of-self-2 g c =
    let read = c.in_ok-pages.ensures.read in
    kept-settled g.L.Log _ _ _ _ _ _ _ _ _ c.self.invariant (whole-read g.L.Log c.self.invariant.whole c.if-self.false read.went read.same)

pub returns-clause-step : goal.returns-clause-step
returns-clause-step g c =
    let done = c.in_ok-pages.ensures in
    rw (← c.self.view_is)
    (measures g.L.Log _ _ _ _ c.self.inside.writer.sticky_log c.self.inside.pages.pages c.if-self.false c.total_rss.new.sticky_log done.read.went _ _ done.read.cause.fault done.total)

pub returns-clause-reads : goal.returns-clause-reads
returns-clause-reads g c = λ known.
    rw (← c.self.view_is)
    (read-all-of g.L.Log.counts _ _ c.self.inside.writer.sticky_log.log c.total_rss.new.sticky_log.log ((c.self.invariant.whole.consistent.beside c.if-self.false).kept known) _ _ c.in_ok-pages.ensures.read.reads)
