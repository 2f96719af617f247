use Rattle.sled_base.specs.declared.types.Error.TheVariants.{Io, CollectionNotFound, OutOfMemory}
use Rattle.sled_pagecache.proofs.Names.{err_from_is_err_and, Err, refl, sym, ap, ◌∙◌, inl, inr, Write, FoundRoot, MetaPidForName, root_of, refused-is}
use Rattle.sled_pagecache.proofs.Steps.CacheSteps.{steps-stuck}
use Rattle.sled_pagecache.proofs.Roots.RootPage.{keeps-roots, finds-root, lacks-root}
use Rattle.sled_pagecache.proofs.pagecache.calls.PageCache.meta_pid_for_name.Goals as goal

pub own_roots-requires : goal.own_roots-requires
own_roots-requires g c = keeps-roots c.self.inside.pages.pages c.self.invariant.whole.consistent.own c.self.invariant.whole.consistent.both

pub returns-in_err-view-clause-step : goal.returns-in_err-view-clause-step
returns-in_err-view-clause-step g c =
    rw (refused-is c.from_residual.result _ c.from_residual.ensures.1, ← c.self.view_is)
    (rw c.in_err-view.ensures.1 (steps-stuck g.L.Log _ (MetaPidForName c.args.name.now) (FoundRoot (Err (Io Write))) c.in_err-view.ensures.0 (λ s kept. rw kept (refl, refl))))

pub returns-in-Some-clause-step : goal.returns-in-Some-clause-step
returns-in-Some-clause-step g c =
    let view = c.in_ok-view.view in
    let found = c.in_ok-view.ensures in
    rw (← c.self.view_is) (finds-root g.L.Log _ _ _ _ _ _ _ c.self.invariant.whole.consistent found.0 view.meta.now view.token.stamp found.2 (g.met.L.Log.only_now _) c.args.name.now c.in-Some.root (ap (root_of c.args.name.now) (sym c.meta.ensures) ∙ sym c.get_root.ensures ∙ c.in-Some.is))

pub returns-in_err-copy-clause-step : goal.returns-in_err-copy-clause-step
returns-in_err-copy-clause-step g c =
    let view = c.in_ok-view.view in
    let found = c.in_ok-view.ensures in
    let p = err_from_is_err_and c.from_residual-in_err-copy.result c.from_residual-in_err-copy.ensures.1 in
    rw (p.1, p.2, ← c.self.view_is) (lacks-root g.L.Log _ _ _ _ _ _ _ c.self.invariant.whole.consistent found.0 view.meta.now view.token.stamp found.2 (g.met.L.Log.only_now _) c.args.name.now OutOfMemory (ap (root_of c.args.name.now) (sym c.meta.ensures) ∙ sym c.get_root.ensures ∙ c.in_default.is) (inr refl))

pub returns-clause-step : goal.returns-clause-step
returns-clause-step g c =
    let view = c.in_ok-view.view in
    let found = c.in_ok-view.ensures in
    rw (← c.self.view_is) (lacks-root g.L.Log _ _ _ _ _ _ _ c.self.invariant.whole.consistent found.0 view.meta.now view.token.stamp found.2 (g.met.L.Log.only_now _) c.args.name.now (CollectionNotFound c.in_ok-copy.copy) (ap (root_of c.args.name.now) (sym c.meta.ensures) ∙ sym c.get_root.ensures ∙ c.in_default.is) (inl (ap CollectionNotFound c.in_ok-copy.ensures.ok)))
