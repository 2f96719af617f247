use Rattle.sled_base.specs.declared.types.Error.TheVariants.{Io}
use Rattle.sled_pagecache.proofs.Names.{error_of, rules, Err, refl, Write, CasRoot, RootSwapped, Acts, no_name, refused-is}
use Rattle.sled_pagecache.proofs.Steps.CacheSteps.{steps-stuck}
use Rattle.sled_pagecache.proofs.Memory.Eviction.{keeps-same, leaves-same}
use Rattle.sled_pagecache.proofs.Roots.RootSwaps.{root-made, root-unmade}
use Rattle.sled_pagecache.proofs.Roots.RootPage.{keeps-roots, another-root, unfit-root, swappable}
use Rattle.sled_pagecache.proofs.pagecache.calls.PageCache.cas_root_in_meta.Goals as goal

pub own_roots-requires : goal.own_roots-requires
own_roots-requires g c = keeps-roots c.self.inside.pages.pages c.self.invariant.whole.consistent.own c.self.invariant.whole.consistent.both

pub returns-in_err-view : goal.returns-in_err-view
returns-in_err-view g c =
    let step : Acts g.L.Log c.args.self.now (CasRoot c.args.name.now c.args.old c.args.new) (RootSwapped (Err (Io Write))) c.args.self.now =
    steps-stuck g.L.Log _ (CasRoot c.args.name.now c.args.old c.args.new) (RootSwapped (Err (Io Write))) (search (rules, c.in_err-view.ensures)) (λ s kept. rw kept (refl, refl)) in
    rw (refused-is c.from_residual.result _ c.from_residual.ensures.1, c.in_err-view.ensures.1) (search (rules, leaves-same, no_name, rw c.self.view_is at c.self.invariant.bounded))

pub returns-in_err-root : goal.returns-in_err-root
returns-in_err-root g c =
    let inside = c.self.inside in
    let found = c.in_ok-view.ensures in
    let judged = rw c.meta.ensures at c.in_err-root.ensures in
    let step : Acts g.L.Log c.args.self.now (CasRoot c.args.name.now c.args.old c.args.new) (RootSwapped (Err (error_of c.in_err-root.field-0.0))) c.args.self.now = rw (← c.self.view_is) (unfit-root g.L.Log inside.next inside.config inside.recovered inside.writer.accesses.lru inside.writer.sticky_log inside.pages.pages inside.free.ids.keys c.self.invariant.whole.consistent found.0 c.in_ok-view.view.meta.now c.in_ok-view.view.token.stamp found.2 (g.met.L.Log.only_now inside.writer.sticky_log.log) c.args.name.now c.args.old c.args.new c.in_err-root.field-0.0 judged.0 judged.1) in
    rw (refused-is c.from_residual-in_err-root.result _ c.from_residual-in_err-root.ensures.1) (search (rules, leaves-same, no_name, rw c.self.view_is at c.self.invariant.bounded))

pub returns-in-Err : goal.returns-in-Err
returns-in-Err g c =
    let inside = c.self.inside in
    let found = c.in_ok-view.ensures in
    let judged = rw (c.in-Err.is, c.meta.ensures) at c.in_ok-root.ensures in
    let step = another-root g.L.Log inside.next inside.config inside.recovered inside.writer.accesses.lru inside.writer.sticky_log inside.pages.pages inside.free.ids.keys c.self.invariant.whole.consistent found.0 c.in_ok-view.view.meta.now c.in_ok-view.view.token.stamp found.2 (g.met.L.Log.only_now inside.writer.sticky_log.log) c.args.name.now c.args.old c.args.new c.in-Err.root judged.0 judged.1 in
    rw (← c.self.view_is) (search (rules, keeps-same))

pub invariant_of-self : goal.invariant_of-self
invariant_of-self g c = (root-made g.L.Log c.self.invariant c.in_ok-view.ensures.0 (swappable c.args.new c.in_ok-view.ensures.2 c.get_mut-page.ensures.page c.meta.ensures (rw c.in-Ok.is at c.in_ok-root.ensures)) c.in-Ok-swap_root.ensures c.evict.ensures).0.is

pub invariant_of-self-in-Err-swap_root : goal.invariant_of-self-in-Err-swap_root
invariant_of-self-in-Err-swap_root g c = (root-unmade g.L.Log c.self.invariant c.in_ok-view.ensures.0 (swappable c.args.new c.in_ok-view.ensures.2 c.get_mut-page.ensures.page c.meta.ensures (rw c.in-Ok.is at c.in_ok-root.ensures)) c.in-Err-swap_root.ensures c.evict-in-Err-swap_root.ensures).0.is

pub returns-in-Ok-swap_root : goal.returns-in-Ok-swap_root
returns-in-Ok-swap_root g c =
    let swap = root-made g.L.Log c.self.invariant c.in_ok-view.ensures.0 (swappable c.args.new c.in_ok-view.ensures.2 c.get_mut-page.ensures.page c.meta.ensures (rw c.in-Ok.is at c.in_ok-root.ensures)) c.in-Ok-swap_root.ensures c.evict.ensures in
    rw (← c.self.view_is) (search (rules, swap))

pub returns-in-Err-swap_root : goal.returns-in-Err-swap_root
returns-in-Err-swap_root g c =
    let swap = root-unmade g.L.Log c.self.invariant c.in_ok-view.ensures.0 (swappable c.args.new c.in_ok-view.ensures.2 c.get_mut-page.ensures.page c.meta.ensures (rw c.in-Ok.is at c.in_ok-root.ensures)) c.in-Err-swap_root.ensures c.evict-in-Err-swap_root.ensures in
    rw (c.from.ensures, ← c.self.view_is) (search (rules, swap, no_name))
