use Rattle.sled_base.specs.declared.types.Error.TheVariants.{Io}
use Rattle.sled_pagecache.proofs.Names.{token, ap, length, Err, sym, ◌∙◌, refl, arith, slice_get_within, Write, Allocated, Allocate}
use Rattle.sled_pagecache.proofs.Steps.Allocations.{ends-nowhere, last-at, last-read}
use Rattle.sled_pagecache.proofs.Steps.CacheSteps.{steps-stuck}
use Rattle.sled_pagecache.proofs.Memory.Eviction.{leaves-same}
use Rattle.sled_pagecache.proofs.Memory.ResidentPages.{past-view}
use Rattle.sled_pagecache.proofs.Memory.SettledAllocations.{added, reused}
use Rattle.sled_pagecache.proofs.Table.StatePages.{beside-long}
use Rattle.sled_pagecache.proofs.pagecache.calls.PageCache.allocate.Goals as goal

pub returns-then-stuck-clause-step : goal.returns-then-stuck-clause-step
returns-then-stuck-clause-step g c =
    rw (← c.self.view_is) (steps-stuck g.L.Log _ (Allocate c.args.node) (Allocated (Err (Io Write))) c.if-stuck.true (λ s kept. rw kept (refl, refl)))

pub returns-then-stuck-clause-bounded : goal.returns-then-stuck-clause-bounded
returns-then-stuck-clause-bounded g c = rw (← c.self.view_is) c.self.invariant.bounded

pub returns-then-stuck-clause-leaves : goal.returns-then-stuck-clause-leaves
returns-then-stuck-clause-leaves g c =
    let inside = c.self.inside in
    rw (← c.self.view_is)
    (length inside.pages.pages, past-view inside.next inside.next inside.config inside.recovered inside.writer.accesses.lru inside.writer.sticky_log inside.writer.sticky_log inside.pages.pages (length inside.pages.pages) (omega arith), leaves-same _ g.L.Log.tells (length inside.pages.pages) _)

pub add_page-added-requires-clause-there : goal.add_page-added-requires-clause-there
add_page-added-requires-clause-there g c =
    beside-long g.L.Log.tells g.L.Log.state c.self.inside.writer.sticky_log.log c.self.inside.pages.pages (c.self.invariant.whole.consistent.beside c.if-stuck.false)

pub get_mut-page-requires : goal.get_mut-page-requires
get_mut-page-requires g c =
    let pid = c.in-Some.pid in
    let last = last-read _ _ _ pid c.self.invariant.whole.consistent.free c.greatest.ensures c.in-Some.is in
    slice_get_within c.self.inside.pages.pages pid last.page (last-at _ _ pid last)

pub reuse_page-reused-requires-clause-there : goal.reuse_page-reused-requires-clause-there
reuse_page-reused-requires-clause-there g c = λ told.
    let pid = c.in-Some.pid in
    let last = last-read _ _ _ pid c.self.invariant.whole.consistent.free c.greatest.ensures c.in-Some.is in
    let within = slice_get_within c.self.inside.pages.pages pid last.page (last-at _ _ pid last) in
    let long = beside-long g.L.Log.tells g.L.Log.state c.self.inside.writer.sticky_log.log c.self.inside.pages.pages (c.self.invariant.whole.consistent.beside c.if-stuck.false) told in
    omega (arith, within, long)

pub invariant_of-self : goal.invariant_of-self
invariant_of-self g c =
    (added g.L.Log c.self.invariant c.if-stuck.false c.args.node (ends-nowhere _ (sym c.greatest.ensures ∙ c.in_default.is)) c.add_page-added.result c.add_page-added.ensures c.end_allocation.ensures.evicts _ (c.new-token.ensures ∙ ap (λ n. token n 1) c.len.ensures.number)).0

pub returns-in_default : goal.returns-in_default
returns-in_default g c =
    rw (c.end_allocation.ensures.answer, ← c.self.view_is)
    (added g.L.Log c.self.invariant c.if-stuck.false c.args.node (ends-nowhere _ (sym c.greatest.ensures ∙ c.in_default.is)) c.add_page-added.result c.add_page-added.ensures c.end_allocation.ensures.evicts _ (c.new-token.ensures ∙ ap (λ n. token n 1) c.len.ensures.number)).1

pub invariant_of-self-2 : goal.invariant_of-self-2
invariant_of-self-2 g c =
    (reused g.L.Log c.self.invariant c.if-stuck.false c.args.node (last-read _ _ _ c.in-Some.pid c.self.invariant.whole.consistent.free c.greatest.ensures c.in-Some.is) c.get_mut-page.ensures.page c.reuse_page-reused.new.page c.reuse_page-reused.result c.reuse_page-reused.ensures.put
    c.reuse_page-reused.ensures.taken c.reuse_page-reused.ensures.untaken c.end_allocation-2.ensures.evicts _ c.new-token-2.ensures).0

pub returns : goal.returns
returns g c =
    rw (c.end_allocation-2.ensures.answer, ← c.self.view_is)
    (reused g.L.Log c.self.invariant c.if-stuck.false c.args.node (last-read _ _ _ c.in-Some.pid c.self.invariant.whole.consistent.free c.greatest.ensures c.in-Some.is) c.get_mut-page.ensures.page c.reuse_page-reused.new.page c.reuse_page-reused.result c.reuse_page-reused.ensures.put
    c.reuse_page-reused.ensures.taken c.reuse_page-reused.ensures.untaken c.end_allocation-2.ensures.evicts _ c.new-token-2.ensures).1
