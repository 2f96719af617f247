use Rattle.sled_pagecache.proofs.Names.{HasNoNode, IsResident, access_size, size_if, ap, ◌∙◌, refl, arith, slice_get_within, is_free, Freed, on_ok_weaker}
use Rattle.sled_pagecache.proofs.Memory.SettledAppends.{swap-ended, swap-rejected}
use Rattle.sled_pagecache.proofs.Table.FreeIds.{lacks-at, freed-at}
use Rattle.sled_pagecache.proofs.Memory.ResidentPages.{set-none}
use Rattle.sled_pagecache.proofs.Steps.TokenCheck.{free-swap, unswapped, fresh-at}
use Rattle.sled_pagecache.proofs.Table.StatePages.{beside-long}
use Rattle.sled_pagecache.specs.declared.pagecache.handles.call.Call.TheVariants as call
use Rattle.sled_pagecache.specs.declared.pagecache.table.page_entry.PageContent.TheVariants as page_content
use Rattle.sled_pagecache.proofs.pagecache.calls.PageCache.free.Goals as goal

pub returns-in-Err : goal.returns-in-Err
returns-in-Err g c =
    rw (← c.self.view_is) (swap-rejected g.L.Log _ (λ cache. IsResident cache c.args.pid × HasNoNode cache c.args.pid) c.answer.result c.self.invariant.bounded
    (unswapped g.L.Log _ _ _ _ _ _ c.self.invariant.whole.consistent.beside (g.met.L.Log.only_now _) c.args.old c.args.pid c.requires tt (call.Free c.args.old) Freed _
    (free-swap g.L.Log _ c.args.old) c.in-Err.rejection c.in-Err.ensures c.answer.result c.answer.ensures))

pub get_mut-page-requires : goal.get_mut-page-requires
get_mut-page-requires g c = slice_get_within _ c.args.pid _ c.in-Ok.ensures.1.at

pub free_page-freed-requires-clause-there : goal.free_page-freed-requires-clause-there
free_page-freed-requires-clause-there g c = λ told.
    let fresh = c.in-Ok.ensures.1 in
    let within = slice_get_within _ c.args.pid _ fresh.at in
    let long = beside-long g.L.Log.tells g.L.Log.state c.self.inside.writer.sticky_log.log c.self.inside.pages.pages (c.self.invariant.whole.consistent.beside fresh.clear) told in
    omega (arith, within, long)

pub free_page-freed-requires-clause-lacks : goal.free_page-freed-requires-clause-lacks
free_page-freed-requires-clause-lacks g c = lacks-at _ _ c.args.pid _ c.self.invariant.whole.consistent.free c.in-Ok.ensures.1.at c.in-Ok.ensures.1.full

pub invariant_of-self : goal.invariant_of-self
invariant_of-self g c =
    let inside = c.self.inside in
    let fresh = fresh-at c.in-Ok.ensures c.get_mut-page.ensures.page in
    let page = c.free_page-freed.new.page in
    let done = c.free_page-freed.ensures in
    (swap-ended g.L.Log c.self.invariant fresh c.requires tt page_content.Free tt (call.Free c.args.old) Freed (free-swap g.L.Log _ c.args.old) (λ cache. IsResident cache c.args.pid × HasNoNode cache c.args.pid)
    page _ c.new-token.ensures c.free_page-freed.result done.put tt refl
    (on_ok_weaker c.free_page-freed.result (λ freed holds. freed ∙ freed-at _ _ c.args.pid _ _ c.self.invariant.whole.consistent.free fresh.at fresh.full (ap is_free holds)) done.freed, done.unfreed) c.end_swap.ensures.evicts
    (λ holds there none. (there, none (set-none inside.next inside.next inside.config inside.recovered inside.writer.accesses.lru inside.writer.sticky_log c.free_page-freed.new.writer.sticky_log inside.pages.pages c.args.pid _ page fresh.at (ap (size_if (access_size page)) holds))))).0

pub returns : goal.returns
returns g c =
    let inside = c.self.inside in
    let fresh = fresh-at c.in-Ok.ensures c.get_mut-page.ensures.page in
    let page = c.free_page-freed.new.page in
    let done = c.free_page-freed.ensures in
    rw (c.end_swap.ensures.answer, ← c.self.view_is)
    (swap-ended g.L.Log c.self.invariant fresh c.requires tt page_content.Free tt (call.Free c.args.old) Freed (free-swap g.L.Log _ c.args.old) (λ cache. IsResident cache c.args.pid × HasNoNode cache c.args.pid)
    page _ c.new-token.ensures c.free_page-freed.result done.put tt refl
    (on_ok_weaker c.free_page-freed.result (λ freed holds. freed ∙ freed-at _ _ c.args.pid _ _ c.self.invariant.whole.consistent.free fresh.at fresh.full (ap is_free holds)) done.freed, done.unfreed) c.end_swap.ensures.evicts
    (λ holds there none. (there, none (set-none inside.next inside.next inside.config inside.recovered inside.writer.accesses.lru inside.writer.sticky_log c.free_page-freed.new.writer.sticky_log inside.pages.pages c.args.pid _ page fresh.at (ap (size_if (access_size page)) holds))))).1
