use Rattle.sled_pagecache.proofs.Names.{IsResident, ap, ◌∙◌, sym, refl, arith, slice_get_within, is_free, Replaced}
use Rattle.sled_pagecache.proofs.Memory.SettledAppends.{either-way, puts-alone, swap-ended, swap-rejected}
use Rattle.sled_pagecache.proofs.Steps.TokenCheck.{replace-swap, unswapped, fresh-at}
use Rattle.sled_pagecache.proofs.Table.StatePages.{beside-long}
use Rattle.sled_pagecache.proofs.Table.ChangedTables.{free-same}
use Rattle.sled_pagecache.specs.declared.pagecache.handles.call.Call.TheVariants as call
use Rattle.sled_pagecache.specs.declared.pagecache.table.page_entry.PageContent.TheVariants as page_content
use Rattle.sled_pagecache.proofs.pagecache.calls.PageCache.replace_alone.Goals as goal

pub returns-in-Err : goal.returns-in-Err
returns-in-Err g c =
    rw (← c.self.view_is) (puts-alone g.L.Log _ _ c.args.pid c.args.old c.args.node c.answer.result (swap-rejected g.L.Log _ (λ cache. IsResident cache c.args.pid) c.answer.result c.self.invariant.bounded
    (unswapped g.L.Log _ _ _ _ _ _ c.self.invariant.whole.consistent.beside (g.met.L.Log.only_now _) c.args.old c.args.pid c.requires c.args.node (call.Replace c.args.old c.args.node) Replaced _
    (replace-swap g.L.Log _ c.args.old c.args.node) c.in-Err.rejection c.in-Err.ensures c.answer.result c.answer.ensures)))

pub get_mut-page-requires : goal.get_mut-page-requires
get_mut-page-requires g c = slice_get_within _ c.args.pid _ c.in-Ok.ensures.1.at

pub put_node-put-requires-clause-there : goal.put_node-put-requires-clause-there
put_node-put-requires-clause-there g c = λ told.
    let fresh = c.in-Ok.ensures.1 in
    let within = slice_get_within _ c.args.pid _ fresh.at in
    let long = beside-long g.L.Log.tells g.L.Log.state c.self.inside.writer.sticky_log.log c.self.inside.pages.pages (c.self.invariant.whole.consistent.beside fresh.clear) told in
    omega (arith, within, long)

pub invariant_of-self : goal.invariant_of-self
invariant_of-self g c =
    let fresh = fresh-at c.in-Ok.ensures c.get_mut-page.ensures.page in
    (swap-ended g.L.Log c.self.invariant fresh c.requires c.args.node (page_content.Node c.args.node) tt (call.Replace c.args.old c.args.node) Replaced (replace-swap g.L.Log _ c.args.old c.args.node) (λ cache. IsResident cache c.args.pid)
    c.put_node-put.new.page _ c.new-token.ensures c.put_node-put.result c.put_node-put.ensures tt refl
    (either-way c.put_node-put.result (λ holds. c.self.invariant.whole.consistent.free ∙ sym (free-same 0 _ c.args.pid _ _ fresh.at (ap is_free holds ∙ sym fresh.full))) refl) c.end_swap.ensures.evicts (λ holds there none. there)).0

pub returns : goal.returns
returns g c =
    let fresh = fresh-at c.in-Ok.ensures c.get_mut-page.ensures.page in
    rw (c.end_swap.ensures.answer, ← c.self.view_is)
    (puts-alone g.L.Log _ _ c.args.pid c.args.old c.args.node _ (swap-ended g.L.Log c.self.invariant fresh c.requires c.args.node (page_content.Node c.args.node) tt (call.Replace c.args.old c.args.node) Replaced (replace-swap g.L.Log _ c.args.old c.args.node) (λ cache. IsResident cache c.args.pid)
    c.put_node-put.new.page _ c.new-token.ensures c.put_node-put.result c.put_node-put.ensures tt refl
    (either-way c.put_node-put.result (λ holds. c.self.invariant.whole.consistent.free ∙ sym (free-same 0 _ c.args.pid _ _ fresh.at (ap is_free holds ∙ sym fresh.full))) refl) c.end_swap.ensures.evicts (λ holds there none. there)).1)
