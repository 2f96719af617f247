use Rattle.sled_pagecache.proofs.Names.{arith, rules, CacheInfo, map-at, ◌≡◌, false, subst, Option, IfSome, is_misfit, Page, slice_get, slice_get_within}
use Rattle.sled_pagecache.proofs.Opening.RecoveredPages.{if-some}
use Rattle.sled_pagecache.proofs.pagecache.open.recovered_pages.misfit.Goals as goal

pub returns-in-loop-pid : goal.returns-in-loop-pid
returns-in-loop-pid c =
    let page = c.in-Some.page.now in
    let begins = map-at (λ (info : CacheInfo). info.pointer) page.infos.items 0 c.first_info.result c.first_info.ensures in
    record { pid = c.loop-pid.pid; page = page; is = c.in-Some.ensures; misfit = search rules; first = c.loop-pid.invariant; begins = begins }

pub returns : goal.returns
returns c =
    let pages = c.args.pages.now.pages in
    λ k. if-some (slice_get pages k) (λ page at.
    subst (λ (o : Option Page). IfSome o (λ page. is_misfit k page ≡ false)) at (c.loop-pid.invariant k (omega (arith, c.loop-pid-test.false, c.len-pid-end.ensures.number, slice_get_within pages k page at))))
