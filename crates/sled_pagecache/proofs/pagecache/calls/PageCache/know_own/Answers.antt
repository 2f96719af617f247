use Rattle.sled_pagecache.proofs.Names.{◌≤◌, length, length-map, subst, arith, Cache, Page}
use Rattle.sled_pagecache.proofs.pagecache.calls.PageCache.know_own.Goals as goal

pub returns : goal.returns
returns g c =
    let pages = c.self.inside.pages.pages in
    let both = c.self.invariant.whole.consistent.both in
    subst (λ (cache : Cache _). 2 ≤ length cache.stamps) c.self.view_is (omega (arith, both, length-map pages (λ (page : Page). page.stamp)))
