use Rattle.sled_pagecache.proofs.Names.{get_or_from_slice_get, map-append, refl, slice_get_within, take_more}
use Rattle.sled_pagecache.proofs.pagecache.calls.cache_shape.shapes_of.Goals as goal

pub loop-pid-preserved : goal.loop-pid-preserved
loop-pid-preserved c =
    let pages = c.args.pages.now.pages in
    let page = c.in-Some.page.now in
    let more = take_more pages c.loop-pid.pid page (slice_get_within pages c.loop-pid.pid page c.in-Some.ensures) in
    rw (c.in_ok-push.ensures.items, c.loop-pid.invariant, c.kind_of.ensures, more, get_or_from_slice_get pages c.loop-pid.pid page page c.in-Some.ensures, map-append) refl
