use Rattle.sled_pagecache.proofs.Names.{get_or_from_slice_get, slice_get_within, sym, subst}
use Rattle.sled_pagecache.proofs.Opening.RecoveredPages.{zip-more}
use Rattle.sled_pagecache.proofs.pagecache.calls.fuzzy_snapshot.states_of.Goals as goal
use Rattle.sled_pagecache.specs.Table.{IsSaidBy}

pub loop-pid-preserved : goal.loop-pid-preserved
loop-pid-preserved c =
    let pages = c.args.pages.now.pages in
    let pid = c.loop-pid.pid in
    let page = c.in-Some.page.now in
    let state = c.in_ok-to_page_state.field-0 in
    rw c.in_ok-push.ensures.items
    (zip-more IsSaidBy pages c.loop-pid.states.items pid page state (slice_get_within pages pid page c.in-Some.ensures) c.loop-pid.invariant
    (subst (λ p. IsSaidBy p state) (sym (get_or_from_slice_get pages pid page page c.in-Some.ensures)) c.in_ok-to_page_state.ensures))
