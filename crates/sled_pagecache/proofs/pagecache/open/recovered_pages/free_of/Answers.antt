use Rattle.sled_pagecache.proofs.Names.{◌≡◌, arith, rules, None, slice_get, past-end}
use Rattle.sled_pagecache.proofs.Opening.RecoveredPages.{free-taken, free-passed}
use Rattle.sled_pagecache.proofs.pagecache.open.recovered_pages.free_of.Goals as goal
use Rattle.sled_pagecache.proofs.pagecache.open.recovered_pages.free_of.Goals.{in-Some+then-is_free+in_ok-put, in_default, in_default-via-in-None-1, in_default-via-in-Some+else-is_free}

pub loop-pid-preserved : goal.loop-pid-preserved
loop-pid-preserved c =
    let pages = c.args.pages.now.pages in
    elim c.match-get.branch [
      | in-Some+then-is_free+in_ok-put w ↦ free-taken pages c.loop-pid.free.ids.keys _ c.loop-pid.pid c.loop-pid.invariant.0 c.loop-pid.invariant.1 w.in-Some.page.now w.in-Some.ensures (search rules) (search rules)
      | in_default w ↦ elim w.in_default.branch [
        | in_default-via-in-None-1 w' ↦ absurd (let none : slice_get pages c.loop-pid.pid ≡ None = search rules in let past = past-end pages c.loop-pid.pid none in omega (arith, past, c.loop-pid-test.true, c.len-pid-end.ensures.number))
        | in_default-via-in-Some+else-is_free w' ↦ free-passed pages c.loop-pid.free.ids.keys _ c.loop-pid.pid c.loop-pid.invariant.0 c.loop-pid.invariant.1 w'.in-Some.page.now w'.in-Some.ensures (search rules) (search rules)
      ]
    ]
