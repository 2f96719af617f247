use Rattle.sled_pagecache.proofs.Names.{◌≤◌, ◌<◌, ◌^◌, length, sym, arith, rules, AllZip-long, IsPageState, IsRecovered}
use Rattle.sled_pagecache.proofs.pagecache.open.start.recover_pages.Goals as goal

pub returns-then-len-gt-MAX_PAGES-clause-refused : goal.returns-then-len-gt-MAX_PAGES-clause-refused
returns-then-len-gt-MAX_PAGES-clause-refused g c = λ told.
    let more : 2 ^ 37 < length c.in_ok-states.states.items = search rules in
    omega (arith, AllZip-long IsPageState _ c.in_ok-states.states.items (c.in_ok-states.ensures.pages told), more)

pub returns-clause-pages : goal.returns-clause-pages
returns-clause-pages g c =
    let made = c.in-Ok.ensures in
    let log = c.in_ok-states.ensures in
    let few : length c.in_ok-states.states.items ≤ 2 ^ 37 = search rules in
    let long = AllZip-long IsRecovered c.in_ok-states.states.items c.in-Ok.pages.pages (rw (sym c.deref.ensures.value) made.recovered) in
    record { kept = λ known. made.loaded _ (rw c.deref.ensures.value (log.pages known)); hold = made.unread; few = omega (arith, long, few); chains_are = log.chains; sized = log.sized }
