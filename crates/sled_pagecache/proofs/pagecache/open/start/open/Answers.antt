use Rattle.sled_pagecache.proofs.Names.{List, ◌∙◌, [], refl, ap, on_ok_weaker, AllZip-long, Chain, effect_of_entry, now, IsLoaded, events_at_start, refused-is, drop, roots_event, counter_event, ◌∷◌, length, arith}
use Rattle.sled_pagecache.proofs.CacheLog.LogCalls.{proceeds-then, proceeds-first}
use Rattle.sled_pagecache.proofs.Opening.OpenedPages.{changes-closed, stays-closed}
use Rattle.sled_pagecache.proofs.pagecache.open.start.open.Goals as goal

pub complete-requires-clause-closed : goal.complete-requires-clause-closed
complete-requires-clause-closed g c = stays-closed g.L.Log c.args.sticky_log.now c.load.new.sticky_log [] c.in_ok-pages.ensures.proceeds c.requires.closed refl

pub complete-requires-clause-unopened : goal.complete-requires-clause-unopened
complete-requires-clause-unopened g c = c.in_ok-pages.ensures.proceeds.reaches.batch ∙ c.requires.unopened

pub returns-in_err-pages-clause-proceeds : goal.returns-in_err-pages-clause-proceeds
returns-in_err-pages-clause-proceeds g c =
    let chains = now effect_of_entry (g.L.Log.state c.args.sticky_log.now.log) in
    rw (refused-is c.from_residual.result _ c.from_residual.ensures.1) (record {
      events = events_at_start chains;
      are = λ _. refl;
      marks = changes-closed (length chains);
      proceeds = proceeds-first g.L.Log c.args.sticky_log.now c.load.new.sticky_log [] (events_at_start chains) c.in_err-pages.field-0.0 c.in_err-pages.ensures.proceeds;
    })

pub returns-clause-proceeds : goal.returns-clause-proceeds
returns-clause-proceeds g c =
    let pages = c.in_ok-pages.pages.pages in
    let loaded = c.in_ok-pages.ensures in
    record {
      events = events_at_start pages;
      are = λ known. ap (λ n. drop n (roots_event ∷ counter_event ∷ [])) (AllZip-long IsLoaded _ pages (loaded.read.kept known)) ∙ ap (λ (l : List Chain). events_at_start l) (loaded.same known loaded.proceeds.fault);
      marks = changes-closed (length pages);
      proceeds = proceeds-then g.L.Log c.args.sticky_log.now c.load.new.sticky_log c.complete.new.sticky_log [] (events_at_start pages) _ loaded.proceeds c.complete.ensures.proceeds;
    }

pub returns-clause-stable : goal.returns-clause-stable
returns-clause-stable g c = λ told.
    let pages = c.in_ok-pages.pages.pages in
    let loaded = c.in_ok-pages.ensures in
    let long = AllZip-long IsLoaded _ pages (loaded.read.kept told) in
    let same = ap (λ (l : List Chain). length l) (loaded.same told loaded.proceeds.fault) in
    on_ok_weaker c.complete.result (λ stable few. stable (omega (arith, long, same, few))) c.complete.ensures.stable
