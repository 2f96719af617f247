use Rattle.sled_pagecache.proofs.Names.{List, subst, ◌≡◌, [], length, None, Some, ap, arith, AllZip-long, Corruption, Chain, effect_of_entry, now, own_among, IsLoaded, RefusesPages, refused-is, zip-second, slice_get_within}
use Rattle.sled_pagecache.proofs.CacheLog.LogCalls.{proceeds-then, proceeds-refused}
use Rattle.sled_pagecache.proofs.Memory.ReadCounts.{read-loaded, read-then}
use Rattle.sled_pagecache.proofs.Opening.OwnPages.{misfit-unfit, first-pointer}
use Rattle.sled_pagecache.proofs.Opening.OpenedPages.{amiss-refuses, fits-at}
use Rattle.sled_pagecache.proofs.pagecache.open.start.load.Goals as goal

pub returns-in_err-counter-clause-proceeds : goal.returns-in_err-counter-clause-proceeds
returns-in_err-counter-clause-proceeds g c =
    rw (refused-is c.from_residual-in_err-counter.result _ c.from_residual-in_err-counter.ensures.1) (proceeds-then g.L.Log c.args.sticky_log.now c.recover_pages.new.sticky_log c.read_system_pages.new.sticky_log [] [] _ c.in_ok-pages.ensures.proceeds c.in_err-counter.ensures.proceeds)

pub returns-in-Some-clause-proceeds : goal.returns-in-Some-clause-proceeds
returns-in-Some-clause-proceeds g c =
    proceeds-refused g.L.Log c.args.sticky_log.now c.read_system_pages.new.sticky_log [] (Corruption (Some c.in-Some.pointer)) tt
    (proceeds-then g.L.Log c.args.sticky_log.now c.recover_pages.new.sticky_log c.read_system_pages.new.sticky_log [] [] None c.in_ok-pages.ensures.proceeds c.in_ok-counter.ensures.proceeds)

pub returns-in-Some-clause-refused : goal.returns-in-Some-clause-refused
returns-in-Some-clause-refused g c = λ told.
    let same = c.in_ok-pages.ensures.same told c.in_ok-pages.ensures.proceeds.fault in
    let read = c.in_ok-counter.ensures.read in
    let loaded = read.kept told in
    let begins = c.in-Some.ensures in
    let at = zip-second IsLoaded _ _ begins.pid begins.page [] loaded begins.is in
    subst (λ (l : List Chain). RefusesPages l (Corruption (Some c.in-Some.pointer))) same
    (amiss-refuses begins.pid _ _ c.in-Some.pointer loaded read.few (slice_get_within _ begins.pid begins.page begins.is) (λ before le. fits-at _ _ _ loaded read.hold before (begins.first before le))
    (misfit-unfit begins.pid _ begins.page at begins.misfit, first-pointer _ begins.page.infos.items c.in-Some.pointer at.kept.at begins.begins))

pub returns-in-None-clause-proceeds : goal.returns-in-None-clause-proceeds
returns-in-None-clause-proceeds g c =
    proceeds-then g.L.Log c.args.sticky_log.now c.recover_pages.new.sticky_log c.read_system_pages.new.sticky_log [] [] None c.in_ok-pages.ensures.proceeds c.in_ok-counter.ensures.proceeds

pub returns-in-None-clause-read : goal.returns-in-None-clause-read
returns-in-None-clause-read g c =
    let done = c.in_ok-counter.ensures in
    let read = done.read in
    record {
      kept = λ told. rw (done.same told done.proceeds.fault) (read.kept told);
      hold = read.hold;
      few = read.few;
      chains_are = λ told. rw (done.same told done.proceeds.fault) (read.chains_are told);
      sized = λ told. rw (done.same told done.proceeds.fault) (read.sized told);
    }

pub returns-in_err-pages-clause-reads : goal.returns-in_err-pages-clause-reads
returns-in_err-pages-clause-reads g c = λ told. rw (refused-is c.from_residual.result _ c.from_residual.ensures.1) (record { whole = tt; part = (0, omega arith, c.in_err-pages.ensures.unread) })

pub returns-in_err-counter-clause-reads : goal.returns-in_err-counter-clause-reads
returns-in_err-counter-clause-reads g c = λ told.
    let chains = now effect_of_entry (g.L.Log.state c.args.sticky_log.now.log) in
    let pages = c.in_ok-pages.pages.pages in
    let same : own_among (length pages) ≡ own_among (length chains) = ap own_among (AllZip-long IsLoaded chains pages (c.in_ok-pages.ensures.pages.kept told)) in
    rw (refused-is c.from_residual-in_err-counter.result _ c.from_residual-in_err-counter.ensures.1)
    (read-then g.L.Log.counts c.args.sticky_log.now.log c.recover_pages.new.sticky_log.log c.read_system_pages.new.sticky_log.log 0 (own_among (length pages)) (own_among (length chains)) c.in_err-counter.field-0.0 _
    (omega (arith, same)) c.in_ok-pages.ensures.unread c.in_err-counter.ensures.reads)

pub returns-in-Some-clause-reads : goal.returns-in-Some-clause-reads
returns-in-Some-clause-reads g c = λ told.
    let n = own_among (length (now effect_of_entry (g.L.Log.state c.args.sticky_log.now.log))) in
    record { whole = tt; part = (n, omega arith, read-loaded g.L.Log.counts _ _ _ _ c.in_ok-pages.pages.pages (c.in_ok-pages.ensures.pages.kept told) c.in_ok-pages.ensures.unread c.in_ok-counter.ensures.reads.whole) }

pub returns-in-None-clause-reads : goal.returns-in-None-clause-reads
returns-in-None-clause-reads g c = λ told. record { whole = read-loaded g.L.Log.counts _ _ _ _ c.in_ok-pages.pages.pages (c.in_ok-pages.ensures.pages.kept told) c.in_ok-pages.ensures.unread c.in_ok-counter.ensures.reads.whole; part = tt }
