use Rattle.sled_pagecache.proofs.Names.{[], ◌∷◌, sym, refl, arith, Err, OutOfMemory, Counter, counter_event, CacheInfo, refused-is}
use Rattle.sled_pagecache.proofs.CacheLog.LogCalls.{proceeds-not, proceeds-unplaced}
use Rattle.sled_pagecache.proofs.Opening.OpenedPages.{own-table}
use Rattle.sled_pagecache.proofs.pagecache.open.own_pages.add_counter.Goals as goal

pub returns-in_default-clause-proceeds : goal.returns-in_default-clause-proceeds
returns-in_default-clause-proceeds g c =
    let sticky_log = c.args.sticky_log.now in
    proceeds-not g.L.Log sticky_log (g.met.L.Log.only_now sticky_log.log) c.requires.ready.clear c.requires.ready.usable (counter_event ∷ []) OutOfMemory tt

pub returns-in_err-info-clause-proceeds : goal.returns-in_err-info-clause-proceeds
returns-in_err-info-clause-proceeds g c =
    let sticky_log = c.args.sticky_log.now in
    rw (refused-is c.from_residual.result _ c.from_residual.ensures.1)
    (proceeds-unplaced g.L.Log sticky_log (g.met.L.Log.only_now sticky_log.log) c.requires.ready.clear c.requires.ready.usable {T = CacheInfo} c.write_counter.new.sticky_log counter_event (Err c.in_err-info.field-0.0) c.in_err-info.ensures.writes.went c.in_err-info.ensures.writes.cause)

pub returns-clause-table : goal.returns-clause-table
returns-clause-table g c =
    let pages = c.args.pages.now.pages in
    rw (c.push_reserved.ensures, c.reserve.ensures.same)
    (own-table g.L.Log c.args.sticky_log.now c.write_counter.new.sticky_log 1 1 (Counter 0) c.in_ok-info.info c.in_ok-info.ensures pages _
    c.requires.table (sym c.requires.one) (omega arith) refl c.one.ensures (λ chain makes. makes) tt)
