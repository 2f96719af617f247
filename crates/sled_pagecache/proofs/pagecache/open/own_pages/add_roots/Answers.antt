use Rattle.sled_pagecache.proofs.Names.{[], ◌∷◌, ◌∙◌, length, sym, refl, ap, arith, rules, Err, OutOfMemory, Roots, events_of_roots, CacheInfo, nil_from_length, refused-is, subst, Some, Put, Change, Proceeds, message_of}
use Rattle.sled_pagecache.proofs.CacheLog.LogCalls.{proceeds-not, proceeds-unplaced}
use Rattle.sled_pagecache.proofs.Opening.OpenedPages.{own-table}
use Rattle.sled_pagecache.proofs.pagecache.open.own_pages.add_roots.Goals as goal

pub returns-in_default-clause-proceeds : goal.returns-in_default-clause-proceeds
returns-in_default-clause-proceeds g c =
    let sticky_log = c.args.sticky_log.now in
    proceeds-not g.L.Log sticky_log (g.met.L.Log.only_now sticky_log.log) c.requires.ready.clear c.requires.ready.usable (events_of_roots c.args.pages.now.pages) OutOfMemory tt

pub returns-in_default-new-clause-proceeds : goal.returns-in_default-new-clause-proceeds
returns-in_default-new-clause-proceeds g c =
    let sticky_log = c.args.sticky_log.now in
    proceeds-not g.L.Log sticky_log (g.met.L.Log.only_now sticky_log.log) c.requires.ready.clear c.requires.ready.usable (events_of_roots c.args.pages.now.pages) OutOfMemory tt

pub returns-in_err-info-clause-proceeds : goal.returns-in_err-info-clause-proceeds
returns-in_err-info-clause-proceeds g c =
    let sticky_log = c.args.sticky_log.now in
    let writes = c.in_err-info.ensures.writes in
    rw (refused-is c.from_residual.result _ c.from_residual.ensures.1, nil_from_length c.args.pages.now.pages (search rules))
    (subst (λ roots. Proceeds g.L.Log sticky_log c.write_roots.new.sticky_log (Change 0 (message_of (Put (Roots roots))) ∷ []) (Some c.in_err-info.field-0.0)) (c.as_meta-roots.ensures ∙ c.in-Ok-new.ensures ∙ c.default.ensures)
    (proceeds-unplaced g.L.Log sticky_log (g.met.L.Log.only_now sticky_log.log) c.requires.ready.clear c.requires.ready.usable {T = CacheInfo} c.write_roots.new.sticky_log _ (Err c.in_err-info.field-0.0) writes.went writes.cause))

pub returns-clause-table : goal.returns-clause-table
returns-clause-table g c =
    let pages = c.args.pages.now.pages in
    let none = nil_from_length pages (search rules) in
    rw (c.push_reserved.ensures, c.reserve.ensures.same, ← c.as_meta-roots.ensures)
    (own-table g.L.Log c.args.sticky_log.now c.write_roots.new.sticky_log 0 1 (Roots c.as_meta-roots.result.now) c.in_ok-info.info c.in_ok-info.ensures pages _
    c.requires.table (sym (ap length none)) (omega arith) refl c.one.ensures (λ chain makes. makes) tt)
