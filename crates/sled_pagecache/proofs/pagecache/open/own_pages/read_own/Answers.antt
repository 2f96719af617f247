use Rattle.sled_pagecache.proofs.Names.{CacheInfo, SFits, [], map-at, Some, sym, ◌∙◌, rules, of_z, to_z, to_z-of_z, w64, Corruption, chain_at}
use Rattle.sled_log.specs.Payloads.{payload_in}
use Rattle.sled_pagecache.proofs.Opening.OwnPages.{misfit-unfit, first-pointer, fits-one, only-full, only-known, only-read}
use Rattle.sled_pagecache.proofs.CacheLog.LogCalls.{proceeds-not}
use Rattle.sled_pagecache.proofs.Table.StatePages.{kept-free}
use Rattle.sled_pagecache.proofs.pagecache.open.own_pages.read_own.Goals as goal

pub returns-then-is_misfit-clause-proceeds : goal.returns-then-is_misfit-clause-proceeds
returns-then-is_misfit-clause-proceeds g c =
    let sticky_log = c.args.sticky_log.now in
    proceeds-not g.L.Log sticky_log (g.met.L.Log.only_now sticky_log.log) c.requires.ready.clear c.requires.ready.usable [] (Corruption (Some c.first_info.result.pointer)) tt

pub returns-then-is_misfit-clause-refused : goal.returns-then-is_misfit-clause-refused
returns-then-is_misfit-clause-refused g c = λ told.
    let chain = chain_at (g.L.Log.state c.args.sticky_log.now.log) c.args.pid in
    let page = c.args.page.now in (
      misfit-unfit c.args.pid chain page (c.requires.loaded told) (sym c.is_misfit.ensures ∙ c.if-is_misfit.true),
      first-pointer chain page.infos.items c.first_info.result.pointer (c.requires.loaded told).kept.at (map-at (λ (info : CacheInfo). info.pointer) page.infos.items 0 c.first_info.result c.first_info.ensures),
    )

-- the page has one message, which the log holds where the page keeps it
pub read_to-requires-clause-known : goal.read_to-requires-clause-known
read_to-requires-clause-known g c = λ told.
    let chain = chain_at (g.L.Log.state c.args.sticky_log.now.log) c.args.pid in
    let page = c.args.page.now in
    let info : CacheInfo = c.first_info-info.result in
    let fits : SFits w64 info.lsn = search rules in
    let sole = fits-one c.args.pid page c.requires.own (search rules) (sym c.is_misfit.ensures ∙ c.if-is_misfit.false) in
    only-known chain page.infos.items info (to_z w64 (of_z w64 info.lsn)) ((c.requires.loaded told).kept.places sole.1) sole.0 c.first_info-info.ensures (to_z-of_z w64 info.lsn fits)

pub returns-then-eq-clause-refused : goal.returns-then-eq-clause-refused
returns-then-eq-clause-refused g c = λ told.
    let chain = chain_at (g.L.Log.state c.args.sticky_log.now.log) c.args.pid in
    let page = c.args.page.now in
    let info : CacheInfo = c.first_info-info.result in
    let fits : SFits w64 info.lsn = search rules in
    let sole = fits-one c.args.pid page c.requires.own (search rules) (sym c.is_misfit.ensures ∙ c.if-is_misfit.false) in
    let loaded = c.requires.loaded told in
    let bytes = payload_in c.read_to.new.space c.in_ok-kind.payload in
    let only =
    only-read chain page.infos.items info (to_z w64 (of_z w64 info.lsn)) (loaded.kept.places sole.1) sole.0 c.first_info-info.ensures (to_z-of_z w64 info.lsn fits) c.in_ok-kind.kind bytes (c.in_ok-kind.ensures.found told) in
    only-full chain c.in_ok-kind.kind bytes info.pointer only (kept-free chain page.kept loaded.kept.holds ∙ sole.1) (search rules)

pub returns-clause-found : goal.returns-clause-found
returns-clause-found g c = λ told.
    let chain = chain_at (g.L.Log.state c.args.sticky_log.now.log) c.args.pid in
    let page = c.args.page.now in
    let info : CacheInfo = c.first_info-info.result in
    let fits : SFits w64 info.lsn = search rules in
    let sole = fits-one c.args.pid page c.requires.own (search rules) (sym c.is_misfit.ensures ∙ c.if-is_misfit.false) in
    only-read chain page.infos.items info (to_z w64 (of_z w64 info.lsn)) ((c.requires.loaded told).kept.places sole.1) sole.0 c.first_info-info.ensures (to_z-of_z w64 info.lsn fits)
    c.in_ok-kind.kind (payload_in c.read_to.new.space c.in_ok-kind.payload) (c.in_ok-kind.ensures.found told)
