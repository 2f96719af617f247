use Rattle.sled_pagecache.proofs.Names.{rules, [], ◌∷◌, subst, length, DiskPtr, ℕ, ℤ, Change, CacheInfo, message, Went, IsCaused-handed_on, refused-is}
use Rattle.sled_pagecache.proofs.Links.LinkedChains.{begun-handed}
use Rattle.sled_pagecache.proofs.pagecache.write.message.write_payload.Goals as goal

pub returns-in_err-lsn : goal.returns-in_err-lsn
returns-in_err-lsn g c =
    let done = c.in_err-lsn.ensures in
    let old = c.args.sticky_log.now in
    let log = c.append.new.self in
    let went = subst (Went g.L.Log old log) (begun-handed (ℤ × DiskPtr × ℕ) CacheInfo c.in_err-lsn.field-0.0 (Change c.args.pid (message c.args.kind c.args.payload.now) ∷ [])) done.went in
    let cause = IsCaused-handed_on g.L.Log {U = CacheInfo} old log (g.L.Log.is_full old.log (length c.args.payload.now)) c.in_err-lsn.field-0.0 done.cause in
    rw (refused-is c.from_residual.result _ c.from_residual.ensures.1) (assumption (went, cause, done))

pub returns : goal.returns
returns g c =
    let done = c.in_ok-lsn.ensures in
    search (rules, done.chains)
