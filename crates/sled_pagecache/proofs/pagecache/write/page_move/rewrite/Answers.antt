use Rattle.sled_pagecache.proofs.Names.{inr, refl, rules, arith, refused-is}
use Rattle.sled_pagecache.proofs.CacheLog.Writes.{makes-written, refuses-memory, refuses-written}
use Rattle.sled_pagecache.proofs.pagecache.write.page_move.rewrite.Goals as goal

pub returns : goal.returns
returns g c =
    makes-written g.L.Log c.args.page.now.kept c.know_limits.ensures c.in_ok-info.ensures c.requires.there c.keep_moved.ensures.stamp c.keep_moved.ensures.stamp c.keep_moved.ensures.infos c.keep_moved.ensures.kept
    (omega (arith, c.size_with.ensures, c.payload_size-size.ensures.size)) c.in-Ok.ensures.accessed

-- the access was refused
pub returns-in_default : goal.returns-in_default
returns-in_default g c = refuses-memory g.L.Log c.requires.ready.clear c.requires.ready.usable (g.met.L.Log.only_now c.args.writer.now.sticky_log.log) c.payload_size-size.ensures.is tt refl (search rules)

-- the log refused it
pub returns-in_err-info : goal.returns-in_err-info
returns-in_err-info g c = rw (refused-is c.from_residual.result _ c.from_residual.ensures.1) (refuses-written g.L.Log c.in_err-info.ensures (λ of. of) refl (inr (_, c.in-Ok.ensures.accessed)))
