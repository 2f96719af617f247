use Rattle.sled_pagecache.proofs.Names.{inl, inr, refl, rules, arith, StampUsedUp, refused-is}
use Rattle.sled_pagecache.proofs.CacheLog.Writes.{makes-written, refuses-memory, refuses-unasked, refuses-written}
use Rattle.sled_pagecache.proofs.pagecache.write.page_swap.put_page.Goals as goal

pub returns : goal.returns
returns g c =
    makes-written g.L.Log c.args.kept c.requires.can_put c.in_ok-info.ensures c.requires.there (search rules) c.keep_alone.ensures.stamp c.keep_alone.ensures.infos c.keep_alone.ensures.kept
    (omega (arith, c.size_with.ensures, c.payload_size-payload.ensures.size)) c.in-Ok.ensures.accessed

-- the stamp is the greatest
pub returns-then-page : goal.returns-then-page
returns-then-page g c = refuses-unasked g.L.Log c.requires.ready.clear c.requires.ready.usable (search rules) StampUsedUp (λ is. cc) c.payload_size-payload.ensures.is (inl (c.if-page.true, refl)) refl

-- the access was refused
pub returns-in_default : goal.returns-in_default
returns-in_default g c = refuses-memory g.L.Log c.requires.ready.clear c.requires.ready.usable (g.met.L.Log.only_now c.args.writer.now.sticky_log.log) c.payload_size-payload.ensures.is (inr (c.if-page.false, tt)) refl (search rules)

-- the log refused it
pub returns-in_err-info : goal.returns-in_err-info
returns-in_err-info g c = rw (refused-is c.from_residual.result _ c.from_residual.ensures.1) (refuses-written g.L.Log c.in_err-info.ensures (λ of. inr (c.if-page.false, of)) refl (inr (_, c.in-Ok.ensures.accessed)))
