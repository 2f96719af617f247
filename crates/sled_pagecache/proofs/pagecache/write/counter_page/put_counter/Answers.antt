use Rattle.sled_pagecache.proofs.Names.{inl, inr, refl, rules, arith, Put, Counter, StampUsedUp, written-update, refused-is}
use Rattle.sled_pagecache.proofs.CacheLog.Writes.{makes-written, refuses-memory, refuses-unasked, refuses-written}
use Rattle.sled_pagecache.specs.declared.pagecache.table.page_entry.PageContent.TheVariants as page_content
use Rattle.sled_pagecache.proofs.pagecache.write.counter_page.put_counter.Goals as goal

pub returns-clause-put : goal.returns-clause-put
returns-clause-put g c =
    makes-written g.L.Log (page_content.Counter c.args.n) (omega arith) c.in_ok-info.ensures.wrote c.requires.there (search rules) c.keep_alone.ensures.stamp c.keep_alone.ensures.infos c.keep_alone.ensures.kept
    (omega (arith, c.size_with.ensures, c.serialized_size-payload.ensures)) c.in-Ok.ensures.accessed

-- the stamp is the greatest
pub returns-then-page-clause-put : goal.returns-then-page-clause-put
returns-then-page-clause-put g c = refuses-unasked g.L.Log c.requires.ready.clear c.requires.ready.usable (search rules) StampUsedUp (λ is. cc) (written-update (Put (Counter c.args.n)) (omega arith)) (inl (c.if-page.true, refl)) refl

-- the access was refused
pub returns-in_default-clause-put : goal.returns-in_default-clause-put
returns-in_default-clause-put g c = refuses-memory g.L.Log c.requires.ready.clear c.requires.ready.usable (g.met.L.Log.only_now c.args.writer.now.sticky_log.log) (written-update (Put (Counter c.args.n)) (omega arith)) (inr (c.if-page.false, tt)) refl (search rules)

-- the log refused it
pub returns-in_err-info-clause-put : goal.returns-in_err-info-clause-put
returns-in_err-info-clause-put g c = rw (refused-is c.from_residual.result _ c.from_residual.ensures.1) (refuses-written g.L.Log c.in_err-info.ensures.wrote (λ of. inr (c.if-page.false, of)) refl (inr (_, c.in-Ok.ensures.accessed)))
