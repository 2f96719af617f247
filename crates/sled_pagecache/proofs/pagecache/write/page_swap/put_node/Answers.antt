use Rattle.sled_pagecache.proofs.Names.{inl, inr, refl, Node, Put, StampUsedUp, written-update}
use Rattle.sled_pagecache.proofs.CacheLog.Writes.{refuses-memory, refuses-unasked}
use Rattle.sled_pagecache.proofs.pagecache.write.page_swap.put_node.Goals as goal

-- the stamp is the greatest
pub returns-then-page : goal.returns-then-page
returns-then-page g c = refuses-unasked g.L.Log c.requires.ready.clear c.requires.ready.usable (g.met.L.Log.only_now c.args.writer.now.sticky_log.log) StampUsedUp (λ is. cc) (written-update (Put (Node c.args.node)) c.data.ensures.well_formed) (inl (c.if-page.true, refl)) refl

-- there was no memory for the node
pub returns-in_default : goal.returns-in_default
returns-in_default g c = refuses-memory g.L.Log c.requires.ready.clear c.requires.ready.usable (g.met.L.Log.only_now c.args.writer.now.sticky_log.log) (written-update (Put (Node c.args.node)) c.data.ensures.well_formed) (inr (c.if-page.false, tt)) refl (inl refl)
