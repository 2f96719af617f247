use Rattle.sled_pagecache.proofs.Names.{refl}
use Rattle.sled_pagecache.proofs.pagecache.write.root_page.own_roots.Goals as goal

pub returns : goal.returns
returns c = rw (c.new.ensures.meta, c.new.ensures.token, c.new-token.ensures, c.as_meta.ensures) (c.if-fault.false, refl, record { page = c.in-Some.page.now; at = c.in-Some.ensures; kept = c.in-Roots.is; stamp = refl })
