use Rattle.sled_pagecache.proofs.Names.{rules}
use Rattle.sled_pagecache.proofs.pagecache.write.token_check.judge.Goals as goal

pub returns : goal.returns
returns c = (c.in-Some.page.now, record { clear = c.if-fault.false; behind = search rules; at = c.in-Some.ensures; full = search rules; stamp = search rules })
