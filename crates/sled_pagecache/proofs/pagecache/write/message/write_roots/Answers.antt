use Rattle.sled_pagecache.proofs.CacheLog.Writes.{writes-at}
use Rattle.sled_pagecache.proofs.Names.{Roots, Put, written-update}
use Rattle.sled_pagecache.proofs.pagecache.write.message.write_roots.Goals as goal

pub returns : goal.returns
returns g c = record { is = written-update (Put (Roots c.args.roots.now)) c.requires.can_write; writes = writes-at g.L.Log c.new-token.ensures c.write.ensures }
