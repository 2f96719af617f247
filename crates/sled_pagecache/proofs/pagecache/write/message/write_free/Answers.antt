use Rattle.sled_pagecache.proofs.CacheLog.Writes.{writes-at}
use Rattle.sled_pagecache.proofs.Names.{Free, Put, written-update}
use Rattle.sled_pagecache.proofs.pagecache.write.message.write_free.Goals as goal

pub returns : goal.returns
returns g c = record { is = written-update (Put Free) tt; writes = writes-at g.L.Log c.new-token.ensures c.write.ensures }
