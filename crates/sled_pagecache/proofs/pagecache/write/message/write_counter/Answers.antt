use Rattle.sled_pagecache.proofs.CacheLog.Writes.{writes-at}
use Rattle.sled_pagecache.proofs.Names.{Counter, Put, written-update}
use Rattle.sled_pagecache.proofs.pagecache.write.message.write_counter.Goals as goal

pub returns : goal.returns
returns g c = record { is = written-update (Put (Counter c.args.n)) c.ranges.n.fits; writes = writes-at g.L.Log c.new-token.ensures c.write.ensures }
