use Rattle.sled_pagecache.proofs.CacheLog.Writes.{writes-at}
use Rattle.sled_pagecache.proofs.Names.{Link, written-update}
use Rattle.sled_pagecache.proofs.pagecache.write.message.write_link.Goals as goal

pub returns : goal.returns
returns g c = record { is = written-update (Link c.args.link.now) c.requires.short; writes = writes-at g.L.Log c.new-token.ensures c.write.ensures }
