use Rattle.sled_pagecache.proofs.Names.{rules}
use Rattle.sled_pagecache.proofs.CacheLog.Writes.{writes-no-map}
use Rattle.sled_pagecache.proofs.pagecache.write.root_page.put_payload.Goals as goal

pub returns-in_default : goal.returns-in_default
returns-in_default g c = rw (c.in_default.ensures.err) (writes-no-map g.L.Log c.requires.ready.clear c.requires.ready.usable (g.met.L.Log.only_now c.args.writer.now.sticky_log.log))

pub returns : goal.returns
returns g c = record { writes = c.write_payload.ensures; accessed = search rules; touched = search rules }
