use Rattle.sled_pagecache.proofs.CacheLog.Writes.{writes-none}
use Rattle.sled_pagecache.proofs.pagecache.write.message.write.Goals as goal

pub returns-in_default : goal.returns-in_default
returns-in_default g c = writes-none g.L.Log c.requires.ready.clear c.requires.ready.usable (g.met.L.Log.only_now c.args.sticky_log.now.log)
