use Rattle.sled_pagecache.proofs.Names.{refl, rules}
use Rattle.sled_pagecache.proofs.CacheLog.StickyLogs.{quiet}
use Rattle.sled_pagecache.proofs.pagecache.write.sticky_log.StickyLog.read_to.Goals as goal

pub returns : goal.returns
returns g c =
    let new = record c.args.self.now { log = c.read_to-outcome.new.self; fault = c.keep_fault.new.fault } in
    let done = quiet g.L.Log c.args.self.now new c.read_to-outcome.ensures.called c.requires.ready.clear c.keep_fault.ensures.kept refl in
    search (rules, done)
