use Rattle.sled_pagecache.proofs.Names.{refl, rules}
use Rattle.sled_pagecache.proofs.CacheLog.StickyLogs.{went-called, chains-after}
use Rattle.sled_pagecache.proofs.pagecache.write.sticky_log.StickyLog.append.Goals as goal

pub returns : goal.returns
returns g c =
    let new = record c.args.self.now { log = c.append-outcome.new.self; fault = c.keep_fault.new.fault } in
    let went = went-called g.L.Log c.args.self.now new c.append-outcome.ensures.called c.requires.ready.clear c.keep_fault.ensures.kept refl (λ _. refl) in
    let chains = chains-after g.L.Log c.args.self.now new c.append-outcome.ensures.called c.requires.ready.clear c.keep_fault.ensures.kept in
    rw c.keep_fault.ensures.answer (search (rules, went, chains))
