use Rattle.sled_pagecache.proofs.Names.{refl, rules}
use Rattle.sled_pagecache.proofs.CacheLog.StickyLogs.{marked}
use Rattle.sled_pagecache.proofs.pagecache.write.sticky_log.StickyLog.close.Goals as goal

pub returns-in-Seal : goal.returns-in-Seal
returns-in-Seal g c =
    let new = record c.args.self.now { log = c.seal-outcome.new.self; fault = c.keep_fault.new.fault } in
    let done = marked g.L.Log c.args.self.now new c.seal-outcome.ensures.called c.requires.ready.clear c.keep_fault.ensures.kept refl (λ _. refl) (λ _ _. refl) in
    rw (c.in-Seal.is, c.keep_fault.ensures.answer) (search (rules, done))

pub returns-in-Cancel : goal.returns-in-Cancel
returns-in-Cancel g c =
    let new = record c.args.self.now { log = c.cancel-outcome.new.self; fault = c.keep_fault-in-Cancel.new.fault } in
    let done = marked g.L.Log c.args.self.now new c.cancel-outcome.ensures.called c.requires.ready.clear c.keep_fault-in-Cancel.ensures.kept refl (λ _. refl) (λ _ _. refl) in
    rw (c.in-Cancel.is, c.keep_fault-in-Cancel.ensures.answer) (search (rules, done))
