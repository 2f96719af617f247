use Rattle.sled_pagecache.proofs.Names.{refl, rules}
use Rattle.sled_pagecache.proofs.CacheLog.StickyLogs.{marked}
use Rattle.sled_pagecache.proofs.pagecache.write.sticky_log.StickyLog.pin.Goals as goal

pub returns : goal.returns
returns g c =
    let new = record c.args.self.now { log = c.pin-outcome.new.self; fault = c.keep_fault.new.fault } in
    let done = marked g.L.Log c.args.self.now new c.pin-outcome.ensures.called c.requires.ready.clear c.keep_fault.ensures.kept refl (λ _. refl) (λ _ _. refl) in
    rw c.keep_fault.ensures.answer (search (rules, done))
