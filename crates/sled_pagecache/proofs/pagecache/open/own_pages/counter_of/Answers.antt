use Rattle.sled_pagecache.proofs.Names.{IfErr-weaker, arith}
use Rattle.sled_pagecache.proofs.Memory.FoundMessages.{refuses_so}
use Rattle.sled_pagecache.proofs.pagecache.open.own_pages.counter_of.Goals as goal

pub returns-in-Counter-clause-refused : goal.returns-in-Counter-clause-refused
returns-in-Counter-clause-refused c =
    let found = c.args.found.now in
    IfErr-weaker c.whole.result _ _ (refuses_so found.pointer _ _ (λ none n reads. none n (grind arith))) c.whole.ensures.refused
