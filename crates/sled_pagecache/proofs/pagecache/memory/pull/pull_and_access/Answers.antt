use Rattle.sled_pagecache.proofs.Names.{refl, is_resident, arith}
use Rattle.sled_pagecache.proofs.Memory.ReadCounts.{read-all}
use Rattle.sled_pagecache.proofs.pagecache.memory.pull.pull_and_access.Goals as goal

pub returns-then-is_err-clause-pulled : goal.returns-then-is_err-clause-pulled
returns-then-is_err-clause-pulled g c =
    let read = c.in_ok-pull.ensures.pulled in
    let at_most = read-all g.L.Log.counts c.args.writer.now.sticky_log c.pull.new.sticky_log c.args.page.now c.access_node-outcome.result (is_resident c.args.page.now.kept) refl read.unread read.reads in
    grind arith

pub returns-else-was_away-clause-pulled : goal.returns-else-was_away-clause-pulled
returns-else-was_away-clause-pulled g c =
    let read = c.in_ok-pull.ensures.pulled in
    let at_most = read-all g.L.Log.counts c.args.writer.now.sticky_log c.pull.new.sticky_log c.args.page.now c.access_node-outcome.result (is_resident c.args.page.now.kept) refl read.unread read.reads in
    grind arith
