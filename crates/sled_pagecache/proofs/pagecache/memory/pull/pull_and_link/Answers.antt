use Rattle.sled_pagecache.proofs.Names.{List, [], refl, ◌∙◌, ap, length, nat_lt, Result, Err, Refusal, refused-is, Went-then, is_resident, arith}
use Rattle.sled_pagecache.proofs.Links.PulledLinks.{taken, refused, caused}
use Rattle.sled_pagecache.proofs.Memory.ReadCounts.{read-all}
use Rattle.sled_pagecache.proofs.Table.ChangedTables.{marks-begun}
use Rattle.sled_pagecache.proofs.pagecache.memory.pull.pull_and_link.Goals as goal

pub returns-in-Ok : goal.returns-in-Ok
returns-in-Ok g c =
    let read = c.in_ok-pull.ensures.pulled in
    let done = c.in-Ok.ensures in
    let joined = done.joined ∙ ap (λ (l : List _). nat_lt (length l) 10) read.infos in
    let taken = taken g.L.Log c.link_page.new.writer.sticky_log c.args.pid c.args.page.now c.link_page.new.page c.args.link.now read.went read.cause.fault read.same read.kept read.stamp read.infos read.resident c.pull.new.page.kept (λ told. (read.kept told).holds) done.linked done.is done.went done.stamp done.kept done.len done.others done.sized in
    grind arith

-- the page could not be read
pub returns-in_err-pull : goal.returns-in_err-pull
returns-in_err-pull g c = rw (refused-is c.from_residual.result _ c.from_residual.ensures.1) (grind arith)

-- the link was refused: what was read goes
pub returns-then-was_away : goal.returns-then-was_away
returns-then-was_away g c =
    let read = c.in_ok-pull.ensures.pulled in
    let done = c.in-Err.ensures in
    let result : Result (Unit {0}) Refusal = Err c.in-Err.refusal in
    let refused = λ (told : g.L.Log.tells). refused g.L.Log c.link_page.new.writer.sticky_log c.args.pid c.args.page.now c.link_page.new.page c.args.link.now read.went read.cause.fault read.same read.kept read.stamp read.infos read.resident
    c.pull.new.page.kept c.in-Err.refusal (read.kept told).holds read.resident (read.free ∙ c.requires.full) (read.own c.requires.own) (done.refused told) done.went done.is in
    let cause = caused g.L.Log c.link_page.new.writer.sticky_log c.args.pid c.args.page.now c.link_page.new.page c.args.link.now read.went read.cause.fault read.same read.kept read.stamp read.infos read.resident result done.refused read.room done.cause in
    let at_most = read-all g.L.Log.counts c.args.writer.now.sticky_log c.pull.new.sticky_log c.args.page.now result (is_resident c.args.page.now.kept) refl read.unread read.reads in
    let went = Went-then g.L.Log c.args.writer.now.sticky_log c.pull.new.sticky_log c.link_page.new.writer.sticky_log [] _ read.went read.cause.fault done.went in
    grind (arith, marks-begun result c.args.pid)

pub returns-else-was_away : goal.returns-else-was_away
returns-else-was_away g c =
    let read = c.in_ok-pull.ensures.pulled in
    let done = c.in-Err.ensures in
    let result : Result (Unit {0}) Refusal = Err c.in-Err.refusal in
    let refused = λ (told : g.L.Log.tells). refused g.L.Log c.link_page.new.writer.sticky_log c.args.pid c.args.page.now c.link_page.new.page c.args.link.now read.went read.cause.fault read.same read.kept read.stamp read.infos read.resident
    c.pull.new.page.kept c.in-Err.refusal (read.kept told).holds read.resident (read.free ∙ c.requires.full) (read.own c.requires.own) (done.refused told) done.went done.is in
    let cause = caused g.L.Log c.link_page.new.writer.sticky_log c.args.pid c.args.page.now c.link_page.new.page c.args.link.now read.went read.cause.fault read.same read.kept read.stamp read.infos read.resident result done.refused read.room done.cause in
    let at_most = read-all g.L.Log.counts c.args.writer.now.sticky_log c.pull.new.sticky_log c.args.page.now result (is_resident c.args.page.now.kept) refl read.unread read.reads in
    let went = Went-then g.L.Log c.args.writer.now.sticky_log c.pull.new.sticky_log c.link_page.new.writer.sticky_log [] _ read.went read.cause.fault done.went in
    grind (arith, marks-begun result c.args.pid)
