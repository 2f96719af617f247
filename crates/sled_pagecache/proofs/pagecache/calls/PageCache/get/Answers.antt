use Rattle.sled_pagecache.proofs.Names.{refl, err_from_is_err_and}
use Rattle.sled_pagecache.proofs.Steps.Gets.{got-found, got-refused}
use Rattle.sled_pagecache.proofs.pagecache.calls.PageCache.get.Goals as goal

pub returns-in_err-page_in : goal.returns-in_err-page_in
returns-in_err-page_in g c =
    let done = c.in_err-page_in.ensures in
    let p = err_from_is_err_and c.from_residual.result c.from_residual.ensures.1 in
    rw (p.1, p.2)
    ((refl, (λ _. tt), got-refused g.L.Log c.args.self.now c.page_in.new.self c.args.pid c.in_err-page_in.field-0.0 done.stuck done.brings done.reads done.kept_out done.always done.same done.bounded), record { got = tt })

pub returns : goal.returns
returns g c =
    let done = c.in_ok-page_in.ensures in
    ((refl, (λ _. tt), got-found g.L.Log c.args.self.now c.page_in.new.self c.args.pid c.node_at-found.result done.stuck done.brings done.reads c.node_at-found.ensures.is c.node_at-found.ensures.node done.accesses done.bounded), record { got = tt })
