use Rattle.sled_pagecache.proofs.Names.{Counter, Put, counter_pid, refused-is}
use Rattle.sled_pagecache.proofs.CacheLog.StableMessages.{durable-done, durable-failed}
use Rattle.sled_pagecache.proofs.pagecache.write.counter_page.write_durably.Goals as goal

pub returns-in_err-make_stable-clause-wrote : goal.returns-in_err-make_stable-clause-wrote
returns-in_err-make_stable-clause-wrote g c =
    let failed = c.in_err-make_stable.ensures in
    rw (refused-is c.from_residual-in_err-make_stable.result _ c.from_residual-in_err-make_stable.ensures.1)
    (durable-failed g.L.Log c.args.sticky_log.now c.write_content.new.sticky_log c.make_stable.new.self counter_pid (Put (Counter c.args.n)) c.args.stamp c.in_ok-info.info c.in_ok-info.ensures failed.went failed.reads
    c.in_err-make_stable.field-0.0 failed.only failed.cause)

pub returns-clause-wrote : goal.returns-clause-wrote
returns-clause-wrote g c =
    let done = c.in_ok-make_stable.ensures in
    durable-done g.L.Log c.args.sticky_log.now c.write_content.new.sticky_log c.make_stable.new.self counter_pid (Put (Counter c.args.n)) c.args.stamp c.in_ok-info.info c.in_ok-info.ensures done.went done.reads done.cause.fault done.same
