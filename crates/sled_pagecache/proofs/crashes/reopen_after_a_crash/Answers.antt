use Rattle.std.proofs.Common.{◌-◌}
use Rattle.sled_pagecache.proofs.Crash.FlushedCaches.{reopens-opened, reopens-refused, reopens-unopened}
use Rattle.sled_pagecache.proofs.crashes.reopen_after_a_crash.Goals as goal

pub returns-in-Ok-start : goal.returns-in-Ok-start
returns-in-Ok-start c = λ first calls s flushed since step.
    let log = c.in-Ok.ensures in
    reopens-opened _ first calls s flushed c.args.cache step (c.args.n - 1) since c.crashed_log-log.result c.crashed_log-log.ensures c.a_log_at_rest.ensures.earlier c.in-Ok.log log.usable log.pending log.left c.args.config c.in-Ok-start.cache c.start.result c.in-Ok-start.is
    (record { settings = c.start.ensures.settings; opens = λ sound held logged. c.start.ensures.opens sound tt held logged })

pub returns-in-Err-start : goal.returns-in-Err-start
returns-in-Err-start c = λ first calls s flushed since step.
    let log = c.in-Ok.ensures in
    reopens-refused _ first calls s flushed c.args.cache step (c.args.n - 1) since c.crashed_log-log.result c.crashed_log-log.ensures c.a_log_at_rest.ensures.earlier c.in-Ok.log log.usable log.pending log.left c.args.config c.in-Err-start.error c.in-Err-start._log c.start.result c.in-Err-start.is
    (record { settings = c.start.ensures.settings; opens = λ sound held logged. c.start.ensures.opens sound tt held logged })

pub returns-in-Err : goal.returns-in-Err
returns-in-Err c = λ first calls s flushed since step.
    reopens-unopened _ first calls s flushed c.args.cache step (c.args.n - 1) since c.crashed_log-log.result c.crashed_log-log.ensures c.a_log_at_rest.ensures.earlier c.in-Err.error c.from.result c.from.ensures c.args.config c.in-Err.ensures.sound c.in-Err.ensures.not_full
