use Rattle.std.proofs.Common.{[]}
use Rattle.sled_pagecache.proofs.Crash.FlushedCaches.{flushed-again}
use Rattle.sled_pagecache.proofs.crashes.what_was_flushed_is_there.Goals as goal

pub returns : goal.returns
returns c = λ held s is since.
    let flushed = c.a_cache_is_flushed.ensures c.requires.clear c.requires.flushed held s is in
    flushed-again _ c.args.cache c.args.cache s c.args.config c.reopen_after_a_crash.result flushed.both
    (c.reopen_after_a_crash.ensures c.args.cache [] s flushed since (c.calls_in_a_row_are_steps.ensures.none c.args.cache))
