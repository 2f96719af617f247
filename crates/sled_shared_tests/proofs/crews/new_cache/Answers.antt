-- The log is empty, so it is known what is opened of it.
use Rattle.std.proofs.Common.{ap}
use Rattle.sled_log.specs.LogState.{LogState}
use Rattle.sled_log.specs.Messages.{Entry}
use Rattle.sled_log.specs.contracts.memory.calls.MemLogLog.TheImpl as mem
use Rattle.sled_pagecache.proofs.Crash.FlushedCaches.{starts-flushed}
use Rattle.sled_shared_tests.proofs.crews.new_cache.Goals as goal

pub returns-in-Ok-clause-known : goal.returns-in-Ok-clause-known
returns-in-Ok-clause-known c =
    let state = c.new-log.ensures.state in
    let flushed = starts-flushed mem.ghosts c.new-log.result (ap (λ (s : LogState Entry). s.usable) state) (ap (λ (s : LogState Entry). s.pending) state) (ap (λ (s : LogState Entry). s.stable) state) _ c.in-Ok.cache c.start.result c.in-Ok.is
    (record { settings = c.start.ensures.settings; opens = λ sound held logged. c.start.ensures.opens sound tt held logged }) in
    (flushed.held, _, flushed.is)
