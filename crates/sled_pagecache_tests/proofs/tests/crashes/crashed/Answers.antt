-- What the log in memory leaves.
use Rattle.std.proofs.Common.{arith}
use Rattle.sled_pagecache.proofs.Names.{◌≡◌, List, map, true, ap, subst, Event, seen_event, state_of, clock_of, might_have_left, Entry, Messages, message_in, unplaced_state, MemLog, stable_state}
use Rattle.sled_pagecache_tests.proofs.tests.crashes.crashed.Goals as goal

pub returns : goal.returns
returns c =
    let cache = c.args.cache in
    let pages : List Messages = (unplaced_state (state_of c.stop.result)).stable in
    let same : c.into_log-log.result ≡ cache.log = c.into_log-log.ensures.log in
    record {
      at = clock_of cache.log;
      later = omega arith;
      pages = pages;
      left = subst (λ (log : MemLog). might_have_left log (clock_of log) pages) same c.stop.ensures.left;
      holds = ap (λ (events : List (Event Entry)). record (stable_state pages true) { pending = map (seen_event message_in) events }) c.stop.ensures.pending;
    }
