use Rattle.sled_pagecache.proofs.Names.{List, map, true, ap, subst, sym, Event, seen_event, state_of, clock_of, might_have_left, Entry, Messages, message_in, unplaced_state, MemLog, stable_state}
use Rattle.sled_pagecache_testing.proofs.crashes.reopen.Goals as goal

pub returns : goal.returns
returns c = λ old new call answer held s same steps is clear.
    let pages : List Messages = (unplaced_state (state_of c.stop.result)).stable in
    let crashed = c.a_crash_reopens_to_a_prefix.ensures.of_a_call old new call answer steps held s is clear in (
      crashed.0,
      crashed.1,
      crashed.2 c.stop.result
          (record {
            at = clock_of new.log;
            later = ((steps.from_each held s is).crash clear).later;
            pages = pages;
            left = subst (λ (log : MemLog). might_have_left log (clock_of log) pages) (sym same) c.stop.ensures.left;
            holds = ap (λ (events : List (Event Entry)). record (stable_state pages true) { pending = map (seen_event message_in) events }) c.stop.ensures.pending;
          })
          c.args.config c.start.result
          (record { settings = c.start.ensures.settings; opens = λ sound held logged. c.start.ensures.opens sound tt held logged }),
    )
