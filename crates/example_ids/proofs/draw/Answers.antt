-- The cache that was opened, the calls that it answered, and what the crash left.
use Rattle.std.proofs.Common.{rules, arith}
use Rattle.sled_pagecache.proofs.Names.{List, map, true, ap, subst, refl, Event, seen_event, state_of, clock_of, might_have_left, Entry, Messages, message_in, unplaced_state, MemLog, stable_state}
use Rattle.sled_log.specs.contracts.memory.calls.MemLogLog.TheImpl as mem
use Rattle.sled_pagecache.specs.Inside.MadeLaws.{id-made}
use Rattle.example_ids.proofs.draw.Goals as goal

pub returns : goal.returns
returns c =
    let started = c.in-Ok.ensures in
    let one = c.in_ok-first.ensures in
    let two = c.in_ok-second.ensures in
    let between = c.generate_id_inner.new.self in
    let last = c.generate_id_inner-2.new.self in
    let pages : List Messages = (unplaced_state (state_of c.stop-left.result)).stable in
    record {
      opened = c.in-Ok.cache;
      last = last;
      starts = ((refl, search rules), record { settings = started.settings; opens = λ sound held logged. started.opens sound tt held logged });
      made = (
        between,
        id-made mem.ghosts _ between _ one.step one.blame one.covered one.keeps one.id one.gives,
        (last, id-made mem.ghosts _ last _ two.step two.blame two.covered two.keeps two.id two.gives, refl),
      );
      leaves = record {
        at = clock_of last.log;
        later = omega arith;
        pages = pages;
        left = subst (λ (log : MemLog). might_have_left log (clock_of log) pages) c.into_log.ensures.log c.stop-left.ensures.left;
        holds = ap (λ (events : List (Event Entry)). record (stable_state pages true) { pending = map (seen_event message_in) events }) c.stop-left.ensures.pending;
      };
    }
