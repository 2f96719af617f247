-- Two openings are a run, so the law says which pages they add.
use Rattle.std.proofs.Common.{[], ◌∷◌, List, ap}
use Rattle.sled_log.specs.LogState.{unplaced_state}
use Rattle.sled_log.specs.contracts.memory.calls.MemLogLog.TheImpl as mem
use Rattle.sled_log.specs.declared.memory.MemLog.{MemLog}
use Rattle.sled_pagecache.specs.Openings.{IsRun, Opening}
use Rattle.sled_pagecache.specs.Inside.ServedLaws.{log-stays, made-unserved}
use Rattle.sled_pagecache_tests.proofs.TwoOpenings.{calls_of, in-order, opening_of}
use Rattle.sled_pagecache_tests.proofs.tests.opening_law.add_two.Goals as goal

pub returns : goal.returns
returns c =
    let (one_first, one_last, one_node, one_token, one_written, one_start, one_calls, one_end) = c.in_ok-first.ensures in
    let (two_first, two_last, two_node, two_token, two_written, two_start, two_calls, two_end) = c.in_ok-second.ensures in
    let openings : List (Opening MemLog) =
    opening_of mem.ghosts c.args.config one_first one_node (c.in_ok-first.first, one_token) one_written one_last c.in_ok-first.log
    ∷ opening_of mem.ghosts c.args.config two_first two_node (c.in_ok-second.second, two_token) two_written two_last c.in_ok-second._log
    ∷ [] in
    let made = made-unserved mem.ghosts in
    let run : IsRun mem.ghosts c.new.result openings = (
      c.new.result,
      log-stays mem.ghosts c.new.result,
      one_start,
      made one_first one_last (calls_of one_node (c.in_ok-first.first, one_token) one_written) one_calls,
      one_end,
      (c.in_ok-first.log, log-stays mem.ghosts c.in_ok-first.log, two_start, made two_first two_last (calls_of two_node (c.in_ok-second.second, two_token) two_written) two_calls, two_end, tt),
    ) in
    in-order mem.ghosts _ _ _ _ _ _ _ _ _ _ _ c.in_ok-first.log c.in_ok-second._log (c.every_opening_shows_a_prefix.ensures tt c.new.result openings (ap unplaced_state c.new.ensures.state) run)
