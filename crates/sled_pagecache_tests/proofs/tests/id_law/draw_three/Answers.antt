-- Three openings are a run, so the law orders their ids.
use Rattle.std.proofs.Common.{[], ◌∷◌, ◌<◌, ℕ, List, Ok, ap, arith}
use Rattle.sled_log.specs.LogState.{unplaced_state}
use Rattle.sled_log.specs.contracts.memory.calls.MemLogLog.TheImpl as mem
use Rattle.sled_log.specs.declared.memory.MemLog.{MemLog}
use Rattle.sled_pagecache.specs.Openings.{Opening, Lasted, IsRun, KeepIntervals, AreRising}
use Rattle.sled_pagecache.specs.Inside.ServedLaws.{log-stays, made-unserved}
use Rattle.sled_pagecache.specs.declared.pagecache.handles.call.Answer.TheVariants.{Generated}
use Rattle.sled_pagecache.specs.declared.pagecache.handles.call.Call.TheVariants.{GenerateId}
use Rattle.sled_pagecache_tests.proofs.tests.id_law.draw_three.Goals as goal

-- the ids of three, by their places
in-order : (a b c : ℕ) → AreRising (a ∷ b ∷ c ∷ []) → (a < b) × (b < c)
in-order a b c rising = (rising 0 1 0 (omega arith) (omega arith), rising 1 2 0 (omega arith) (omega arith))

pub returns : goal.returns
returns c =
    let config = c.args.config in
    let one = c.in_ok-first.ensures in
    let two = c.in_ok-second.ensures in
    let three = c.in_ok-third.ensures in
    let first = c.in_ok-first.first in
    let second = c.in_ok-second.second in
    let third = c.in_ok-third.third in
    let openings : List (Opening MemLog) =
    Lasted config one.0 ((GenerateId, Generated (Ok first)) ∷ []) one.1 one.2 c.in_ok-first.log
    ∷ Lasted config two.0 ((GenerateId, Generated (Ok second)) ∷ []) two.1 two.2 c.in_ok-second.log
    ∷ Lasted config three.0 ((GenerateId, Generated (Ok third)) ∷ []) three.1 three.2 c.in_ok-third._log
    ∷ [] in
    let made = made-unserved mem.ghosts in
    let run : IsRun mem.ghosts c.new.result openings = (
      c.new.result,
      log-stays mem.ghosts c.new.result,
      one.3,
      made one.0 one.1 ((GenerateId, Generated (Ok first)) ∷ []) one.4,
      one.5,
      (
        c.in_ok-first.log,
        log-stays mem.ghosts c.in_ok-first.log,
        two.3,
        made two.0 two.1 ((GenerateId, Generated (Ok second)) ∷ []) two.4,
        two.5,
        (c.in_ok-second.log, log-stays mem.ghosts c.in_ok-second.log, three.3, made three.0 three.1 ((GenerateId, Generated (Ok third)) ∷ []) three.4, three.5, tt),
      ),
    ) in
    let intervals : KeepIntervals 0 openings = (omega arith, (omega arith, (omega arith, tt))) in
    in-order first second third (c.ids_are_given_once.ensures tt c.new.result openings (ap unplaced_state c.new.ensures.state) run intervals)
