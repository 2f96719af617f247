-- Two openings are a run, so the theorem orders their ids.
use Rattle.std.proofs.Common.{[], ◌∷◌, List, Ok, ap, arith}
use Rattle.sled_log.specs.LogState.{unplaced_state}
use Rattle.sled_log.specs.contracts.memory.calls.MemLogLog.TheImpl as mem
use Rattle.sled_log.specs.declared.memory.MemLog.{MemLog}
use Rattle.sled_pagecache.specs.Openings.{AreMadeServed, Opening, Lasted, Crashed, IsRun, KeepIntervals}
use Rattle.sled_pagecache.specs.Inside.ServedLaws.{log-stays, made-unserved}
use Rattle.sled_pagecache.specs.declared.pagecache.handles.call.Answer.{Answer}
use Rattle.sled_pagecache.specs.declared.pagecache.handles.call.Answer.TheVariants.{Generated}
use Rattle.sled_pagecache.specs.declared.pagecache.handles.call.Call.{Call}
use Rattle.sled_pagecache.specs.declared.pagecache.handles.call.Call.TheVariants.{GenerateId}
use Rattle.example_ids.specs.Drawing.{IsDrawn}
use Rattle.example_ids.specs.declared.Drawn.{Drawn}
use Rattle.example_ids.specs.declared.TheConstants.{CONFIG}
use Rattle.example_ids.proofs.draw_over_a_crash.Goals as goal

abbrev calls : Drawn → List (Call × Answer)
calls drawn = (GenerateId, Generated (Ok drawn.first)) ∷ (GenerateId, Generated (Ok drawn.second)) ∷ []

abbrev opening : (log : MemLog) (drawn : Drawn) → IsDrawn log drawn → Opening MemLog
opening log drawn is = Lasted CONFIG is.opened (calls drawn) is.last Crashed drawn.left

-- what is made of a log that is not served
made : (log : MemLog) (drawn : Drawn) (is : IsDrawn log drawn) → AreMadeServed mem.ghosts is.opened (calls drawn) is.last
made log drawn is = made-unserved mem.ghosts is.opened is.last (calls drawn) is.made

pub returns : goal.returns
returns c =
    let before = c.in_ok-before.ensures in
    let after = c.in_ok-after.ensures in
    let openings : List (Opening MemLog) = opening c.new.result c.in_ok-before.before before ∷ opening c.in_ok-before.before.left c.in_ok-after.after after ∷ [] in
    let first = c.new.result in
    let second = c.in_ok-before.before.left in
    let run : IsRun mem.ghosts first openings = (
      first,
      log-stays mem.ghosts first,
      before.starts,
      made first c.in_ok-before.before before,
      before.leaves,
      (second, log-stays mem.ghosts second, after.starts, made second c.in_ok-after.after after, after.leaves, tt),
    ) in
    let intervals : KeepIntervals 0 openings = (omega arith, (omega arith, tt)) in
    c.ids_are_given_once.ensures tt c.new.result openings (ap unplaced_state c.new.ensures.state) run intervals
