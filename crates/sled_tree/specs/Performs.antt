-- What a call on the maps does: some calls of the cache in a row, which have this effect from any state, over any caches.
use Rattle.std.specs.Prelude.{◌≡◌, List, [], ◌∷◌}
use Rattle.sled_log.specs.Contents.{Update}
use Rattle.sled_log.specs.Events.{Event}
use Rattle.sled_log.specs.declared.log.Log.{Ghosts}
use Rattle.sled_pagecache.specs.Cache.{Cache}
use Rattle.sled_pagecache.specs.Calls.{StepOver}
use Rattle.sled_pagecache.specs.Rows.{AreMade, changes_of}
use Rattle.sled_pagecache.specs.State.{State}
use Rattle.sled_pagecache.specs.Step.{Outcome}
use Rattle.sled_pagecache.specs.declared.pagecache.handles.call.Answer.{Answer}
use Rattle.sled_pagecache.specs.declared.pagecache.handles.call.Call.{Call}

module _ {L : Type 0} (g : Ghosts L) where
  -- From state `s`, the machine may give these answers to the calls, one after another, each over any cache. These are the outcomes, and the last one
  -- leaves state `t`.
  abbrev pub Runs : State → List (Call × Answer) → List Outcome → State → Type 0
  Runs s [] [] t = t ≡ s
  Runs s (made ∷ calls) (out ∷ outs) t = (cache : Cache L) × StepOver g cache s made.0 made.1 out × Runs out.state calls outs t
  Runs s calls outs t = ⊥

  -- Some calls of the cache were made. In each run of the machine with these calls and answers, from any state, the changes that the calls begin to
  -- write and the state that they leave meet the condition.
  pub record Performs (Is : State → List (Event Update) → State → Type 0) (old new : Cache L) : Type 0 where
    pub calls : List (Call × Answer)
    pub made : AreMade g old calls new
    pub so : (s t : State) (outs : List Outcome) → Runs s calls outs t → Is s (changes_of outs) t
