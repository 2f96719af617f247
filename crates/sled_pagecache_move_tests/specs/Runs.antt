-- Openings of one log, made by real calls.
use Rattle.std.specs.Prelude.{◌≡◌, [], ◌∷◌, Option, Some, None}
use Rattle.sled_log.specs.declared.log.Log.{Ghosts}
use Rattle.sled_pagecache.specs.Opening.{MayBeOpened}
use Rattle.sled_pagecache.specs.Openings.{Ending, Opening, Refused, Lasted, IsRun}

-- how its cache ended, if one was opened
abbrev pub ending_of : {L : Type 0} → Opening L → Option Ending
ending_of (Refused config result left) = None
ending_of (Lasted config first calls last ending left) = Some ending

-- the log that it left
abbrev pub left_by : {L : Type 0} → Opening L → L
left_by (Refused config result left) = left
left_by (Lasted config first calls last ending left) = left

-- The log was opened once. The cache ended so, and left a log that may be opened again.
pub record IsOpenedOnce {L : Type 0} (g : Ghosts L) (found : L) (ending : Option Ending) (left : L) : Type 0 where
  pub opening : Opening L
  pub run : IsRun g found (opening ∷ [])
  pub ends : ending_of opening ≡ ending
  pub leaves : left_by opening ≡ left
  pub again : MayBeOpened g left
