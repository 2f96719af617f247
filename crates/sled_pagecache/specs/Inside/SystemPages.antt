-- What opening a cache appends to its log.
use Rattle.std.specs.Prelude.{◌≡◌, false, List, ◌++◌, Option}
use Rattle.sled_base.specs.declared.types.Refusal.{Refusal}
use Rattle.sled_log.specs.Events.{open_after, Event}
use Rattle.sled_log.specs.Messages.{Message, effect_of_entry}
use Rattle.sled_log.specs.LogState.{now}
use Rattle.sled_log.specs.declared.log.Log.{Ghosts}
use Rattle.sled_pagecache.specs.Inside.Loading.{events_at_start}
use Rattle.sled_pagecache.specs.Inside.LogCalls.{Proceeds}
use Rattle.sled_pagecache.specs.declared.pagecache.write.sticky_log.StickyLog.{StickyLog}

-- Some messages, which leave no batch open. If the device tells its bytes, they are those of the missing system pages.
pub record Starts {L : Type 0} (g : Ghosts L) (old new : StickyLog L) (refusal : Option Refusal) : Type 0 where
  pub events : List (Event Message)
  pub are : g.tells → events ≡ events_at_start (now effect_of_entry (g.state old.log))
  pub marks : (part rest : List (Event Message)) → part ++ rest ≡ events → open_after false part ≡ false
  pub proceeds : Proceeds g old new events refusal
