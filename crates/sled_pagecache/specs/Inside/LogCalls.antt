-- What calls of a log do, one after another up to the first that fails.
use Rattle.std.specs.Prelude.{◌≡◌, ℕ, Bool, true, false, List, [], ◌∷◌, ◌++◌, length, Option, None, Some, Result, Ok, Err}
use Rattle.sled_base.specs.declared.types.Device.TheVariants.{Read, Write}
use Rattle.sled_base.specs.declared.types.Refusal.{Refusal}
use Rattle.sled_base.specs.declared.types.Refusal.TheVariants.{Unsupported, Io}
use Rattle.sled_base.specs.declared.types.Why.TheVariants.{LogFull}
use Rattle.sled_log.specs.Calls.{HasGrown}
use Rattle.sled_log.specs.Events.{Event, Change}
use Rattle.sled_log.specs.Messages.{Message}
use Rattle.sled_log.specs.declared.log.Log.{Ghosts}
use Rattle.sled_pagecache.specs.Inside.StickyLog.{Went}
use Rattle.sled_pagecache.specs.declared.pagecache.write.sticky_log.StickyLog.{StickyLog}

-- the refusal that was returned, if there was one
abbrev pub refusal_in : {T : Type 0} → Result T Refusal → Option Refusal
refusal_in (Ok answer) = None
refusal_in (Err refusal) = Some refusal

-- whether it is a write error
abbrev pub is_fault : Option Refusal → Bool
is_fault None = false
is_fault (Some (Io Write)) = true
is_fault (Some other) = false

module _ {L : Type 0} (g : Ghosts L) where
  -- the events were added
  abbrev pub Comes : StickyLog L → StickyLog L → List (Event Message) → Type 0
  Comes = Went g

  -- the log has no room for the message of the first of the events
  abbrev pub LacksRoom : L → List (Event Message) → Type 0
  LacksRoom log (Change pid message ∷ events) = g.is_full log (length message.payload)
  LacksRoom log events = ⊥

  abbrev pub TakesNoRoom : L → L → Type 0
  TakesNoRoom old new = (n : ℕ) → g.is_full new n → g.is_full old n

  -- After some events were added, there was no room for the rest, and nothing more was added. If none were added, the log had no room
  -- before.
  pub record WasFull (old new : StickyLog L) (came rest : List (Event Message)) : Type 0 where
    pub at : StickyLog L
    pub went : Comes old at came
    pub clear : at.fault ≡ false
    pub room : LacksRoom at.log rest
    pub given : came ≡ [] → LacksRoom old.log rest
    pub behind : Comes at new []

  -- A refusal, which has its cause, ended the calls, and the rest of the events weren't added.
  pub record IsCutShort (old new : StickyLog L) (events : List (Event Message)) (refusal : Refusal) : Type 0 where
    pub came : List (Event Message)
    pub rest : List (Event Message)
    pub is : came ++ rest ≡ events
    pub went : Comes old new came
    pub read : refusal ≡ Io Read → HasGrown (g.counts old.log).failed_reads (g.counts new.log).failed_reads
    pub write : refusal ≡ Io Write → HasGrown (g.counts old.log).write_faults (g.counts new.log).write_faults
    pub full : refusal ≡ Unsupported LogFull → WasFull old new came rest

  abbrev pub Reaches : StickyLog L → StickyLog L → List (Event Message) → Option Refusal → Type 0
  Reaches old new events None = Comes old new events
  Reaches old new events (Some refusal) = IsCutShort old new events refusal

  -- The events were added in order, up to the refusal, if there is one. Calls of no event take no room.
  pub record Proceeds (old new : StickyLog L) (events : List (Event Message)) (refusal : Option Refusal) : Type 0 where
    pub reaches : Reaches old new events refusal
    pub fault : new.fault ≡ is_fault refusal
    pub room : events ≡ [] → TakesNoRoom old.log new.log
