-- What the calls of a cache do to its log.
use Rattle.std.specs.Prelude.{◌≡◌, ◌≤◌, Bool, true, false, List, [], Result, Ok, Err, IsErrOf, ⊤}
use Rattle.sled_base.specs.declared.types.Device.TheVariants.{Read, Write}
use Rattle.sled_base.specs.declared.types.Refusal.{Refusal}
use Rattle.sled_base.specs.declared.types.Refusal.TheVariants.{Unsupported, Io, OutOfMemory}
use Rattle.sled_base.specs.declared.types.Why.TheVariants.{LogFull}
use Rattle.sled_log.specs.Events.{is_open, open_after, Event, Seal, Cancel}
use Rattle.sled_log.specs.Calls.{HasGrown, refusal_of}
use Rattle.sled_log.specs.Messages.{Message, effect_of}
use Rattle.sled_log.specs.LogState.{Adds, IsLeft, CrashesSinceLeave, unplaced_state}
use Rattle.sled_log.specs.declared.log.LogError.{LogError}
use Rattle.sled_log.specs.declared.log.Log.{Ghosts}
use Rattle.sled_base.specs.declared.types.Error.{Error}
use Rattle.sled_pagecache.specs.declared.pagecache.handles.call.Answer.{Answer}
use Rattle.sled_pagecache.specs.declared.pagecache.handles.call.Answer.TheVariants.{Sealed, Cancelled}
use Rattle.sled_pagecache.specs.declared.pagecache.handles.call.Call.{Call}
use Rattle.sled_pagecache.specs.declared.pagecache.handles.call.Call.TheVariants as call
use Rattle.sled_pagecache.specs.declared.pagecache.write.sticky_log.Closing.{Closing}
use Rattle.sled_pagecache.specs.declared.pagecache.write.sticky_log.Closing.TheVariants as closings
use Rattle.sled_pagecache.specs.declared.pagecache.write.sticky_log.StickyLog.{StickyLog}

-- what a cache returns, given what its log returned
abbrev pub cache_answer : {T : Type 0} → Result T LogError → Result T Refusal
cache_answer (Ok answer) = Ok answer
cache_answer (Err error) = Err (refusal_of error)

-- whether there was a write error
abbrev pub is_write_fault : {T : Type 0} → Result T Refusal → Bool
is_write_fault (Ok answer) = false
is_write_fault (Err (Io Write)) = true
is_write_fault (Err other) = false

-- the events of a call that a crash may find: none if the call failed, unless with a write error
abbrev pub begun_by : {T : Type 0} → Result T Refusal → List (Event Message) → List (Event Message)
begun_by (Ok answer) events = events
begun_by (Err (Io Write)) events = events
begun_by (Err other) events = []

-- the mark by which a batch is closed
abbrev pub mark_of : {E : Type 0} → Closing → Event E
mark_of closings.Seal = Seal
mark_of closings.Cancel = Cancel

-- the call that closes a batch in this way, and its answer
abbrev pub call_of : Closing → Call
call_of closings.Seal = call.Seal
call_of closings.Cancel = call.Cancel

abbrev pub answer_of : Closing → Result (Unit {0}) Error → Answer
answer_of closings.Seal = Sealed
answer_of closings.Cancel = Cancelled

-- a refusal of a cache that is due to its log
abbrev pub IsOfLog : Refusal → Type 0
IsOfLog OutOfMemory = ⊤
IsOfLog (Io device) = ⊤
IsOfLog (Unsupported LogFull) = ⊤
IsOfLog other = ⊥

module _ {L : Type 0} (g : Ghosts L) where
  -- The log of a cache may be called: no write error is kept, and it takes calls.
  pub record IsReady (sticky_log : StickyLog L) : Type 0 where
    pub clear : sticky_log.fault ≡ false
    pub usable : (g.state sticky_log.log).usable ≡ true

  -- The cache's own mark of a batch stays. If there is no write error, the log may be called, and a batch is open according to these
  -- events; no count decreases. If the device tells its bytes, the events were added, and a crash at any moment since `old` leaves what was
  -- durable, and a prefix of what was pending then and of the events, which splits no batch.
  pub record Went (old new : StickyLog L) (events : List (Event Message)) : Type 0 where
    pub batch : new.batch ≡ old.batch
    pub usable : new.fault ≡ false → (g.state new.log).usable ≡ true
    pub opened : new.fault ≡ false → is_open (g.state new.log).pending ≡ open_after (is_open (g.state old.log).pending) events
    pub failed_reads : (g.counts old.log).failed_reads ≤ (g.counts new.log).failed_reads
    pub write_faults : (g.counts old.log).write_faults ≤ (g.counts new.log).write_faults
    pub added : g.tells → new.fault ≡ false → Adds effect_of (unplaced_state (g.state old.log)) events (unplaced_state (g.state new.log))
    pub crash : g.tells → CrashesSinceLeave g.moment g.left_since old.log new.log (IsLeft effect_of (unplaced_state (g.state old.log)) events)

  -- Each refusal has its cause: a read or a write failed in the call, an allocation failed, or the log had no room. A write error is
  -- sticky.
  pub record IsCaused {T : Type 0} (old new : StickyLog L) (no_room : Type 0) (result : Result T Refusal) : Type 0 where
    pub fault : new.fault ≡ is_write_fault result
    pub read : IsErrOf result (Io Read) → HasGrown (g.counts old.log).failed_reads (g.counts new.log).failed_reads
    pub write : IsErrOf result (Io Write) → HasGrown (g.counts old.log).write_faults (g.counts new.log).write_faults
    pub full : IsErrOf result (Unsupported LogFull) → no_room
