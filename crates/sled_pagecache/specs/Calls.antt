-- What a call of the page cache does: it is one step of the machine, and a crash at any moment of it leaves a prefix of
-- what it writes.
use Rattle.std.specs.Prelude.{ℕ, ◌⊎◌, List, ◌≡◌, true, false, length, Result, IsErrOf}
use Rattle.sled_base.specs.declared.types.Device.TheVariants.{Read, Write}
use Rattle.sled_base.specs.declared.types.Error.{Error}
use Rattle.sled_base.specs.declared.types.Error.TheVariants.{Io}
use Rattle.sled_log.specs.Calls.{HasGrown}
use Rattle.sled_log.specs.Contents.{Content, Update, Put}
use Rattle.sled_log.specs.Events.{Event, Change, Pin, Seal, Cancel}
use Rattle.sled_log.specs.LogState as log
use Rattle.sled_log.specs.LogState.{now, unplaced_state}
use Rattle.sled_log.specs.Messages.{effect_of_entry}
use Rattle.sled_log.specs.Moves.{message_at}
use Rattle.sled_log.specs.Reading.{message_of}
use Rattle.sled_log.specs.declared.log.Log.{Ghosts}
use Rattle.sled_pagecache.specs.Cache.{Cache, chain_length, Represents}
use Rattle.sled_pagecache.specs.Due.{due_in}
use Rattle.sled_pagecache.specs.Logged.{Logged, Adds, IsLeft, IsLogged}
use Rattle.sled_pagecache.specs.State.{State}
use Rattle.sled_pagecache.specs.Step.{Act, Outcome, Step}
use Rattle.sled_pagecache.specs.declared.pagecache.handles.call.Answer.{Answer}
use Rattle.sled_pagecache.specs.declared.pagecache.handles.call.Call.{Call}

-- what stays the same while a cache is open: its settings, and whether the system pages were found
pub record IsSameOpening {L : Type 0} (old new : Cache L) : Type 0 where
  pub config : new.config ≡ old.config
  pub recovered : new.recovered ≡ old.recovered

module _ {L : Type 0} (g : Ghosts L) where
  -- the log had no room for the message of the change
  abbrev pub HasNoRoom : L → Event Update → Type 0
  HasNoRoom log (Change pid update) = g.is_full log (length (message_of update).payload)
  HasNoRoom log Pin = g.is_full_for_batch log
  HasNoRoom log Seal = ⊥
  HasNoRoom log Cancel = ⊥

  -- The log had no room for writing a page again: for its content, or for the message that names its blob.
  abbrev pub HasNoRoomAgain : L → ℕ → Content → Type 0
  HasNoRoomAgain log pid content = HasNoRoom log (Change pid (Put content)) ⊎ g.is_full log (length (message_at (now effect_of_entry (g.state log)) pid).payload)

  -- an act of the machine over the log of the cache: a step without the move that may follow a swap
  abbrev pub ActOver : Cache L → State → Call → Answer → Outcome → Type 0
  ActOver cache s call answer out =
      Act (due_in g cache.config) HasNoRoomAgain (chain_length g.state cache) (HasNoRoom cache.log) cache.config.idgen_persist_interval cache.config.segment_size cache.log s call answer out

  -- The new log is the old one after these changes were added, in whatever messages.
  pub record IsBehind (old : L) (changes : List (Event Update)) (new : L) : Type 0 where
    pub held : Logged
    pub held_then : Logged
    pub from : IsLogged (unplaced_state (g.state old)) held
    pub added : Adds held changes held_then
    pub is : IsLogged (unplaced_state (g.state new)) held_then

  -- a step of the machine, over the log of the cache
  abbrev pub StepOver : Cache L → State → Call → Answer → Outcome → Type 0
  StepOver cache s call answer out =
      Step (due_in g cache.config) HasNoRoomAgain (chain_length g.state cache) (HasNoRoom cache.log) cache.config.idgen_persist_interval cache.config.segment_size cache.log (IsBehind cache.log) s call answer out

  -- A crash at any moment between the old log and the new one leaves what was held and a prefix of the changes, which splits no batch.
  abbrev pub CrashLeaves : L → Logged → List (Event Update) → L → Type 0
  CrashLeaves old held changes new = log.CrashesSinceLeave g.moment g.left_since old new (IsLeft held changes)

  -- From this state, over a log that holds this, the relation holds of what was done. What it writes is added to the log, and a crash at
  -- any moment of it leaves what the log held and a prefix of what it writes, which splits no batch. After a write error the log isn't
  -- called.
  pub record IsDone (Does : State → Outcome → Type 0) (old new : Cache L) (held : Logged) (s : State) : Type 0 where
    pub out : Outcome
    pub step : Does s out
    pub held_then : Logged
    pub is : Represents g new held_then out.state
    pub added : out.state.fault ≡ false → Adds held out.changes held_then
    pub crash : s.fault ≡ false → CrashLeaves old.log held out.changes new.log
    pub stuck : s.fault ≡ true → new.log ≡ old.log

  -- This holds in every state of the cache.
  pub record IsDoneInEach (Does : State → Outcome → Type 0) (old new : Cache L) : Type 0 where
    pub opening : IsSameOpening old new
    pub from_each : (held : Logged) (s : State) → Represents g old held s → IsDone Does old new held s

  -- the call is one step
  abbrev pub IsStep : Cache L → Call → Answer → Cache L → Logged → State → Type 0
  IsStep old call answer new held s = IsDone (λ s out. StepOver old s call answer out) old new held s

  abbrev pub Steps : Cache L → Call → Answer → Cache L → Type 0
  Steps old call answer new = IsDoneInEach (λ s out. StepOver old s call answer out) old new

  -- the call is one act
  abbrev pub Acts : Cache L → Call → Answer → Cache L → Type 0
  Acts old call answer new = IsDoneInEach (λ s out. ActOver old s call answer out) old new

-- A fault is reported only if its count grew in the call, or if a write error was met before.
pub record IsBlamed {L T : Type 0} (g : Ghosts L) (old new : Cache L) (result : Result T Error) : Type 0 where
  pub read : IsErrOf result (Io Read) → HasGrown (g.counts old.log).failed_reads (g.counts new.log).failed_reads
  pub write : IsErrOf result (Io Write) → old.fault ≡ false → HasGrown (g.counts old.log).write_faults (g.counts new.log).write_faults
