-- What a page cache is when it is opened, and what opening one over a log does.
use Rattle.std.specs.Prelude.{◌==◌, ◌+◌, ◌*◌, ℕ, false, List, [], ◌∷◌, ◌++◌, length, map, drop, nat_lt, if◌then◌else◌, Option, Some, None, ◌≡◌, ◌≢◌, ◌⊎◌, ◌<◌, ◌≤◌, Bool, true, slice_get, Result, Ok, Err, IfErr, IfSome, ⊤}
use Rattle.sled_base.specs.declared.types.Why.{Why}
use Rattle.sled_base.specs.declared.types.Why.TheVariants.{CapacityTooSmall, IntervalZero, SegmentZero, LogFull}
use Rattle.sled_log.specs.Contents.{Content, Counter, Roots, Update, Put}
use Rattle.sled_log.specs.Events.{Event, Change, is_open}
use Rattle.sled_pagecache.specs.State.{page, State}
use Rattle.sled_pagecache.specs.declared.pagecache.handles.config.Config.{Config}
use Rattle.sled_base.specs.declared.types.Device.TheVariants.{Read, Write}
use Rattle.sled_base.specs.declared.types.DiskPtr.{DiskPtr}
use Rattle.sled_base.specs.declared.types.Error.{Error}
use Rattle.sled_base.specs.declared.types.Error.TheVariants.{Unsupported, Io, Corruption, OutOfMemory}
use Rattle.sled_node.specs.Meta as meta
use Rattle.sled_log.specs.Calls.{HasGrown}
use Rattle.sled_log.specs.Chains.{is_empty}
use Rattle.sled_log.specs.Contents as content
use Rattle.sled_log.specs.Messages.{Message, Chain, Messages, messages_of, effect_of_entry}
use Rattle.sled_log.specs.Reading.{Makes}
use Rattle.sled_log.specs.LogState.{LogState, unplaced_state}
use Rattle.sled_log.specs.declared.log.Log.{Ghosts}
use Rattle.sled_pagecache.specs.Logged.{FitsId, Logged, IsLogged, Adds, now}
use Rattle.sled_pagecache.specs.Cache.{Cache, IsResident, Represents, chain_at}
use Rattle.sled_pagecache.specs.Calls.{CrashLeaves, HasNoRoom}
use Rattle.sled_pagecache.specs.Limits.{most_messages, most_pages}
use Rattle.sled_pagecache.specs.Memory.{IsHindrance}

-- what is wrong with a config, by the first of its faults
abbrev pub fault_of : Config → Option Why
fault_of config =
    if nat_lt config.cache_capacity 256 then Some CapacityTooSmall else
    if config.idgen_persist_interval == 0 then Some IntervalZero else
    if config.segment_size == 0 then Some SegmentZero else None

-- The system pages are page 0 of the named roots, which are none at first, and page 1 of the counter of generated ids. These are the
-- missing ones.
abbrev pub missing_pages : List Content → List Content
missing_pages contents = drop (length contents) (Roots [] ∷ Counter 0 ∷ [])

-- the changes that add them
abbrev pub changes_of_start : List Content → List (Event Update)
changes_of_start contents = drop (length contents) (Change 0 (Put (Roots [])) ∷ Change 1 (Put (Counter 0)) ∷ [])

-- The first generated id: two intervals above the counter, since the ids below may have been returned before. If a system page was missing,
-- no id was.
abbrev pub first_id : ℕ → List Content → ℕ
first_id interval (roots ∷ Counter n ∷ contents) = n + 2 * interval
first_id interval contents = 0

-- The state of a cache that is opened over these contents: each page is at stamp 0, and those that were missing are at stamp 1.
abbrev pub opened_state : Config → List Content → State
opened_state config contents = record {
  pages = map (page 0) contents ++ map (page 1) (missing_pages contents);
  next = first_id config.idgen_persist_interval contents;
  batch = false;
  fault = false;
}

-- the log that is left, in the cache or with the error
abbrev pub log_after : {L : Type 0} → Result (Cache L) (Error × L) → L
log_after (Ok cache) = cache.log
log_after (Err refused) = refused.1

-- a log that holds these pages, with nothing pending, and what it holds
abbrev pub stable_state : List Messages → Bool → LogState Message
stable_state pages usable = record { stable = pages; pending = []; usable = usable }

abbrev pub stable_contents : List content.Content → Logged
stable_contents contents = record { stable = contents; pending = [] }

-- whether both system pages are there
abbrev pub has_own : List content.Content → Bool
has_own [] = false
has_own (roots ∷ []) = false
has_own (roots ∷ counter ∷ contents) = true

-- the chain is one that a cache leaves at this id
abbrev pub IsFit : ℕ → Chain → Type 0
IsFit = FitsId (λ chain. (roots : meta.Roots) × Makes (messages_of chain) (content.Roots roots)) (λ chain. (n : ℕ) × Makes (messages_of chain) (content.Counter n)) (λ chain. length chain ≤ most_messages)

-- the pointer is that of the first message of the first page, by id, whose chain isn't such a one
pub record BeginsAmiss (chains : List Chain) (pointer : DiskPtr) : Type 0 where
  pub pid : ℕ
  pub chain : Chain
  pub is : slice_get chains pid ≡ Some chain
  pub amiss : ¬ IsFit pid chain
  pub first : (before : ℕ) → before < pid → IfSome (slice_get chains before) (IsFit before)
  pub begins : slice_get (map (λ entry. entry.place.pointer) chain) 0 ≡ Some pointer

-- Why an opening over a log with these chains fails.
abbrev pub RefusesOpening : Config → List Chain → Error → Type 0
RefusesOpening config chains OutOfMemory = ⊤
RefusesOpening config chains (Io device) = ⊤
RefusesOpening config chains (Unsupported why) = (why ≡ LogFull) ⊎ (fault_of config ≡ Some why)
RefusesOpening config chains (Corruption None) = most_pages < length chains
RefusesOpening config chains (Corruption (Some pointer)) = (length chains ≤ most_pages) × BeginsAmiss chains pointer
-- there is no other reason
RefusesOpening config chains other = ⊥

module _ {L : Type 0} (g : Ghosts L) where
  -- the log holds what was held and, after it, the changes
  pub record HasAdded (held : Logged) (changes : List (Event Update)) (log : L) : Type 0 where
    pub held_then : Logged
    pub logged : IsLogged (unplaced_state (g.state log)) held_then
    pub added : Adds held changes held_then

  -- the log has no room for the message of the first change
  abbrev pub LacksRoomFor : L → List (Event Update) → Type 0
  LacksRoomFor log [] = ⊥
  LacksRoomFor log (change ∷ changes) = HasNoRoom g log change

  -- The log was full. If no change had begun, it lacked room from the start; otherwise it lacked room after the changes that had begun were
  -- added. From then on nothing was added.
  pub record RanOutOfRoom (log : L) (held : Logged) (begun rest : List (Event Update)) (after : L) : Type 0 where
    pub at_once : begun ≡ [] → LacksRoomFor log rest
    pub moment : L
    pub reached : CrashLeaves g log held begun moment
    pub added : HasAdded held begun moment
    pub no_room : LacksRoomFor moment rest
    pub still : CrashLeaves g moment added.held_then [] after × HasAdded added.held_then [] after

  -- A cache was opened: the missing system pages were added, and if one was missing, everything is durable.
  pub record IsOpened (log : L) (config : Config) (held : Logged) (cache : Cache L) : Type 0 where
    pub crash : CrashLeaves g log held (changes_of_start (now held)) cache.log
    pub held_then : Logged
    pub added : Adds held (changes_of_start (now held)) held_then
    pub stable : missing_pages (now held) ≢ [] → held_then.pending ≡ []
    pub is : Represents g cache held_then (opened_state config (now held))
    pub config_is : cache.config ≡ config
    pub recovered : cache.recovered ≡ has_own (now held)

  -- An error was returned, with the log. A prefix of the missing changes had begun, and no other change: a crash leaves no more than these.
  -- They were added, unless the error is a write error.
  pub record IsUnopened (log : L) (held : Logged) (error : Error) (after : L) : Type 0 where
    pub why : IsHindrance error
    pub begun : List (Event Update)
    pub rest : List (Event Update)
    pub are : begun ++ rest ≡ changes_of_start (now held)
    pub crash : CrashLeaves g log held begun after
    pub added : error ≢ Io Write → HasAdded held begun after
    pub full : error ≡ Unsupported LogFull → RanOutOfRoom log held begun rest after

  -- What opening a cache does to a log that held this.
  abbrev pub Opens : L → Config → Logged → Result (Cache L) (Error × L) → Type 0
  Opens log config held (Ok cache) = IsOpened log config held cache
  Opens log config held (Err refused) = IsUnopened log held refused.0 refused.1

  -- A fault is reported only if its count grew.
  pub record IsBlamedOpening (log : L) (result : Result (Cache L) (Error × L)) : Type 0 where
    pub read : IfErr result (λ e. e.0 ≡ Io Read → HasGrown (g.counts log).failed_reads (g.counts e.1).failed_reads)
    pub write : IfErr result (λ e. e.0 ≡ Io Write → HasGrown (g.counts log).write_faults (g.counts e.1).write_faults)

  -- The log may be opened. A log that `start` returns may be opened again, unless there was a write error.
  abbrev pub MayBeOpened : L → Type 0
  MayBeOpened log = ((g.state log).usable ≡ true) × (is_open (g.state log).pending ≡ false)

  -- No node is in memory: of the pages that aren't the cache's own only the free ones are.
  abbrev pub HoldsNoNode : Cache L → Type 0
  HoldsNoNode cache = (pid : ℕ) → 2 ≤ pid → IsResident cache pid → is_empty effect_of_entry (chain_at (g.state cache.log) pid) ≡ true
