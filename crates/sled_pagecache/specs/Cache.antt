-- What contracts see of a page cache over a log, and which state it is in.
use Rattle.std.specs.Prelude.{◌≡◌, ℕ, [], slice_index_or, Bool, true, false, List, length, Option, Some, slice_get}
use Rattle.sled_log.specs.Messages.{Entry, Chain, effect_of_entry}
use Rattle.std.specs.List.{sum_by}
use Rattle.sled_base.specs.Lru.{Recency}
use Rattle.sled_log.specs.Events.{is_open}
use Rattle.sled_log.specs.LogState as log
use Rattle.sled_log.specs.declared.log.Log.{Ghosts}
use Rattle.sled_pagecache.specs.Logged.{Logged, IsLogged, now}
use Rattle.sled_pagecache.specs.State.{State, contents_of, stamps_of}
use Rattle.sled_pagecache.specs.declared.pagecache.handles.config.Config.{Config}

-- the chain of a page
abbrev pub chain_at : log.LogState Entry → ℕ → Chain
chain_at state pid = slice_index_or (log.now effect_of_entry state) pid []

-- The stamps of the pages, which of them are in memory, how many bytes of the log the messages of each page take whose node is in memory,
-- the next generated id, whether a batch is open, whether a write error was met, the settings, whether both system pages were found in the
-- log, the pages by their recent use, and the log.
pub record Cache (L : Type 0) : Type 0 where
  pub stamps : List ℕ
  pub resident : List Bool
  pub nodes : List (Option ℕ)
  pub next : ℕ
  pub batch : Bool
  pub fault : Bool
  pub config : Config
  pub recovered : Bool
  pub lru : Recency
  pub log : L

-- the page is in memory, or isn't; a free one is
abbrev pub IsResident : {L : Type 0} → Cache L → ℕ → Type 0
IsResident cache pid = slice_get cache.resident pid ≡ Some true

abbrev pub IsAway : {L : Type 0} → Cache L → ℕ → Type 0
IsAway cache pid = slice_get cache.resident pid ≡ Some false

module _ {L : Type 0} (state : L → log.LogState Entry) where
  -- how many messages make a page
  abbrev pub chain_length : Cache L → ℕ → ℕ
  chain_length cache pid = length (chain_at (state cache.log) pid)

  -- how many bytes of the log they take together
  abbrev pub chain_size : Cache L → ℕ → ℕ
  chain_size cache pid = sum_by (λ entry. entry.place.log_size) (chain_at (state cache.log) pid)

module _ {L : Type 0} (g : Ghosts L) where
  -- what is known of a log that holds this
  pub record KnowsLog (cache : Cache L) (held : Logged) (s : State) : Type 0 where
    pub usable : (g.state cache.log).usable ≡ true
    pub logged : IsLogged (log.unplaced_state (g.state cache.log)) held
    pub contents : contents_of s ≡ now held
    pub opened : s.batch ≡ is_open held.pending

  -- The cache is in this state, and its log, which tells its bytes, holds this. After a write error nothing is known of the log.
  pub record Represents (cache : Cache L) (held : Logged) (s : State) : Type 0 where
    pub tells : g.tells
    pub stamps : stamps_of s ≡ cache.stamps
    pub next : s.next ≡ cache.next
    pub fault : s.fault ≡ cache.fault
    pub batch : s.batch ≡ cache.batch
    pub known : s.fault ≡ false → KnowsLog cache held s
