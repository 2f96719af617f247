-- What rewriting a cache into another log does to both: the other log holds the same pages, each in one message, and the cache stays as it
-- was.
use Rattle.std.specs.Prelude.{◌≡◌, ◌⊎◌, ◌+◌, ℕ, true, List, [], ◌∷◌, ◌++◌, map, Result, IfErr}
use Rattle.sled_base.specs.declared.types.Device.TheVariants.{Read, Write}
use Rattle.sled_base.specs.declared.types.Error.{Error}
use Rattle.sled_base.specs.declared.types.Error.TheVariants.{Io}
use Rattle.sled_log.specs.Calls.{HasGrown}
use Rattle.sled_log.specs.Chains.{chains_after}
use Rattle.sled_log.specs.Contents.{Content, Free, Counter, Roots, Node, Damaged, Update, Put}
use Rattle.sled_log.specs.Events.{Event, Change, seen_events}
use Rattle.sled_log.specs.LogState as log
use Rattle.sled_log.specs.LogState.{CrashesSinceLeave, unplaced_state}
use Rattle.sled_log.specs.Messages.{Message, Messages, effect_of}
use Rattle.sled_log.specs.Reading.{message_of}
use Rattle.sled_log.specs.declared.log.Log.{Ghosts}
use Rattle.sled_node.specs.Node.{empty_leaf}
use Rattle.sled_pagecache.specs.Cache.{Cache}
use Rattle.sled_pagecache.specs.Calls.{IsDoneInEach}
use Rattle.sled_pagecache.specs.Logged.{Logged, IsLogged, now}
use Rattle.sled_pagecache.specs.Opening.{LacksRoomFor, stable_state, stable_contents}
use Rattle.sled_pagecache.specs.Step.{outcome}

-- the page is this one message, which puts the content there
abbrev pub alone : Content → Messages
alone content = message_of (Put content) ∷ []

-- What is written for a page. No log frees a page that isn't there, so an empty leaf is written first for a free page.
abbrev pub changes_of_page : ℕ → Content → List (Event Update)
changes_of_page pid Free = Change pid (Put (Node empty_leaf)) ∷ Change pid (Put Free) ∷ []
changes_of_page pid (Counter n) = Change pid (Put (Counter n)) ∷ []
changes_of_page pid (Roots roots) = Change pid (Put (Roots roots)) ∷ []
changes_of_page pid (Node node) = Change pid (Put (Node node)) ∷ []
changes_of_page pid Damaged = Change pid (Put Damaged) ∷ []

-- what is written for several pages in the order of their ids, of which the first has this id
abbrev pub changes_of_pages : ℕ → List Content → List (Event Update)
changes_of_pages pid [] = []
changes_of_pages pid (content ∷ contents) = changes_of_page pid content ++ changes_of_pages (pid + 1) contents

-- the messages that are written
abbrev pub messages_of_pages : ℕ → List Content → List (Event Message)
messages_of_pages pid contents = seen_events message_of (changes_of_pages pid contents)

-- The cache stays in its state, whichever that is, except for a write error that came, and writes nothing.
abbrev pub StaysInState : {L : Type 0} → Ghosts L → Cache L → Cache L → Type 0
StaysInState g old new = IsDoneInEach g (λ s out. out ≡ outcome (record s { fault = new.fault }) []) old new

module _ {M : Type 0} (h : Ghosts M) where
  -- The log had no room for the next of the messages, at the moment when it held those before it. If there were none before it, the log had
  -- no room as it was given.
  pub record RanFull (given : M) (contents : List Content) : Type 0 where
    pub begun : List (Event Update)
    pub rest : List (Event Update)
    pub are : begun ++ rest ≡ changes_of_pages 0 contents
    pub at_once : begun ≡ [] → LacksRoomFor h given rest
    pub moment : M
    pub reached : CrashesSinceLeave h.moment h.left_since given moment (log.IsLeft effect_of (unplaced_state (h.state given)) (seen_events message_of begun))
    pub holds : log.now effect_of (unplaced_state (h.state moment)) ≡ chains_after effect_of [] (seen_events message_of begun)
    pub no_room : LacksRoomFor h moment rest

module _ {L M : Type 0} (g : Ghosts L) (h : Ghosts M) where
  -- The log may be called, and nothing is pending. If both logs tell their bytes, it holds the pages that the cache has now, all of them
  -- durable, and each in one message.
  pub record IsRewritten (cache : Cache L) (log : M) : Type 0 where
    pub usable : (h.state log).usable ≡ true
    pub none : (h.state log).pending ≡ []
    pub messages : g.tells → h.tells → (held : Logged) → IsLogged (unplaced_state (g.state cache.log)) held → unplaced_state (h.state log) ≡ stable_state (map alone (now held)) true
    pub contents : g.tells → h.tells → (held : Logged) → IsLogged (unplaced_state (g.state cache.log)) held → IsLogged (unplaced_state (h.state log)) (stable_contents (now held))

  -- the other log was full
  abbrev pub IsFullFor : Cache L → M → Type 0
  IsFullFor cache given = (held : Logged) → IsLogged (unplaced_state (g.state cache.log)) held → RanFull h given (now held)

  -- A fault is reported only if its count grew in the call, in one of the two logs.
  pub record IsBlamedRewriting (old new : Cache L) (given : M) (result : Result M (Error × M)) : Type 0 where
    pub read : IfErr result (λ e. e.0 ≡ Io Read → HasGrown (g.counts old.log).failed_reads (g.counts new.log).failed_reads ⊎ HasGrown (h.counts given).failed_reads (h.counts e.1).failed_reads)
    pub write : IfErr result (λ e. e.0 ≡ Io Write → HasGrown (g.counts old.log).write_faults (g.counts new.log).write_faults ⊎ HasGrown (h.counts given).write_faults (h.counts e.1).write_faults)
