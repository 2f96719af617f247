-- What moving the page that is due does in memory, and how often it reads.
use Rattle.std.specs.Prelude.{◌≡◌, ◌≤◌, ◌⊎◌, ◌||◌, ℕ, Bool, true, false, Option, Some, None, Result, Ok, Err, IfOk, IfErr, slice_get, slice_index_or, if◌then◌else◌}
use Rattle.sled_base.specs.declared.types.Error.{Error}
use Rattle.sled_log.specs.declared.log.Log.{Ghosts}
use Rattle.sled_pagecache.specs.Answers.{HasNoName, Keeps}
use Rattle.sled_pagecache.specs.Cache.{Cache, IsAway, IsResident, chain_at, chain_length}
use Rattle.sled_pagecache.specs.Calls.{IsBlamed, Steps}
use Rattle.sled_pagecache.specs.Due.{due_in, is_one_blob, pointers_of}
use Rattle.sled_pagecache.specs.Limits.{most_messages}
use Rattle.sled_pagecache.specs.Memory.{AccessesPage, EvictsAtMost, IsBounded, KeepsMemory, ReadsNothing, count_after}
use Rattle.sled_pagecache.specs.Step.{Due, Nothing, Outdated, Page}
use Rattle.sled_pagecache.specs.declared.pagecache.handles.call.Answer.TheVariants.{AttemptedGc}
use Rattle.sled_pagecache.specs.declared.pagecache.handles.call.Call.TheVariants.{AttemptGc}

-- whether there is one
abbrev pub is_there : {X : Type 0} → Option X → Bool
is_there None = false
is_there (Some x) = true

module _ {L : Type 0} (g : Ghosts L) where
  abbrev pub is_blob_at : Cache L → ℕ → Bool
  is_blob_at cache pid = is_one_blob (pointers_of (chain_at (g.state cache.log) pid))

  -- once for each message of the page, but not at all if the page is in memory or is one blob
  abbrev pub reads_to_move : Cache L → ℕ → ℕ
  reads_to_move cache pid = if slice_index_or cache.resident pid true || is_blob_at cache pid then 0 else chain_length g.state cache pid

  -- The page was written again by one message, and accessed. It is in memory then; a page of one blob stays in memory or out of it.
  pub record MovesPage (old : Cache L) (pid : ℕ) (new : Cache L) : Type 0 where
    pub accessed : AccessesPage old pid new
    pub there : is_blob_at old pid ≡ false → IsResident new pid
    pub stays : is_blob_at old pid ≡ true → slice_get new.resident pid ≡ slice_get old.resident pid
    pub length : chain_length g.state new pid ≡ 1
    pub reads : (g.counts new.log).reads ≡ count_after (reads_to_move old pid) (g.counts old.log).reads

  -- The move failed. What was read isn't kept, and the page may have left memory.
  pub record RefusesMove (old : Cache L) (pid : ℕ) (new : Cache L) (error : Error) : Type 0 where
    pub leaves : EvictsAtMost old pid new g.tells error
    pub kept_out : IsAway old pid → IsAway new pid
    pub times : ℕ
    pub most : times ≤ reads_to_move old pid
    pub reads : (g.counts new.log).reads ≡ count_after times (g.counts old.log).reads

  abbrev pub MovesDue : Cache L → Due → Result Bool Error → Cache L → Type 0
  MovesDue old (Page pid) (Ok moved) new = MovesPage old pid new
  MovesDue old (Page pid) (Err e) new = RefusesMove old pid new e
  MovesDue old Nothing result new = KeepsMemory old new × ReadsNothing g old new
  MovesDue old Outdated result new = KeepsMemory old new × ReadsNothing g old new

  -- What is known over any log: only the page that the log names is accessed.
  abbrev pub AccessesNamed : Cache L → Result Bool Error → Cache L → Type 0
  AccessesNamed old (Ok moved) new = KeepsMemory old new ⊎ ((named : ℕ × ℕ) × (g.due old.log ≡ Some named) × AccessesPage old named.0 new)
  AccessesNamed old (Err e) new = (pid : ℕ) × EvictsAtMost old pid new g.tells e

  -- A move was attempted. It is one step, and returns true exactly if a message was due.
  pub record AttemptsMove (old : Cache L) (result : Result Bool Error) (new : Cache L) : Type 0 where
    pub step : Steps g old AttemptGc (AttemptedGc result) new
    pub blame : IsBlamed g old new result
    pub keeps : Keeps old new result (λ _. old.stamps)
    pub named : IfOk result (λ moved. moved ≡ is_there (g.due old.log))
    pub moves : g.tells → old.fault ≡ false → MovesDue old (due_in g old.config old.log) result new
    pub accesses : AccessesNamed old result new
    pub times : ℕ
    pub most : times ≤ most_messages
    pub reads : (g.counts new.log).reads ≡ count_after times (g.counts old.log).reads
    pub bounded : IsBounded g new
    pub unnamed : IfErr result HasNoName
