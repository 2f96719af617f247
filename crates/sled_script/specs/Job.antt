-- What the arguments of the program ask for, and the cache that it opens.
use Rattle.std.specs.Prelude.{◌≡◌, ℕ, ◌<◌, ◌≤◌, ◌⊎◌, false, List, [], ◌∷◌, ◌++◌, Option, None, Some, Result, Ok, Err, ⊤, codes}
use Rattle.std.specs.Fmt.{decimal}
use Rattle.sled_base.specs.Order.{Bytes}
use Rattle.sled_lines.specs.declared.arguments.NoWords.{NoWords}
use Rattle.sled_lines.specs.declared.arguments.NoWords.TheVariants.{NoText, Memory}
use Rattle.sled_log.specs.contracts.memory.calls.MemLogLog.TheImpl as mem
use Rattle.sled_log.specs.declared.memory.MemLog.{MemLog}
use Rattle.sled_pagecache.specs.Cache.{Cache, Represents}
use Rattle.sled_pagecache.specs.Logged.{Logged}
use Rattle.sled_pagecache.specs.Opening.{opened_state}
use Rattle.sled_pagecache.specs.declared.pagecache.handles.config.Config.{Config}
use Rattle.sled_script.specs.declared.program.Job.{Job}
use Rattle.sled_script.specs.declared.program.Job.TheVariants as job

-- the script: over a log in memory by one word, or over the log in a file by two
abbrev pub AskForScript : Option (List Bytes) → Type 0
AskForScript None = ⊥
AskForScript (Some words) = (words ≡ codes "mem" ∷ []) ⊎ ((path : Bytes) × (words ≡ codes "file" ∷ path ∷ []))

-- the words encode this many threads, and this many calls in each
abbrev pub EncodeCrew : Bytes → Bytes → ℕ → ℕ → Type 0
EncodeCrew first second workers calls = (0 < workers) × (workers ≤ 64) × (calls ≤ 10000) × (first ≡ decimal workers) × (second ≡ decimal calls)

-- a crew of this many threads, each of which makes this many calls
abbrev pub AskForCrew : ℕ → ℕ → Option (List Bytes) → Type 0
AskForCrew workers calls None = ⊥
AskForCrew workers calls (Some words) = (first second : Bytes) × (words ≡ codes "crew" ∷ first ∷ second ∷ []) × EncodeCrew first second workers calls

-- one of these
abbrev pub AskForJob : Option (List Bytes) → Type 0
AskForJob words = AskForScript words ⊎ ((workers : ℕ) × (calls : ℕ) × AskForCrew workers calls words)

-- none of these, or they are no text; if an allocation failed for them, it isn't known
abbrev pub AskForNone : Result (List Bytes) NoWords → Type 0
AskForNone (Ok words) = ¬ AskForJob (Some words)
AskForNone (Err NoText) = ⊤
AskForNone (Err Memory) = ⊥

-- the words ask for this job
abbrev pub AskFor : Job → Option (List Bytes) → Type 0
AskFor job.Memory words = AskForScript words
AskFor (job.OnFile path) words = AskForScript words
AskFor (job.Crew workers calls) words = AskForCrew workers calls words

-- what a crew prints: how many calls it made
abbrev pub crew_text : ℕ → Bytes
crew_text made = decimal made ++ (codes " calls" ++ 10 ∷ [])

-- The cache is new, with these settings: its pages are those that every cache has, they are durable, and no batch is open.
pub record IsNew (config : Config) (cache : Cache MemLog) : Type 0 where
  pub settings : cache.config ≡ config
  pub held : Logged
  pub is : Represents mem.ghosts cache held (opened_state config [])
  pub stable : held.pending ≡ []
  pub closed : cache.batch ≡ false
