-- What is returned for a damaged page.
use Rattle.std.specs.Prelude.{◌≤◌, true, ◌≡◌, ℕ, List, [], ◌∷◌, ◌++◌, ◌⊎◌, map, false, Some, ⊤, Result}
use Rattle.sled_base.specs.declared.types.DiskPtr.{DiskPtr}
use Rattle.sled_base.specs.declared.types.Refusal.TheVariants.{Corruption, OutOfMemory}
use Rattle.sled_log.specs.Chains.{is_empty}
use Rattle.sled_log.specs.Events.{is_open}
use Rattle.sled_log.specs.Contents.{Node}
use Rattle.sled_log.specs.Messages.{effect_of, Message, Chain, Messages, messages_of, effect_of_entry}
use Rattle.sled_log.specs.Reading.{Makes}
use Rattle.sled_node.specs.Node.{WholeNode}
use Rattle.sled_log.specs.LogState as log
use Rattle.sled_log.specs.declared.log.Log.{Ghosts}
use Rattle.sled_pagecache.specs.Cache.{Cache, chain_at}
use Rattle.sled_pagecache.specs.Calls.{IsSameOpening}
use Rattle.sled_pagecache.specs.Step.{is_reserved}
use Rattle.std.specs.Result.{IsErrAnd}
use Rattle.sled_base.specs.declared.types.Error.{Error}
use Rattle.sled_base.specs.declared.types.Error.TheVariants.{Io, Corruption, OutOfMemory}

-- the messages make some node
abbrev pub MakesNode : Messages → Type 0
MakesNode unplaced = (node : WholeNode) × Makes unplaced (Node node)

-- The message stored there is the first one that is wrong at its place: those before it make a node, if there are any, and with it they
-- make none.
pub record IsFirstWrong {M : Type 0} (message : M → Message) (kept_at : M → DiskPtr) (messages : List M) (pointer : DiskPtr) : Type 0 where
  pub before : List M
  pub first : M
  pub after : List M
  pub is : messages ≡ before ++ first ∷ after
  pub kept : kept_at first ≡ pointer
  pub sound : (before ≡ []) ⊎ MakesNode (map message before)
  pub wrong : ¬ MakesNode (map message (before ++ first ∷ []))

-- the page has content, and its messages make no node
abbrev pub IsDamaged : Chain → Type 0
IsDamaged chain = (is_empty effect_of_entry chain ≡ false) × ¬ MakesNode (messages_of chain)

-- the message stored there is the first wrong one of a page's chain
abbrev pub IsWrongAt : Chain → DiskPtr → Type 0
IsWrongAt chain pointer = IsFirstWrong (λ entry. entry.message) (λ entry. entry.place.pointer) chain pointer

-- No page changes, and nothing is appended to the log. Unless there was a write error, the log may be called, and a batch is open if it was
-- before. If the device tells its bytes, a crash leaves what a crash before could have left, and the chains are the same.
pub record LeavesPages {L : Type 0} (g : Ghosts L) (old new : Cache L) : Type 0 where
  pub opening : IsSameOpening old new
  pub stamps : new.stamps ≡ old.stamps
  pub next : new.next ≡ old.next
  pub batch : new.batch ≡ old.batch
  pub usable : new.fault ≡ false → (g.state new.log).usable ≡ true
  pub opened : new.fault ≡ false → is_open (g.state new.log).pending ≡ is_open (g.state old.log).pending
  pub failed_reads : (g.counts old.log).failed_reads ≤ (g.counts new.log).failed_reads
  pub write_faults : (g.counts old.log).write_faults ≤ (g.counts new.log).write_faults
  pub added : g.tells → new.fault ≡ false → log.Adds effect_of (log.unplaced_state (g.state old.log)) [] (log.unplaced_state (g.state new.log))
  pub crash : g.tells → log.CrashesSinceLeave g.moment g.left_since old.log new.log (log.IsLeft effect_of (log.unplaced_state (g.state old.log)) [])
  pub same : g.tells → new.fault ≡ false → log.now effect_of_entry (g.state new.log) ≡ log.now effect_of_entry (g.state old.log)

-- the error is the first wrong message of the page, unless memory ran out or the device failed
abbrev pub ReportsWrong : Chain → Error → Type 0
ReportsWrong chain OutOfMemory = ⊤
ReportsWrong chain (Io device) = ⊤
ReportsWrong chain (Corruption (Some pointer)) = IsWrongAt chain pointer
-- no other error is returned; a page whose first message frees it is free
ReportsWrong chain error = ⊥

-- the same for one of several pages, of which only those count that aren't the cache's own
abbrev pub ReportsSomeWrong : (ℕ → Chain) → Error → Type 0
ReportsSomeWrong chain OutOfMemory = ⊤
ReportsSomeWrong chain (Io device) = ⊤
ReportsSomeWrong chain (Corruption (Some pointer)) = (pid : ℕ) × (is_reserved pid ≡ false) × IsDamaged (chain pid) × IsWrongAt (chain pid) pointer
ReportsSomeWrong chain error = ⊥

module _ {L : Type 0} (g : Ghosts L) (old : Cache L) (pid : ℕ) where
  -- The page isn't the cache's own and has content, and its messages make no node.
  pub record MeetsDamage : Type 0 where
    pub tells : g.tells
    pub ready : old.fault ≡ false
    pub behind : is_reserved pid ≡ false
    pub damaged : IsDamaged (chain_at (g.state old.log) pid)

  -- The first wrong message of the page is reported. No page changes, and nothing is added to the log.
  pub record ReportsDamage {T : Type 0} (result : Result T Error) (new : Cache L) : Type 0 where
    pub reported : IsErrAnd result (ReportsWrong (chain_at (g.state old.log) pid))
    pub left : LeavesPages g old new
