-- What is known of a call's answer over any log, whether or not its device tells its bytes.
use Rattle.std.specs.Prelude.{⊤, ◌≡◌, ◌==◌, ◌||◌, ℕ, Bool, true, false, List, [], ◌∷◌, ◌++◌, ◌+◌, length, Option, Result, Ok, Err, IfOk, OnErr, IsErrOf, slice_set, slice_index_or, if◌then◌else◌, ◌-◌, ◌^◌, Some, ◌⊎◌, ◌<◌, nat_lt, slice_get}
use Rattle.sled_base.specs.Order.{Bytes}
use Rattle.sled_base.specs.declared.types.Device.TheVariants.{Write}
use Rattle.sled_base.specs.declared.types.Error.{Error}
use Rattle.sled_base.specs.declared.types.Error.TheVariants.{CollectionNotFound, Io, Unsupported, ReportableBug}
use Rattle.sled_pagecache.specs.Cache.{Cache, Represents, IsResident}
use Rattle.sled_pagecache.specs.Limits.{meta_pid, most_messages, counter_pid}
use Rattle.sled_pagecache.specs.State.{Token, State, page, page_at}
use Rattle.sled_base.specs.declared.types.Bug.TheVariants.{LinkRefused}
use Rattle.sled_base.specs.declared.types.Why.TheVariants.{StampUsedUp}
use Rattle.sled_log.specs.Contents.{Node, Content, Counter}
use Rattle.sled_log.specs.declared.log.Log.{Ghosts}
use Rattle.sled_node.specs.Links.{Accepts}
use Rattle.sled_node.specs.Node.{WholeNode}
use Rattle.sled_node.specs.declared.node.link.Link.{Link as NodeLink}
use Rattle.sled_pagecache.specs.Logged.{Logged, IsLogged}
use Rattle.sled_pagecache.specs.Step.{Swapped, is_reserved}
use Rattle.sled_base.specs.declared.types.Refusal.TheVariants.{Unsupported, ReportableBug}
use Rattle.sled_log.specs.LogState.{unplaced_state}
use Rattle.sled_pagecache.specs.declared.pagecache.table.page_entry.PageContent.TheVariants.{Counter, Node}
use Rattle.sled_pagecache.specs.Memory.{AccessesPage}

-- The error owns no name. Only the call that looks up the root of a name returns an error that does.
abbrev pub HasNoName : Error → Type 0
HasNoName (CollectionNotFound name) = ⊥
HasNoName e = ⊤

-- if the error owns a name, it is this one
abbrev pub NamesOnly : Bytes → Error → Type 0
NamesOnly name (CollectionNotFound other) = other ≡ name
NamesOnly name e = ⊤

-- whether the answer is a write error
abbrev pub is_write_fault : {T : Type 0} → Result T Error → Bool
is_write_fault (Ok answer) = false
is_write_fault (Err (Io Write)) = true
is_write_fault (Err other) = false

-- A batch stays open or closed. A write error is sticky: after an earlier one the call returns it, and nothing changes. If the call
-- succeeds, these are the stamps; an error leaves them unchanged.
pub record Keeps {L T : Type 0} (old new : Cache L) (result : Result T Error) (stamps : T → List ℕ) : Type 0 where
  pub batch : new.batch ≡ old.batch
  pub fault : new.fault ≡ (old.fault || is_write_fault result)
  pub stuck : old.fault ≡ true → IsErrOf result (Io Write) × (new ≡ old)
  pub done : IfOk result (λ answer. new.stamps ≡ stamps answer)
  pub refused : OnErr result (new.stamps ≡ old.stamps)

-- the stamps after the page of a token got the token's stamp; the page is one of them, or the next new one
abbrev pub stamps_with : List ℕ → Token → List ℕ
stamps_with stamps token = if token.pid == length stamps then stamps ++ token.stamp ∷ [] else slice_set stamps token.pid token.stamp

-- the stamps after a swap of a root
abbrev pub stamps_after_root_swap : List ℕ → Result (Unit {0}) (Option ℕ) → List ℕ
stamps_after_root_swap stamps (Ok done) = slice_set stamps meta_pid (slice_index_or stamps meta_pid 0 + 1)
stamps_after_root_swap stamps (Err root) = stamps

-- the stamps after a swap
abbrev pub stamps_after_swap : {R : Type 0} → List ℕ → Result Token (Option (Token × R)) → List ℕ
stamps_after_swap stamps (Ok made) = slice_set stamps made.pid made.stamp
stamps_after_swap stamps (Err back) = stamps

-- this holds unless the swap succeeded
abbrev pub UnlessMade : {R : Type 0} → Swapped R → Type 0 → Type 0
UnlessMade (Ok (Ok made)) holds = ⊤
UnlessMade answer holds = holds

-- The same for a swap, except that the move after a successful swap may meet a write error, which is sticky but not returned.
pub record KeepsSwap {L R : Type 0} (old new : Cache L) (result : Swapped R) : Type 0 where
  pub batch : new.batch ≡ old.batch
  pub fault : UnlessMade result (new.fault ≡ (old.fault || is_write_fault result))
  pub stuck : old.fault ≡ true → IsErrOf result (Io Write) × (new ≡ old)
  pub done : IfOk result (λ swapped. new.stamps ≡ stamps_after_swap old.stamps swapped)
  pub refused : OnErr result (new.stamps ≡ old.stamps)

-- A batch is opened or closed, and no stamp changes. A write error is sticky, and after an earlier one the call returns it.
pub record KeepsStamps {L : Type 0} (old new : Cache L) (result : Result (Unit {0}) Error) : Type 0 where
  pub stamps : new.stamps ≡ old.stamps
  pub fault : new.fault ≡ (old.fault || is_write_fault result)
  pub stuck : old.fault ≡ true → IsErrOf result (Io Write)

-- A link that the node doesn't accept is refused. One that it accepts is refused at the greatest stamp.
pub record IsTested (node : WholeNode) (link : NodeLink) (stamp : ℕ) (answer : Swapped NodeLink) : Type 0 where
  pub refused : ¬ Accepts node link → answer ≡ Err (ReportableBug LinkRefused)
  pub used_up : Accepts node link → stamp ≡ 2 ^ 64 - 1 → answer ≡ Err (Unsupported StampUsedUp)

-- If the page is in memory, at the stamp of the token, the link is tested before memory is allocated or the log is called.
abbrev pub TestsFirst : {L : Type 0} → Ghosts L → Cache L → Token → NodeLink → Swapped NodeLink → Type 0
TestsFirst g cache old link answer =
    (held : Logged) (s : State) (node : WholeNode) → Represents g cache held s → s.fault ≡ false → is_reserved old.pid ≡ false
    → IsResident cache old.pid → page_at s old.pid ≡ Some (page old.stamp (Node node)) → IsTested node link old.stamp answer

-- how many messages make a page after a link, by how many made it before
abbrev pub linked_length : ℕ → ℕ
linked_length messages = if nat_lt messages most_messages then messages + 1 else 1

-- The counter is on its page here, and the id is below the counter plus one interval.
abbrev pub IsBelowCounter : ℕ → List Content → ℕ → Type 0
IsBelowCounter interval contents id = (counter : ℕ) × (slice_get contents counter_pid ≡ Some (Counter counter)) × (id < counter + interval)

-- This holds of the durable pages, if the device tells its bytes.
abbrev pub IsCovered : {L : Type 0} → Ghosts L → Cache L → ℕ → Type 0
IsCovered g cache id =
    g.tells → (held : Logged) → IsLogged (unplaced_state (g.state cache.log)) held → IsBelowCounter cache.config.idgen_persist_interval held.stable id

-- An id was returned. Either a new counter was put on its page, which was accessed, and everything is durable; or nothing changes but the
-- next id.
abbrev pub GivesId : {L : Type 0} → Ghosts L → Cache L → Cache L → Type 0
GivesId g old new = (AccessesPage old counter_pid new × ((g.state new.log).pending ≡ [])) ⊎ (new ≡ record old { next = old.next + 1 })
