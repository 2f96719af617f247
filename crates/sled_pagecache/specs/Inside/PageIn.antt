-- What reading a page from the log returns, and what bringing it into memory does to a cache.
use Rattle.std.specs.Prelude.{◌≡◌, ◌≤◌, ℕ, [], List, ◌∷◌, ◌⊎◌, false, Some, ⊤, true, length, Option, None, Result, Ok, Err, OnOk, OnErr, IfErr, slice_get}
use Rattle.sled_base.specs.declared.types.DiskPtr.{DiskPtr}
use Rattle.sled_log.specs.Messages.{Entry, Chain, effect_of_entry, Message, messages_of, message}
use Rattle.sled_log.specs.Pages.{IsReadAs}
use Rattle.sled_pagecache.specs.declared.pagecache.memory.reading.Found.{Found}
use Rattle.sled_base.specs.declared.kinds.MessageKind.{MessageKind}
use Rattle.sled_base.specs.declared.kinds.MessageKind.TheVariants as kinds
use Rattle.sled_base.specs.declared.types.Bug.TheVariants.{FreeInPull}
use Rattle.sled_base.specs.declared.types.Refusal.{Refusal}
use Rattle.sled_base.specs.declared.types.Refusal.TheVariants.{ReportableBug, Corruption, OutOfMemory, Io, Unsupported}
use Rattle.sled_log.specs.Chains.{is_empty}
use Rattle.sled_log.specs.Contents.{Node, Link, Put}
use Rattle.sled_log.specs.Reading.{IsUpdate, Makes}
use Rattle.sled_node.specs.Links.{Accepts, applied}
use Rattle.sled_node.specs.Node.{WholeNode}
use Rattle.sled_node.specs.declared.node.link.Link.{Link as NodeLink}
use Rattle.sled_pagecache.specs.Damage.{IsWrongAt, IsDamaged, LeavesPages}
use Rattle.sled_base.specs.declared.types.Why.TheVariants.{ReservedId}
use Rattle.sled_log.specs.declared.log.Log.{Ghosts}
use Rattle.sled_pagecache.specs.Cache.{Cache, IsResident, IsAway, chain_at}
use Rattle.sled_log.specs.LogState.{now}
use Rattle.sled_pagecache.specs.Memory.{count_after}
use Rattle.sled_pagecache.specs.Table.{is_free}
use Rattle.sled_pagecache.specs.Inside.Invariant.{IsFreeOrNode}
use Rattle.sled_pagecache.specs.Inside.PageEntry.{IsKept, is_resident}
use Rattle.sled_pagecache.specs.Inside.StickyLog.{IsCaused, Went}
use Rattle.sled_pagecache.specs.declared.pagecache.table.page_entry.Page.{Page}
use Rattle.sled_pagecache.specs.Step.{is_reserved}
use Rattle.sled_pagecache.specs.State.{token}
use Rattle.sled_pagecache.specs.declared.pagecache.write.sticky_log.StickyLog.{StickyLog}
use Rattle.sled_pagecache.specs.declared.pagecache.handles.view.NodeView.{NodeView}

-- what a reader of an entry found: its kind, or that of its blob, its payload, and where it is stored
abbrev pub IsFoundAs : Entry → Found → Type 0
IsFoundAs entry found = IsReadAs entry found.kind found.payload.now × (found.pointer ≡ entry.place.pointer)

-- The chain is one message, and this is what was found of it.
abbrev pub IsOnly : Chain → MessageKind → List ℕ → DiskPtr → Type 0
IsOnly chain kind payload pointer = (entry : Entry) × (chain ≡ entry ∷ []) × IsReadAs entry kind payload × (pointer ≡ entry.place.pointer)

-- a message that was found, without its place
abbrev pub found_message : Found → Message
found_message found = message found.kind found.payload.now

-- the whole payload encodes no value
abbrev pub EncodesNothing : {V : Type 0} → (List ℕ → V → List ℕ → Type 0) → List ℕ → Type 0
EncodesNothing {V} reads payload = (value : V) → reads payload value [] → ⊥

-- the message is a link that the node before accepts, and that makes the node after
abbrev pub Leads : WholeNode → Message → WholeNode → Type 0
Leads before message after = (link : NodeLink) × IsUpdate message (Link link) × Accepts before link × (after ≡ applied link before)

-- why a message that is stored at the pointer was refused: an allocation failed, or it is wrong
abbrev pub RefusesMessage : DiskPtr → Type 0 → Refusal → Type 0
RefusesMessage pointer amiss OutOfMemory = ⊤
RefusesMessage pointer amiss (Corruption (Some place)) = (place ≡ pointer) × amiss
-- there is no other reason
RefusesMessage pointer amiss refusal = ⊥

-- Why the first message of a page puts no node there: an allocation failed, the message is wrong, or it frees the page.
abbrev pub RefusesFirst : Found → Refusal → Type 0
RefusesFirst found (ReportableBug FreeInPull) = found.kind ≡ kinds.Free
RefusesFirst found refusal = RefusesMessage found.pointer ((node : WholeNode) → ¬ IsUpdate (found_message found) (Put (Node node))) refusal

-- What messages make with one more, given what they made before it: a node, or nothing for a reason.
abbrev pub Follows : Result WholeNode Refusal → Found → Result WholeNode Refusal → Type 0
Follows (Ok before) found (Ok after) = Leads before (found_message found) after
Follows (Ok before) found (Err refusal) = RefusesMessage found.pointer ((after : WholeNode) → ¬ Leads before (found_message found) after) refusal
Follows (Err refusal) found made = made ≡ Err refusal

-- An allocation failed, the device failed, or a message is wrong at its place, and the first such one is reported.
abbrev pub RefusesPull : Chain → Refusal → Type 0
RefusesPull chain OutOfMemory = ⊤
RefusesPull chain (Io device) = ⊤
RefusesPull chain (Corruption (Some pointer)) = IsWrongAt chain pointer
-- there is no other reason, since a free page is in memory
RefusesPull chain refusal = ⊥

-- A page that wasn't in memory was read, by one read for each of its messages, or that failed and the page stays. Nothing was written.
pub record PullsPage {L : Type 0} (g : Ghosts L) (old : StickyLog L) (pid : ℕ) (page : Page) (new : StickyLog L) (page_then : Page) (result : Result (Unit {0}) Refusal) : Type 0 where
  pub went : Went g old new []
  pub cause : IsCaused g old new ⊥ result
  pub refused : g.tells → IfErr result (RefusesPull (chain_at (g.state old.log) pid))
  pub same : g.tells → new.fault ≡ false → now effect_of_entry (g.state new.log) ≡ now effect_of_entry (g.state old.log)
  pub room : (n : ℕ) → g.is_full new.log n → g.is_full old.log n
  pub unread : is_resident page.kept ≡ true → new ≡ old
  pub reads : is_resident page.kept ≡ false → OnOk result ((g.counts new.log).reads ≡ count_after (length page.infos.items) (g.counts old.log).reads)
  pub at_most : OnErr result ((times : ℕ) × (times ≤ length page.infos.items) × ((g.counts new.log).reads ≡ count_after times (g.counts old.log).reads))
  pub kept : g.tells → IsKept (chain_at (g.state old.log) pid) page_then
  pub stamp : page_then.stamp ≡ page.stamp
  pub infos : page_then.infos.items ≡ page.infos.items
  pub free : is_free page_then.kept ≡ is_free page.kept
  pub own : IsFreeOrNode page.kept → IsFreeOrNode page_then.kept
  pub resident : OnOk result (is_resident page_then.kept ≡ true)
  pub stays : is_resident page.kept ≡ true → page_then.kept ≡ page.kept
  pub err : OnErr result (page_then.kept ≡ page.kept)

-- the log of a cache, with its sticky write error
abbrev pub sticky_log_of : {L : Type 0} → Cache L → StickyLog L
sticky_log_of cache = record { alloc = record { memory = record { seal = tt } }; log = cache.log; fault = cache.fault; batch = cache.batch }

-- Why a page isn't read: it is the cache's own, or it isn't free and its node can't be read from the log.
abbrev pub RefusesReading : Chain → ℕ → Refusal → Type 0
RefusesReading chain pid refusal =
    ((is_reserved pid ≡ true) × (refusal ≡ Unsupported ReservedId))
    ⊎ ((is_reserved pid ≡ false) × (is_empty effect_of_entry chain ≡ false) × RefusesPull chain refusal)

-- The page was read if it wasn't in memory. Then it is free or holds a node.
pub record BringsIn {L : Type 0} (g : Ghosts L) (old : Cache L) (pid : ℕ) (result : Result (Unit {0}) Refusal) (new : Cache L) : Type 0 where
  pub left : LeavesPages g old new
  pub cause : IsCaused g (sticky_log_of old) (sticky_log_of new) ⊥ result
  pub in_memory : OnOk result ((is_reserved pid ≡ false) × ¬ IsAway new pid)
  pub sound : g.tells → OnOk result (¬ IsDamaged (chain_at (g.state old.log) pid))
  pub refused : g.tells → IfErr result (RefusesReading (chain_at (g.state old.log) pid) pid)

-- The node is the one that the chain of the page makes. There is none if the page isn't in memory, or if the chain makes none. After a
-- write error nothing is known of the chain.
abbrev pub IsNodeAt : {L : Type 0} → Ghosts L → Cache L → ℕ → Option NodeView → Type 0
IsNodeAt g cache pid (Some view) =
    (view.token ≡ token pid view.token.stamp) × (slice_get cache.stamps pid ≡ Some view.token.stamp) × IsResident cache pid
    × (g.tells → cache.fault ≡ false → Makes (messages_of (chain_at (g.state cache.log) pid)) (Node view.node.now))
IsNodeAt g cache pid None =
    IsAway cache pid ⊎ (g.tells → cache.fault ≡ false → (node : WholeNode) → ¬ Makes (messages_of (chain_at (g.state cache.log) pid)) (Node node))
