-- What a swap makes of a page that is at the stamp of the token.
use Rattle.std.specs.Prelude.{◌≡◌, ◌≢◌, ◌⊎◌, ◌+◌, ◌-◌, ◌^◌, ◌<◌, ℕ, false, [], ◌∷◌, length, None, Result, IfOk, IfErr, OnOk, OnErr, ⊤}
use Rattle.std.specs.List.{AllByRecursion}
use Rattle.sled_base.specs.declared.types.Bug.TheVariants.{LinkRefused}
use Rattle.sled_base.specs.declared.types.Refusal.{Refusal}
use Rattle.sled_base.specs.declared.types.Refusal.TheVariants.{Unsupported, ReportableBug, Corruption}
use Rattle.sled_base.specs.declared.types.Why.TheVariants.{StampUsedUp}
use Rattle.sled_log.specs.Chains.{chains_from}
use Rattle.sled_log.specs.Contents.{Update}
use Rattle.sled_log.specs.Contents as content
use Rattle.sled_log.specs.Events.{Change}
use Rattle.sled_log.specs.Limits.{head_size, size_limit}
use Rattle.sled_log.specs.Messages.{Message, placed_entry, effect_of_entry}
use Rattle.sled_log.specs.Pages.{IsSized}
use Rattle.sled_log.specs.Reading.{IsUpdate, message_of}
use Rattle.sled_log.specs.LogState.{now}
use Rattle.sled_log.specs.declared.log.Log.{Ghosts}
use Rattle.sled_node.specs.Links.{Accepts, applied}
use Rattle.sled_node.specs.Meta as meta
use Rattle.sled_node.specs.Meta.{IsRootMap}
use Rattle.sled_node.specs.declared.node.link.Link.{Link as NodeLink}
use Rattle.sled_pagecache.specs.Step.{link_update}
use Rattle.sled_pagecache.specs.Infos.{place_of}
use Rattle.sled_pagecache.specs.Inside.StickyLog.{Went, IsCaused, IsOfLog, begun_by}
use Rattle.sled_pagecache.specs.declared.pagecache.table.page_entry.CacheInfo.{CacheInfo}
use Rattle.sled_pagecache.specs.declared.pagecache.write.sticky_log.StickyLog.{StickyLog}
use Rattle.sled_pagecache.specs.declared.pagecache.table.page_entry.PageContent.{PageContent}
use Rattle.sled_pagecache.specs.declared.pagecache.table.page_entry.PageContent.TheVariants.{Free, OnLog, Counter, Roots, Node}

-- what is put on a page that holds this
abbrev pub content_of : PageContent → content.Content
content_of Free = content.Free
content_of (Counter n) = content.Counter n
content_of (Roots roots) = content.Roots roots
content_of (Node node) = content.Node node
content_of OnLog = content.Damaged

-- this content can be written
abbrev pub CanPut : PageContent → Type 0
CanPut Free = ⊤
CanPut (Counter n) = n < 2 ^ 64
CanPut (Roots roots) = IsRootMap roots
CanPut (Node node) = ⊤
CanPut OnLog = ⊥

-- the named roots that the page holds
abbrev pub roots_in : PageContent → meta.Roots
roots_in (Roots roots) = roots
roots_in other = []

-- the stamp could increase, and increased by one
abbrev pub IsRaised : ℕ → ℕ → Type 0
IsRaised old new = (old < 2 ^ 64 - 1) × (new ≡ old + 1)

-- the node accepts the link, which was applied
abbrev pub IsLinked : PageContent → NodeLink → PageContent → Type 0
IsLinked (Node node) link new = Accepts node link × (new ≡ Node (applied link node))
IsLinked Free link new = ⊥
IsLinked OnLog link new = ⊥
IsLinked (Counter n) link new = ⊥
IsLinked (Roots roots) link new = ⊥

-- what a link writes to a page that holds this, and that this many messages make
abbrev pub update_of : ℕ → NodeLink → PageContent → Update
update_of messages link (Node node) = link_update messages link (applied link node)
update_of messages link Free = content.Link link
update_of messages link OnLog = content.Link link
update_of messages link (Counter n) = content.Link link
update_of messages link (Roots roots) = content.Link link

-- why a permitted swap failed: the stamp is the greatest, or the log refused it
abbrev pub RefusesSwap : ℕ → Refusal → Type 0
RefusesSwap stamp refusal = ((stamp ≡ 2 ^ 64 - 1) × (refusal ≡ Unsupported StampUsedUp)) ⊎ ((stamp ≢ 2 ^ 64 - 1) × IsOfLog refusal)

-- why a link failed on a page that holds this
abbrev pub RefusesLink : ℕ → PageContent → NodeLink → Refusal → Type 0
RefusesLink stamp (Node node) link refusal = ((¬ Accepts node link) × (refusal ≡ ReportableBug LinkRefused)) ⊎ (Accepts node link × RefusesSwap stamp refusal)
RefusesLink stamp Free link refusal = refusal ≡ Corruption None
RefusesLink stamp OnLog link refusal = refusal ≡ Corruption None
RefusesLink stamp (Counter n) link refusal = refusal ≡ Corruption None
RefusesLink stamp (Roots roots) link refusal = refusal ≡ Corruption None

module _ {L : Type 0} (g : Ghosts L) where
  -- A message of a page was written to the log, and the result is where it is stored, or why that failed.
  pub record WritesMessage (old new : StickyLog L) (pid : ℕ) (m : Message) (stamp : ℕ) (result : Result CacheInfo Refusal) : Type 0 where
    pub went : Went g old new (begun_by result (Change pid m ∷ []))
    pub cause : IsCaused g old new (g.is_full old.log (length m.payload)) result
    pub of_log : g.tells → IfErr result IsOfLog
    pub reads : (g.counts new.log).reads ≡ (g.counts old.log).reads
    pub at : IfOk result (λ info. info.ts ≡ stamp)
    pub size : IfOk result (λ info. (info.log_size ≡ head_size + length m.payload) × (info.log_size < size_limit))
    pub chains : g.tells → IfOk result (λ info. now effect_of_entry (g.state new.log) ≡ chains_from effect_of_entry (now effect_of_entry (g.state old.log)) (Change pid (placed_entry m (place_of info))))
    pub same : g.tells → OnErr result (new.fault ≡ false → now effect_of_entry (g.state new.log) ≡ now effect_of_entry (g.state old.log))
    pub sized : g.tells → OnOk result (AllByRecursion IsSized (now effect_of_entry (g.state new.log)))

  -- the message is that of an update
  pub record Wrote (old new : StickyLog L) (pid : ℕ) (update : Update) (stamp : ℕ) (result : Result CacheInfo Refusal) : Type 0 where
    pub is : IsUpdate (message_of update) update
    pub writes : WritesMessage old new pid (message_of update) stamp result
