-- What a link makes of a page, which is read first if it isn't in memory.
use Rattle.std.specs.Prelude.{◌≡◌, ◌≢◌, ◌⊎◌, ◌-◌, ◌^◌, ◌≤◌, ℕ, Bool, nat_lt, true, false, List, [], ◌∷◌, length, slice_set, Some, Result, Ok, Err, ⊤}
use Rattle.std.specs.List.{AllByRecursion}
use Rattle.sled_base.specs.declared.types.Bug.TheVariants.{LinkRefused}
use Rattle.sled_base.specs.declared.types.Device.TheVariants.{Write}
use Rattle.sled_base.specs.declared.types.Refusal.{Refusal}
use Rattle.sled_base.specs.declared.types.Refusal.TheVariants.{Unsupported, ReportableBug, Io, Corruption, OutOfMemory}
use Rattle.sled_base.specs.declared.types.Why.TheVariants.{StampUsedUp, LogFull}
use Rattle.sled_log.specs.Contents.{Update}
use Rattle.sled_log.specs.Contents as content
use Rattle.sled_log.specs.Events.{open_after, Event, Change}
use Rattle.sled_log.specs.Messages.{Message, Chain, messages_of, effect_of_entry}
use Rattle.sled_log.specs.Pages.{IsSized}
use Rattle.sled_log.specs.Reading.{IsUpdate, Makes, message_of}
use Rattle.sled_log.specs.LogState.{now}
use Rattle.sled_log.specs.declared.log.Log.{Ghosts}
use Rattle.sled_node.specs.Links.{Accepts, applied}
use Rattle.sled_node.specs.Node.{WholeNode}
use Rattle.sled_node.specs.declared.node.link.Link.{Link as NodeLink}
use Rattle.sled_pagecache.specs.Inside.PageEntry.{WasAccessed, IsTouched, IsKept, is_resident, access_size}
use Rattle.sled_pagecache.specs.Cache.{chain_at}
use Rattle.sled_pagecache.specs.Limits.{most_messages}
use Rattle.sled_pagecache.specs.Memory.{count_after}
use Rattle.sled_pagecache.specs.Inside.StickyLog.{Went, IsCaused, IsOfLog, begun_by}
use Rattle.sled_pagecache.specs.Table.{is_free}
use Rattle.sled_pagecache.specs.Damage.{IsWrongAt}
use Rattle.sled_pagecache.specs.Step.{link_update}
use Rattle.sled_pagecache.specs.Inside.PageWrites.{IsLinked, IsRaised, RefusesLink, update_of}
use Rattle.sled_pagecache.specs.Answers.{linked_length}
use Rattle.sled_pagecache.specs.Inside.Invariant.{IsFreeOrNode}
use Rattle.sled_pagecache.specs.declared.pagecache.memory.accesses.Accesses.{Accesses}
use Rattle.sled_pagecache.specs.declared.pagecache.write.sticky_log.StickyLog.{StickyLog}
use Rattle.sled_pagecache.specs.declared.pagecache.table.page_entry.PageContent.{PageContent}
use Rattle.sled_pagecache.specs.declared.pagecache.table.page_entry.PageContent.TheVariants as page_content
use Rattle.sled_pagecache.specs.declared.pagecache.table.page_entry.Page.{Page}
use Rattle.sled_pagecache.specs.declared.pagecache.write.writer.Writer.{Writer}

-- the content is a node that accepts the link
abbrev pub AcceptsAt : PageContent → NodeLink → Type 0
AcceptsAt (page_content.Node node) link = Accepts node link
AcceptsAt page_content.Free link = ⊥
AcceptsAt page_content.OnLog link = ⊥
AcceptsAt (page_content.Counter n) link = ⊥
AcceptsAt (page_content.Roots roots) link = ⊥

module _ {L : Type 0} (g : Ghosts L) (old : StickyLog L) (pid : ℕ) (page : Page) (link : NodeLink) (new : StickyLog L) (accesses then : Accesses) (page_then : Page) where
  -- what is written for it
  abbrev pub written_update : Update
  written_update = update_of (length page.infos.items) link page.kept

  -- The link was applied to the node, and then the link or the node was written. The page was accessed.
  pub record AppliesLink (joins : Bool) : Type 0 where
    pub joined : joins ≡ nat_lt (length page.infos.items) most_messages
    pub is : IsUpdate (message_of written_update) written_update
    pub went : Went g old new (Change pid (message_of written_update) ∷ [])
    pub fault : new.fault ≡ false
    pub reads : (g.counts new.log).reads ≡ (g.counts old.log).reads
    pub sized : g.tells → AllByRecursion IsSized (now effect_of_entry (g.state new.log))
    pub others : g.tells → now effect_of_entry (g.state new.log) ≡ slice_set (now effect_of_entry (g.state old.log)) pid (chain_at (g.state new.log) pid)
    pub kept : g.tells → IsKept (chain_at (g.state new.log) pid) page_then
    pub stamp : IsRaised page.stamp page_then.stamp
    pub linked : IsLinked page.kept link page_then.kept
    pub len : length page_then.infos.items ≡ linked_length (length page.infos.items)
    pub accessed : WasAccessed accesses pid (access_size page_then) then

  -- The link failed. The page stays, except that its node may have left memory. At most the page was accessed, and only an error of the log
  -- may have left it so.
  pub record RefusesToApply (refusal : Refusal) : Type 0 where
    pub is : refusal ≡ Io Write → IsUpdate (message_of written_update) written_update
    pub went : let told : Result (Unit {0}) Refusal = Err refusal in Went g old new (begun_by told (Change pid (message_of written_update) ∷ []))
    pub cause : let told : Result (Unit {0}) Refusal = Err refusal in IsCaused g old new (g.is_full old.log (length (message_of written_update).payload)) told
    pub reads : (g.counts new.log).reads ≡ (g.counts old.log).reads
    pub same : g.tells → new.fault ≡ false → now effect_of_entry (g.state new.log) ≡ now effect_of_entry (g.state old.log)
    pub still : g.tells → new.fault ≡ false → IsKept (chain_at (g.state new.log) pid) page_then
    pub refused : g.tells → RefusesLink page.stamp page.kept link refusal
    pub stamp : page_then.stamp ≡ page.stamp
    pub infos : page_then.infos.items ≡ page.infos.items
    pub free : is_free page_then.kept ≡ is_free page.kept
    pub own : IsFreeOrNode page.kept → IsFreeOrNode page_then.kept
    pub touched : IsTouched accesses pid then
    pub lost : (page_then.kept ≡ page.kept) ⊎ (page_then.kept ≡ page_content.OnLog)
    pub unasked : g.tells → IsOfLog refusal ⊎ ((page_then.kept ≡ page.kept) × (then ≡ accesses))

-- a link was applied to the node of a page in memory, or that failed; the result is whether the link joined the messages of its page
module _ {L : Type 0} (g : Ghosts L) (old : Writer L) (pid : ℕ) (page : Page) (link : NodeLink) (new : Writer L) (page_then : Page) where
  abbrev pub LinksPage : Result Bool Refusal → Type 0
  LinksPage (Ok joins) = AppliesLink g old.sticky_log pid page link new.sticky_log old.accesses new.accesses page_then joins
  LinksPage (Err refusal) = RefusesToApply g old.sticky_log pid page link new.sticky_log old.accesses new.accesses page_then refusal

-- why a link failed of which nothing was appended to the log
abbrev pub RefusesUnappended : Chain → ℕ → NodeLink → Refusal → Type 0
RefusesUnappended chain stamp link OutOfMemory = ⊤
RefusesUnappended chain stamp link (Io device) = ⊤
RefusesUnappended chain stamp link (Corruption (Some pointer)) = IsWrongAt chain pointer
RefusesUnappended chain stamp link (ReportableBug LinkRefused) = (node : WholeNode) × Makes (messages_of chain) (content.Node node) × (¬ Accepts node link)
RefusesUnappended chain stamp link (Unsupported StampUsedUp) = (node : WholeNode) × Makes (messages_of chain) (content.Node node) × Accepts node link × (stamp ≡ 2 ^ 64 - 1)
RefusesUnappended chain stamp link (Unsupported LogFull) = (node : WholeNode) × Makes (messages_of chain) (content.Node node) × Accepts node link × (stamp ≢ 2 ^ 64 - 1)
-- there is no other reason
RefusesUnappended chain stamp link refusal = ⊥

-- what is appended to the log if this node of a page takes the link
abbrev pub update_by : Page → NodeLink → WholeNode → Update
update_by page link node = link_update (length page.infos.items) link (applied link node)

module _ {L : Type 0} (g : Ghosts L) (old : StickyLog L) (pid : ℕ) (page : Page) (link : NodeLink) where
  -- The update was appended to the log, at most in part: the node accepts the link, and the stamp may increase.
  pub record AppendsLink (new : StickyLog L) : Type 0 where
    pub node : WholeNode
    pub made : g.tells → Makes (messages_of (chain_at (g.state old.log) pid)) (content.Node node)
    pub accepts : Accepts node link
    pub below : page.stamp ≢ 2 ^ 64 - 1
    pub is : IsUpdate (message_of (update_by page link node)) (update_by page link node)
    pub went : Went g old new (Change pid (message_of (update_by page link node)) ∷ [])

  -- The page holds the node that the link makes, at its next stamp.
  pub record TakesLink (new : StickyLog L) (page_then : Page) : Type 0 where
    pub tells : AppendsLink new
    pub raised : IsRaised page.stamp page_then.stamp
    pub holds : page_then.kept ≡ page_content.Node (applied link tells.node)
    pub kept : g.tells → IsKept (chain_at (g.state new.log) pid) page_then
    pub len : length page_then.infos.items ≡ linked_length (length page.infos.items)
    pub others : g.tells → now effect_of_entry (g.state new.log) ≡ slice_set (now effect_of_entry (g.state old.log)) pid (chain_at (g.state new.log) pid)
    pub sized : g.tells → AllByRecursion IsSized (now effect_of_entry (g.state new.log))

  -- Nothing was appended, or a write failed while the update was.
  abbrev pub RefusesAppended : StickyLog L → Refusal → Type 0
  RefusesAppended new refusal =
      (Went g old new [] × RefusesUnappended (chain_at (g.state old.log) pid) page.stamp link refusal)
      ⊎ ((refusal ≡ Io Write) × AppendsLink new)

  -- The log had no room for the update.
  pub record HadNoRoom : Type 0 where
    pub node : WholeNode
    pub made : g.tells → Makes (messages_of (chain_at (g.state old.log) pid)) (content.Node node)
    pub full : g.is_full old.log (length (message_of (update_by page link node)).payload)

-- something was begun, which leaves a batch open or closed as it was
pub record WasBegun {L : Type 0} (g : Ghosts L) (old new : StickyLog L) : Type 0 where
  pub came : List (Event Message)
  pub marks : (was : Bool) → open_after was came ≡ was
  pub went : Went g old new came

module _ {L : Type 0} (g : Ghosts L) (old : StickyLog L) (pid : ℕ) (page : Page) (link : NodeLink) (new : StickyLog L) (accesses then : Accesses) (page_then : Page) where
  -- The link succeeded: the page took it and was accessed. The page was read if its node wasn't in memory.
  pub record MakesLink (joins : Bool) : Type 0 where
    pub joined : joins ≡ nat_lt (length page.infos.items) most_messages
    pub taken : TakesLink g old pid page link new page_then
    pub fault : new.fault ≡ false
    pub unread : is_resident page.kept ≡ true → (g.counts new.log).reads ≡ (g.counts old.log).reads
    pub reads : is_resident page.kept ≡ false → (g.counts new.log).reads ≡ count_after (length page.infos.items) (g.counts old.log).reads
    pub accessed : WasAccessed accesses pid (access_size page_then) then

  -- The link failed. The page stays, except that its node may have left memory, and what was read isn't kept. At most the page was
  -- accessed, and only an error of the log may have left it so.
  pub record RefusesLinkOf (refusal : Refusal) : Type 0 where
    pub begun : WasBegun g old new
    pub refused : g.tells → RefusesAppended g old pid page link new refusal
    pub tested : g.tells → is_resident page.kept ≡ true → RefusesLink page.stamp page.kept link refusal
    pub cause : let told : Result (Unit {0}) Refusal = Err refusal in IsCaused g old new (g.tells → HadNoRoom g old pid page link) told
    pub stamp : page_then.stamp ≡ page.stamp
    pub infos : page_then.infos.items ≡ page.infos.items
    pub same : g.tells → new.fault ≡ false → now effect_of_entry (g.state new.log) ≡ now effect_of_entry (g.state old.log)
    pub still : g.tells → new.fault ≡ false → IsKept (chain_at (g.state old.log) pid) page_then
    pub free : is_free page_then.kept ≡ is_free page.kept
    pub own : IsFreeOrNode page.kept → IsFreeOrNode page_then.kept
    pub unread : is_resident page.kept ≡ true → (g.counts new.log).reads ≡ (g.counts old.log).reads
    pub kept_out : is_resident page.kept ≡ false → is_resident page_then.kept ≡ false
    pub at_most : (times : ℕ) × (times ≤ length page.infos.items) × ((g.counts new.log).reads ≡ count_after times (g.counts old.log).reads)
    pub touched : IsTouched accesses pid then
    pub lost : (page_then.kept ≡ page.kept) ⊎ (page_then.kept ≡ page_content.OnLog)
    pub unasked : g.tells → IsOfLog refusal ⊎ ((page_then.kept ≡ page.kept) × (then ≡ accesses))

-- a link was put on a page, or that failed; the result is whether it joined the messages of its page
module _ {L : Type 0} (g : Ghosts L) (old : Writer L) (pid : ℕ) (page : Page) (link : NodeLink) (new : Writer L) (page_then : Page) where
  abbrev pub PutsLink : Result Bool Refusal → Type 0
  PutsLink (Ok joins) = MakesLink g old.sticky_log pid page link new.sticky_log old.accesses new.accesses page_then joins
  PutsLink (Err refusal) = RefusesLinkOf g old.sticky_log pid page link new.sticky_log old.accesses new.accesses page_then refusal
