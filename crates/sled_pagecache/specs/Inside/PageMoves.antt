-- How a page is moved: it is written to the log again as it is, in one message.
use Rattle.std.specs.Prelude.{◌≡◌, ◌==◌, ◌⊎◌, ◌≤◌, ◌||◌, ℕ, ℤ, Bool, true, false, List, [], ◌∷◌, length, map, slice_set, if◌then◌else◌, Result, Ok, Err}
use Rattle.std.specs.List.{AllByRecursion, list_any}
use Rattle.sled_base.specs.Pointers.{offset_of}
use Rattle.sled_base.specs.declared.types.Device.TheVariants.{Write}
use Rattle.sled_base.specs.declared.types.DiskPtr.{DiskPtr}
use Rattle.sled_base.specs.declared.types.DiskPtr.TheVariants.{Blob}
use Rattle.sled_base.specs.declared.types.Refusal.{Refusal}
use Rattle.sled_base.specs.declared.types.Refusal.TheVariants.{Io}
use Rattle.sled_log.specs.Contents.{Content, Put}
use Rattle.sled_log.specs.Events.{Change}
use Rattle.sled_log.specs.LogState.{now}
use Rattle.sled_log.specs.Messages.{Chain, Message, messages_of, effect_of_entry}
use Rattle.sled_log.specs.Pages.{IsSized}
use Rattle.sled_log.specs.Reading.{CountsAs, Holds}
use Rattle.sled_log.specs.declared.log.Log.{Ghosts}
use Rattle.sled_node.specs.Node.{WholeNode}
use Rattle.sled_pagecache.specs.Cache.{chain_at}
use Rattle.sled_pagecache.specs.Calls.{HasNoRoomAgain}
use Rattle.sled_pagecache.specs.Due.{is_one_blob, segment_of}
use Rattle.sled_pagecache.specs.Inside.Appends.{Appended, RefusesAppend}
use Rattle.sled_pagecache.specs.Inside.PageEntry.{IsKept, IsTouched, WasAccessed, access_size, is_resident}
use Rattle.sled_pagecache.specs.Inside.PageIn.{RefusesPull}
use Rattle.sled_pagecache.specs.Inside.PageWrites.{content_of}
use Rattle.sled_pagecache.specs.Inside.StickyLog.{IsCaused, IsOfLog, Went}
use Rattle.sled_pagecache.specs.Memory.{count_after}
use Rattle.sled_pagecache.specs.State.{is_free}
use Rattle.sled_pagecache.specs.Table as table
use Rattle.sled_pagecache.specs.declared.pagecache.handles.config.Config.{Config}
use Rattle.sled_pagecache.specs.declared.pagecache.memory.accesses.Accesses.{Accesses}
use Rattle.sled_pagecache.specs.declared.pagecache.table.page_entry.CacheInfo.{CacheInfo}
use Rattle.sled_pagecache.specs.declared.pagecache.table.page_entry.PageContent.TheVariants.{OnLog, Node}
use Rattle.sled_pagecache.specs.declared.pagecache.table.page_entry.Page.{Page}
use Rattle.sled_pagecache.specs.declared.pagecache.write.sticky_log.StickyLog.{StickyLog}
use Rattle.sled_pagecache.specs.declared.pagecache.write.writer.Writer.{Writer}

-- the pointers to the messages of a page, as the page stores them
abbrev pub pointers_in : List CacheInfo → List DiskPtr
pointers_in infos = map (λ info. info.pointer) infos

-- whether one of the messages is in the segment of that place
abbrev pub lie_in : Config → ℕ → List CacheInfo → Bool
lie_in config place infos = list_any (λ info. segment_of config (offset_of info.pointer) == segment_of config place) infos

-- the page isn't free, and its only message is stored as that blob
pub record IsBlobOf (page : Page) (blob : ℤ) : Type 0 where
  pub full : table.is_free page.kept ≡ false
  pub info : CacheInfo
  pub place : ℕ
  pub one : page.infos.items ≡ info ∷ []
  pub pointer : info.pointer ≡ Blob place blob

-- how often the log is read to move a page
abbrev pub reads_of : Page → ℕ
reads_of page = if is_resident page.kept || is_one_blob (pointers_in page.infos.items) then 0 else length page.infos.items

-- what is in memory of a page was written again, or that failed and the page stays
module _ {L : Type 0} (g : Ghosts L) (pid : ℕ) (old new : Writer L) (page page_then : Page) where
  abbrev pub PutsAgain : Result (Unit {0}) Refusal → Type 0
  PutsAgain (Ok done) = Appended g pid (Put (content_of page.kept)) old.sticky_log new.sticky_log old.accesses new.accesses page_then page.kept (page_then.stamp ≡ page.stamp)
  PutsAgain (Err refusal) = RefusesAppend g pid (Put (content_of page.kept)) old.sticky_log new.sticky_log old.accesses new.accesses IsOfLog (page_then ≡ page) refusal

-- why a page wasn't moved: the log refused it, or the page isn't in memory, isn't one blob, and couldn't be read
abbrev pub RefusesRewrite : Chain → Page → Refusal → Type 0
RefusesRewrite chain page refusal =
    IsOfLog refusal
    ⊎ ((is_resident page.kept ≡ false) × RefusesPull chain refusal)

-- the message counts as what the page holds
abbrev pub HoldsAgain : {L : Type 0} → Ghosts L → StickyLog L → ℕ → Page → Message → Type 0
HoldsAgain g old pid page message =
    g.tells → (content : Content) → is_free content ≡ table.is_free page.kept → Holds (messages_of (chain_at (g.state old.log) pid)) content → CountsAs message (Put content)

module _ {L : Type 0} (g : Ghosts L) (old : StickyLog L) (pid : ℕ) (page : Page) (new : StickyLog L) (accesses after : Accesses) (page_then : Page) where
  -- The page was written again in one message, and accessed. A page that was read holds a node.
  pub record MovesOne : Type 0 where
    pub message : Message
    pub again : HoldsAgain g old pid page message
    pub went : Went g old new (Change pid message ∷ [])
    pub fault : new.fault ≡ false
    pub reads : (g.counts new.log).reads ≡ count_after (reads_of page) (g.counts old.log).reads
    pub sized : g.tells → AllByRecursion IsSized (now effect_of_entry (g.state new.log))
    pub others : g.tells → now effect_of_entry (g.state new.log) ≡ slice_set (now effect_of_entry (g.state old.log)) pid (chain_at (g.state new.log) pid)
    pub kept : g.tells → IsKept (chain_at (g.state new.log) pid) page_then
    pub stamp : page_then.stamp ≡ page.stamp
    pub stamps : map (λ info. info.ts) page_then.infos.items ≡ page_then.stamp ∷ []
    pub holds : (page_then.kept ≡ page.kept) ⊎ ((page.kept ≡ OnLog) × (node : WholeNode) × (page_then.kept ≡ Node node))
    pub there : table.is_free page.kept ≡ false → is_one_blob (pointers_in page.infos.items) ≡ false → is_resident page_then.kept ≡ true
    pub stays : table.is_free page.kept ≡ false → is_one_blob (pointers_in page.infos.items) ≡ true → page_then.kept ≡ page.kept
    pub accessed : WasAccessed accesses pid (access_size page_then) after

  -- The move failed, and the page stays. At most it was accessed, and only an error of the log may have left it so; only a write error may
  -- have left a part of the message.
  pub record RefusesOne (refusal : Refusal) : Type 0 where
    pub begun : Went g old new [] ⊎ ((refusal ≡ Io Write) × (message : Message) × HoldsAgain g old pid page message × Went g old new (Change pid message ∷ []))
    pub cause : let told : Result (Unit {0}) Refusal = Err refusal in
        IsCaused g old new (g.tells → (content : Content) → is_free content ≡ table.is_free page.kept → Holds (messages_of (chain_at (g.state old.log) pid)) content → HasNoRoomAgain g old.log pid content) told
    pub refused : g.tells → RefusesRewrite (chain_at (g.state old.log) pid) page refusal
    pub same : g.tells → new.fault ≡ false → now effect_of_entry (g.state new.log) ≡ now effect_of_entry (g.state old.log)
    pub stamp : page_then.stamp ≡ page.stamp
    pub infos : page_then.infos.items ≡ page.infos.items
    pub stays : page_then.kept ≡ page.kept
    pub times : ℕ
    pub most : times ≤ reads_of page
    pub reads : (g.counts new.log).reads ≡ count_after times (g.counts old.log).reads
    pub touched : IsTouched accesses pid after
    pub unasked : g.tells → IsOfLog refusal ⊎ (after ≡ accesses)

-- a page was written again, or that failed
module _ {L : Type 0} (g : Ghosts L) (old : Writer L) (pid : ℕ) (page : Page) (new : Writer L) (page_then : Page) where
  abbrev pub MovesOrNot : Result (Unit {0}) Refusal → Type 0
  MovesOrNot (Ok done) = MovesOne g old.sticky_log pid page new.sticky_log old.accesses new.accesses page_then
  MovesOrNot (Err refusal) = RefusesOne g old.sticky_log pid page new.sticky_log old.accesses new.accesses page_then refusal
