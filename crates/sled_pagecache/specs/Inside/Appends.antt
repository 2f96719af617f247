-- What a call promises that appends an update of one page to the log: if the append succeeds, and if it fails.
use Rattle.std.specs.Prelude.{◌≡◌, ◌≢◌, ◌⊎◌, ◌++◌, ℕ, false, List, [], ◌∷◌, length, map, slice_get, slice_set, IfSome, Result, Ok, Err}
use Rattle.std.specs.List.{AllByRecursion}
use Rattle.sled_base.specs.declared.types.Refusal.{Refusal}
use Rattle.sled_log.specs.Contents.{Update, Put, Node}
use Rattle.sled_log.specs.Events.{Change}
use Rattle.sled_log.specs.LogState.{now}
use Rattle.sled_log.specs.Messages.{effect_of_entry}
use Rattle.sled_log.specs.Pages.{IsSized}
use Rattle.sled_log.specs.Reading.{IsUpdate, message_of}
use Rattle.sled_log.specs.declared.log.Log.{Ghosts}
use Rattle.sled_node.specs.Node.{WholeNode}
use Rattle.sled_pagecache.specs.Inside.PageEntry.{WasAccessed, IsTouched, IsKept, access_size}
use Rattle.sled_pagecache.specs.Inside.NewPages.{HasOneMore, RefusesPage}
use Rattle.sled_pagecache.specs.Cache.{chain_at}
use Rattle.sled_pagecache.specs.Limits.{most_pages}
use Rattle.sled_pagecache.specs.Inside.StickyLog.{Went, IsCaused, IsOfLog, begun_by}
use Rattle.sled_pagecache.specs.Inside.PageWrites.{IsRaised, RefusesSwap, content_of}
use Rattle.sled_pagecache.specs.declared.pagecache.memory.accesses.Accesses.{Accesses}
use Rattle.sled_pagecache.specs.declared.pagecache.table.page_entry.PageContent.{PageContent}
use Rattle.sled_pagecache.specs.declared.pagecache.table.page_entry.Page.{Page}
use Rattle.sled_pagecache.specs.declared.pagecache.write.sticky_log.StickyLog.{StickyLog}
use Rattle.sled_pagecache.specs.declared.pagecache.write.writer.Writer.{Writer}

-- what a change of a page is written with
abbrev pub writer : {L : Type 0} → StickyLog L → Accesses → Writer L
writer sticky_log accesses = record { sticky_log = sticky_log; accesses = accesses }

module _ {L : Type 0} (g : Ghosts L) (pid : ℕ) (update : Update) (old new : StickyLog L) (accesses then : Accesses) where
  -- The update was appended. The page was accessed, is at such a stamp, and is made by this message only; the other pages stay.
  pub record Appended (page_then : Page) (held : PageContent) (stamped : Type 0) : Type 0 where
    pub is : IsUpdate (message_of update) update
    pub went : Went g old new (Change pid (message_of update) ∷ [])
    pub fault : new.fault ≡ false
    pub reads : (g.counts new.log).reads ≡ (g.counts old.log).reads
    pub sized : g.tells → AllByRecursion IsSized (now effect_of_entry (g.state new.log))
    pub others : g.tells → now effect_of_entry (g.state new.log) ≡ slice_set (now effect_of_entry (g.state old.log)) pid (chain_at (g.state new.log) pid)
    pub kept : g.tells → IsKept (chain_at (g.state new.log) pid) page_then
    pub stamp : stamped
    pub holds : page_then.kept ≡ held
    pub stamps : map (λ info. info.ts) page_then.infos.items ≡ page_then.stamp ∷ []
    pub accessed : WasAccessed accesses pid (access_size page_then) then

  -- at its next stamp
  abbrev pub MakesAppend : Page → Page → PageContent → Type 0
  MakesAppend page page_then held = Appended page_then held (IsRaised page.stamp page_then.stamp)

  -- The append failed for such a reason, and what the caller keeps stays. At most the page was accessed, and only an error of the log may
  -- have left it so; only a write error may have left a part of the update.
  pub record RefusesAppend (why : Refusal → Type 0) (stays : Type 0) (refusal : Refusal) : Type 0 where
    pub is : IsUpdate (message_of update) update
    pub went : let told : Result (Unit {0}) Refusal = Err refusal in Went g old new (begun_by told (Change pid (message_of update) ∷ []))
    pub cause : let told : Result (Unit {0}) Refusal = Err refusal in IsCaused g old new (g.is_full old.log (length (message_of update).payload)) told
    pub reads : (g.counts new.log).reads ≡ (g.counts old.log).reads
    pub same : g.tells → new.fault ≡ false → now effect_of_entry (g.state new.log) ≡ now effect_of_entry (g.state old.log)
    pub refused : g.tells → why refusal
    pub left : stays
    pub touched : IsTouched accesses pid then
    pub unasked : g.tells → IsOfLog refusal ⊎ (then ≡ accesses)

-- the content of a page was replaced, or that failed and the page stays
module _ {L : Type 0} (g : Ghosts L) (pid : ℕ) (kept : PageContent) (old new : Writer L) (page page_then : Page) where
  abbrev pub Puts : Result (Unit {0}) Refusal → Type 0
  Puts (Ok done) = MakesAppend g pid (Put (content_of kept)) old.sticky_log new.sticky_log old.accesses new.accesses page page_then kept
  Puts (Err refusal) = RefusesAppend g pid (Put (content_of kept)) old.sticky_log new.sticky_log old.accesses new.accesses (RefusesSwap page.stamp) (page_then ≡ page) refusal

module _ {L : Type 0} (g : Ghosts L) (node : WholeNode) (old new : StickyLog L) (accesses then : Accesses) (pages pages_then : List Page) where
  -- The node was appended. The new page was accessed, and was added after the others, which stay.
  pub record MakesNewPage : Type 0 where
    pub is : IsUpdate (message_of (Put (Node node))) (Put (Node node))
    pub went : Went g old new (Change (length pages) (message_of (Put (Node node))) ∷ [])
    pub fault : new.fault ≡ false
    pub reads : (g.counts new.log).reads ≡ (g.counts old.log).reads
    pub sized : g.tells → AllByRecursion IsSized (now effect_of_entry (g.state new.log))
    pub others : g.tells → now effect_of_entry (g.state new.log) ≡ now effect_of_entry (g.state old.log) ++ chain_at (g.state new.log) (length pages) ∷ []
    pub page : HasOneMore g.tells pages pages_then (chain_at (g.state new.log) (length pages)) node
    pub room : length pages ≢ most_pages
    pub accessed : IfSome (slice_get pages_then (length pages)) (λ page. WasAccessed accesses (length pages) (access_size page) then)

-- a node was put on a new page, or that failed and the pages stay
module _ {L : Type 0} (g : Ghosts L) (node : WholeNode) (old new : Writer L) (pages pages_then : List Page) where
  abbrev pub PutsOnNewPage : Result (Unit {0}) Refusal → Type 0
  PutsOnNewPage (Ok done) = MakesNewPage g node old.sticky_log new.sticky_log old.accesses new.accesses pages pages_then
  PutsOnNewPage (Err refusal) = RefusesAppend g (length pages) (Put (Node node)) old.sticky_log new.sticky_log old.accesses new.accesses (RefusesPage (length pages)) (pages_then ≡ pages) refusal
