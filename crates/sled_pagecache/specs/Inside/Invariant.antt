-- What always holds of a page cache: of its table of pages and of what its log holds.
use Rattle.std.specs.Prelude.{◌≡◌, ◌≤◌, ◌⊎◌, ℕ, Bool, false, true, List, [], length, map, Option, ◌≢◌, ◌<◌, Some, slice_get, slice_index_or, ⊤}
use Rattle.std.specs.List.{AllByRecursion, AllZip}
use Rattle.sled_log.specs.Events.{is_open, Event, Change, Pin, Seal, Cancel}
use Rattle.sled_log.specs.Chains.{is_chain}
use Rattle.sled_log.specs.Contents as content
use Rattle.sled_log.specs.Contents.{Put}
use Rattle.sled_log.specs.Messages.{Entry, Message, effect_of_entry}
use Rattle.sled_log.specs.Reading.{IsUpdate, Makes}
use Rattle.sled_log.specs.Pages.{IsSized}
use Rattle.sled_log.specs.LogState as log
use Rattle.sled_pagecache.specs.Logged.{AllById, FitsId}
use Rattle.sled_pagecache.specs.Inside.PageEntry.{IsKept, is_resident, free_ids, node_access_size}
use Rattle.sled_pagecache.specs.Limits.{most_messages, most_pages, counter_pid}
use Rattle.sled_pagecache.specs.declared.pagecache.write.sticky_log.StickyLog.{StickyLog}
use Rattle.sled_pagecache.specs.declared.pagecache.table.page_entry.PageContent.{PageContent}
use Rattle.sled_pagecache.specs.declared.pagecache.table.page_entry.PageContent.TheVariants.{Free, OnLog, Counter, Roots, Node}
use Rattle.sled_pagecache.specs.declared.pagecache.table.page_entry.Page.{Page}
use Rattle.sled_pagecache.specs.Step.{interval_start}

abbrev pub stamps_in : List Page → List ℕ
stamps_in pages = map (λ page. page.stamp) pages

abbrev pub resident_in : List Page → List Bool
resident_in pages = map (λ page. is_resident page.kept) pages

abbrev pub nodes_in : List Page → List (Option ℕ)
nodes_in pages = map (λ page. node_access_size page) pages

abbrev pub IsRoots : PageContent → Type 0
IsRoots (Roots roots) = Unit {0}
IsRoots other = ⊥

abbrev pub IsCounter : PageContent → Type 0
IsCounter (Counter n) = Unit {0}
IsCounter other = ⊥

abbrev pub IsFreeOrNode : PageContent → Type 0
IsFreeOrNode Free = Unit {0}
IsFreeOrNode OnLog = Unit {0}
IsFreeOrNode (Node node) = Unit {0}
IsFreeOrNode other = ⊥

-- the named roots are on page 0 and the counter on page 1, in memory, if these pages are there; no other page holds such content
abbrev pub IsOwnAt : ℕ → PageContent → Type 0
IsOwnAt = FitsId IsRoots IsCounter IsFreeOrNode

abbrev pub AreOwn : List Page → Type 0
AreOwn pages = AllById (λ pid page. IsOwnAt pid page.kept) pages

module _ {L : Type 0} (tells : Type 0) (state : L → log.LogState Entry) where
  -- What holds of the log and the table. If the device tells its bytes, the pages are as their chains make them.
  pub record IsBeside (l : L) (pages : List Page) : Type 0 where
    pub usable : (state l).usable ≡ true
    pub kept : tells → AllZip IsKept (log.now effect_of_entry (state l)) pages
    pub chains : tells → AllByRecursion (λ chain. is_chain effect_of_entry chain ≡ true) (log.now effect_of_entry (state l))
    pub sized : tells → AllByRecursion IsSized (log.now effect_of_entry (state l))

  -- After a write error nothing is known of the log.
  pub record IsConsistent (sticky_log : StickyLog L) (pages : List Page) (free_pids : List ℕ) : Type 0 where
    pub beside : sticky_log.fault ≡ false → IsBeside sticky_log.log pages
    pub opened : sticky_log.fault ≡ false → is_open (state sticky_log.log).pending ≡ sticky_log.batch
    pub own : AreOwn pages
    pub both : 2 ≤ length pages
    pub short : AllByRecursion (λ page. length page.infos.items ≤ most_messages) pages
    pub few : length pages ≤ most_pages
    pub free : free_pids ≡ free_ids 0 pages

-- a mark, a change of another page than the counter's, or one that puts the same counter again
abbrev pub SparesCounter : {E : Type 0} → (E → Type 0) → Event E → Type 0
SparesCounter Again (Change id said) = (id ≢ counter_pid) ⊎ Again said
SparesCounter Again Pin = ⊤
SparesCounter Again Seal = ⊤
SparesCounter Again Cancel = ⊤

-- the message puts this counter
abbrev pub CountsAgain : ℕ → Message → Type 0
CountsAgain n message = IsUpdate message (Put (content.Counter n))

-- The log holds this counter durably, and what is pending doesn't change it.
pub record StaysCounted (n : ℕ) (held : log.LogState Message) : Type 0 where
  pub durable : Makes (slice_index_or held.stable counter_pid []) (content.Counter n)
  pub pending : AllByRecursion (SparesCounter (CountsAgain n)) held.pending

module _ {L : Type 0} (tells : Type 0) (state : L → log.LogState Entry) (interval next : ℕ) (sticky_log : StickyLog L) (pages : List Page) where
  -- If the next id needs no new counter, the counter is durable.
  abbrev pub IsCounted : Type 0
  IsCounted =
      0 < interval
      → sticky_log.fault ≡ false
      → tells
      → (page : Page) (n : ℕ)
      → slice_get pages counter_pid ≡ Some page
      → page.kept ≡ Counter n
      → interval_start interval next ≤ interval_start interval n
      → StaysCounted n (log.unplaced_state (state sticky_log.log))

  -- what always holds of a cache
  pub record IsWhole (free_pids : List ℕ) : Type 0 where
    pub consistent : IsConsistent tells state sticky_log pages free_pids
    pub positive : 0 < interval
    pub counted : IsCounted
