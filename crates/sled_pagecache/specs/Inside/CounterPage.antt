-- The page of the counter of generated ids, in the table of pages.
use Rattle.std.specs.Prelude.{◌≡◌, ℕ, List, Some, slice_get}
use Rattle.sled_pagecache.specs.Limits.{counter_pid}
use Rattle.sled_pagecache.specs.State.{Token, token}
use Rattle.sled_pagecache.specs.declared.pagecache.table.page_entry.PageContent.TheVariants.{Counter}
use Rattle.sled_pagecache.specs.declared.pagecache.table.page_entry.Page.{Page}

-- the counter is on its page
abbrev pub KeepsCounter : List Page → Type 0
KeepsCounter pages = (page : Page) × (n : ℕ) × (slice_get pages counter_pid ≡ Some page) × (page.kept ≡ Counter n)

-- the page's token, and the counter
pub record IsCounterIn (pages : List Page) (found : Token × ℕ) : Type 0 where
  pub page : Page
  pub at : slice_get pages counter_pid ≡ Some page
  pub counter : page.kept ≡ Counter found.1
  pub token : found.0 ≡ token counter_pid page.stamp
