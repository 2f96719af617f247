-- What becomes of a page that is added to a cache.
use Rattle.std.specs.Prelude.{◌≡◌, ◌≢◌, ◌⊎◌, ℕ, List, [], ◌∷◌, ◌++◌, map}
use Rattle.sled_base.specs.declared.types.Refusal.{Refusal}
use Rattle.sled_base.specs.declared.types.Refusal.TheVariants.{Unsupported}
use Rattle.sled_base.specs.declared.types.Why.TheVariants.{PagesUsedUp}
use Rattle.sled_log.specs.Messages.{Chain}
use Rattle.sled_node.specs.Node.{WholeNode}
use Rattle.sled_pagecache.specs.Inside.StickyLog.{IsOfLog}
use Rattle.sled_pagecache.specs.Inside.PageEntry.{IsKept}
use Rattle.sled_pagecache.specs.Limits.{most_pages}
use Rattle.sled_pagecache.specs.declared.pagecache.table.page_entry.PageContent.TheVariants.{Node}
use Rattle.sled_pagecache.specs.declared.pagecache.table.page_entry.Page.{Page}

-- After the pages there is one more. It holds the node at stamp 1, and is as its chain makes it.
pub record HasOneMore (tells : Type 0) (before after : List Page) (chain : Chain) (node : WholeNode) : Type 0 where
  pub page : Page
  pub is : after ≡ before ++ page ∷ []
  pub stamp : page.stamp ≡ 1
  pub holds : page.kept ≡ Node node
  pub kept : tells → IsKept chain page
  pub stamps : map (λ info. info.ts) page.infos.items ≡ page.stamp ∷ []

-- why no page was added after this many: they are as many as are allowed, or the log refused it
abbrev pub RefusesPage : ℕ → Refusal → Type 0
RefusesPage pages refusal = ((pages ≡ most_pages) × (refusal ≡ Unsupported PagesUsedUp)) ⊎ ((pages ≢ most_pages) × IsOfLog refusal)
