-- How a page in memory is listed, and that it was accessed.
use Rattle.std.specs.Prelude.{◌≡◌, ℕ, IfSome, MatchOption, ◌⊎◌}
use Rattle.sled_base.specs.Lru.{Recency, IsListed, rounded}
use Rattle.sled_pagecache.specs.Inside.PageEntry.{WasAccessed, node_access_size}
use Rattle.sled_pagecache.specs.declared.pagecache.memory.accesses.Accesses.{Accesses}
use Rattle.sled_pagecache.specs.declared.pagecache.table.page_entry.Page.{Page}
use Rattle.sled_pagecache.specs.Cache.{Cache}
use Rattle.sled_pagecache.specs.Memory.{AccessesPage, HasNoNode, HasNode, KeepsMemory}

-- the page is listed with its size, if it holds a node
abbrev pub IsListedAt : ℕ → Page → Recency → Type 0
IsListedAt pid page lru = IfSome (node_access_size page) (λ size. IsListed pid (rounded size) lru)

-- the page was accessed with its size, if it holds a node
abbrev pub AccessesNode : Accesses → ℕ → Page → Accesses → Type 0
AccessesNode old pid page new = MatchOption (node_access_size page) (new ≡ old) (λ size. WasAccessed old pid size new)

module _ {L : Type 0} (old : Cache L) (pid : ℕ) (new : Cache L) where
  -- the page was accessed and its node is in memory, or there is none and nothing changes
  abbrev pub FindsPage : Type 0
  FindsPage = (AccessesPage old pid new × ((size : ℕ) × HasNode new pid size)) ⊎ (KeepsMemory old new × HasNoNode new pid)
