-- How the cache stores a page, and how that corresponds to the page's chain in the log.
use Rattle.std.specs.Prelude.{◌≡◌, ◌⊎◌, ◌^◌, ℕ, min, IsSomeAnd, ◌+◌, Bool, true, false, List, [], ◌∷◌, map, Option, Some, None, if◌then◌else◌}
use Rattle.sled_base.specs.Lru.{IsAccessed, IsSound, rounded}
use Rattle.sled_pagecache.specs.declared.pagecache.memory.accesses.Accesses.{Accesses}
use Rattle.std.specs.List.{sum_by}
use Rattle.sled_log.specs.Chains.{is_empty}
use Rattle.sled_log.specs.Contents as content
use Rattle.sled_log.specs.Messages.{Chain, messages_of, effect_of_entry}
use Rattle.sled_log.specs.Pages.{said_of, freed_of}
use Rattle.sled_log.specs.Reading.{Makes}
use Rattle.sled_pagecache.specs.Infos.{place_of, place_of_freeing}
use Rattle.sled_pagecache.specs.declared.pagecache.table.page_entry.CacheInfo.{CacheInfo}
use Rattle.sled_pagecache.specs.declared.pagecache.table.page_entry.PageContent.{PageContent}
use Rattle.sled_pagecache.specs.declared.pagecache.table.page_entry.PageContent.TheVariants.{Free, OnLog, Counter, Roots, Node}
use Rattle.sled_pagecache.specs.declared.pagecache.table.page_entry.Page.{Page}
use Rattle.sled_pagecache.specs.Table.{is_free}

-- the greatest size that a page is accessed with
abbrev pub capped_size : ℕ → ℕ
capped_size size = min size (2 ^ 63)

-- The page was accessed with this size, and what the list dropped for it is known.
pub record WasAccessed (old : Accesses) (pid size : ℕ) (new : Accesses) : Type 0 where
  pub is : IsSomeAnd new.dropped (λ dropped. IsAccessed pid (rounded size) old.lru new.lru dropped)
  pub sound : IsSound new.lru

-- nothing was accessed, or the page was, with some size
abbrev pub IsTouched : Accesses → ℕ → Accesses → Type 0
IsTouched old pid new = (new ≡ old) ⊎ ((size : ℕ) × WasAccessed old pid size new)

-- What is in memory is what the chain makes. A page is stored as free exactly if the chain leaves it free.
abbrev pub HoldsChain : Chain → PageContent → Type 0
HoldsChain chain Free = is_empty effect_of_entry chain ≡ true
HoldsChain chain OnLog = is_empty effect_of_entry chain ≡ false
HoldsChain chain (Counter n) = Makes (messages_of chain) (content.Counter n)
HoldsChain chain (Roots roots) = Makes (messages_of chain) (content.Roots roots)
HoldsChain chain (Node node) = Makes (messages_of chain) (content.Node node)

-- whether the content is in memory
abbrev pub is_resident : PageContent → Bool
is_resident Free = true
is_resident OnLog = false
is_resident (Counter n) = true
is_resident (Roots roots) = true
is_resident (Node node) = true

-- how many bytes of the log messages take together
abbrev pub size_in : List CacheInfo → ℕ
size_in infos = sum_by (λ info. info.log_size) infos

-- how much the messages of a page take: the size that the page is accessed with
abbrev pub access_size : Page → ℕ
access_size page = capped_size (size_in page.infos.items)

-- the same, if the page holds a node
abbrev pub size_if : ℕ → PageContent → Option ℕ
size_if size (Node node) = Some size
size_if size Free = None
size_if size OnLog = None
size_if size (Counter n) = None
size_if size (Roots roots) = None

abbrev pub node_access_size : Page → Option ℕ
node_access_size page = size_if (access_size page) page.kept

-- The page is as its chain makes it, with the places of its messages. How much the message of a free page takes isn't known.
pub record IsKept (chain : Chain) (page : Page) : Type 0 where
  pub places : is_free page.kept ≡ false → map said_of chain ≡ map place_of page.infos.items
  pub at : map freed_of chain ≡ map place_of_freeing page.infos.items
  pub holds : HoldsChain chain page.kept

-- the ids of the free pages, the least first, among these pages, of which the first has this id
abbrev pub free_ids : ℕ → List Page → List ℕ
free_ids pid [] = []
free_ids pid (page ∷ pages) = if is_free page.kept then pid ∷ free_ids (pid + 1) pages else free_ids (pid + 1) pages

-- the two have the same stamp, the same chain and the same content
pub record IsSame (page other : Page) : Type 0 where
  pub stamp : other.stamp ≡ page.stamp
  pub infos : other.infos.items ≡ page.infos.items
  pub kept : other.kept ≡ page.kept
