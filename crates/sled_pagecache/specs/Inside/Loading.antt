-- What the opening of a cache makes of the pages that its log recovers.
use Rattle.std.specs.Prelude.{◌≡◌, ◌+◌, ◌*◌, ◌<◌, ◌≤◌, ℕ, Bool, true, List, [], ◌∷◌, length, map, drop, slice_get, Option, None, Some, ⊤}
use Rattle.std.specs.List.{AllByRecursion, AllZip}
use Rattle.sled_base.specs.declared.types.Refusal.{Refusal}
use Rattle.sled_base.specs.declared.types.Refusal.TheVariants.{Io, Corruption, OutOfMemory}
use Rattle.sled_log.specs.Chains.{is_chain}
use Rattle.sled_log.specs.Contents as contents
use Rattle.sled_log.specs.Contents.{Content, Put}
use Rattle.sled_log.specs.Events.{Event, Change}
use Rattle.sled_log.specs.Messages.{Message, Chain, effect_of_entry}
use Rattle.sled_log.specs.Pages.{IsSized}
use Rattle.sled_log.specs.Reading.{message_of}
use Rattle.sled_pagecache.specs.Logged.{AllById, FitsId}
use Rattle.sled_pagecache.specs.Opening.{opened_state, first_id, IsFit, BeginsAmiss, has_own}
use Rattle.sled_pagecache.specs.Inside.PageEntry.{IsKept}
use Rattle.sled_pagecache.specs.State.{stamps_of}
use Rattle.sled_pagecache.specs.Inside.Invariant.{IsRoots, AreOwn}
use Rattle.sled_pagecache.specs.Limits.{most_messages, most_pages}
use Rattle.sled_pagecache.specs.declared.pagecache.handles.config.Config.{Config}
use Rattle.sled_pagecache.specs.declared.pagecache.table.page_entry.PageContent.{PageContent}
use Rattle.sled_pagecache.specs.declared.pagecache.table.page_entry.PageContent.TheVariants.{Free, OnLog, Counter}
use Rattle.sled_pagecache.specs.declared.pagecache.table.page_entry.Page.{Page}

-- a page that was recovered, with the places of its messages
pub record IsLoaded (chain : Chain) (page : Page) : Type 0 where
  pub kept : IsKept chain page
  pub stamp : page.stamp ≡ 0

-- no content was read yet
abbrev pub IsUnread : PageContent → Type 0
IsUnread Free = Unit {0}
IsUnread OnLog = Unit {0}
IsUnread other = ⊥

-- The named roots and the counter were read, if their pages are there, and no other content.
abbrev pub IsFoundAt : Option ℕ → ℕ → PageContent → Type 0
IsFoundAt counter = FitsId IsRoots (λ kept. (n : ℕ) × (kept ≡ Counter n) × (counter ≡ Some n)) IsUnread

abbrev pub AreFound : List Page → Option ℕ → Type 0
AreFound pages counter = AllById (λ pid page. IsFoundAt counter pid page.kept) pages × (length pages < 2 → counter ≡ None)

-- Pages and the chains of a log: each page corresponds to its chain, and together the pages have the property `Hold`.
pub record AreBeside (tells : Type 0) (chains : List Chain) (pages : List Page) (Is : Chain → Page → Type 0) (Hold : List Page → Type 0) : Type 0 where
  pub kept : tells → AllZip Is chains pages
  pub hold : Hold pages
  pub few : length pages ≤ most_pages
  pub chains_are : tells → AllByRecursion (λ chain. is_chain effect_of_entry chain ≡ true) chains
  pub sized : tells → AllByRecursion IsSized chains

-- the pages as they were recovered, before any content was read
abbrev pub AreRecovered : Type 0 → List Chain → List Page → Type 0
AreRecovered tells chains pages = AreBeside tells chains pages IsLoaded (AllByRecursion (λ page. IsUnread page.kept))

-- the pages after the content of the system pages was read
abbrev pub AreRead : Type 0 → List Chain → List Page → Option ℕ → Type 0
AreRead tells chains pages counter = AreBeside tells chains pages IsLoaded (λ read. AreFound read counter)

-- the table of a cache
abbrev pub IsTable : Type 0 → List Chain → List Page → Type 0
IsTable tells chains pages = AreBeside tells chains pages IsKept (λ kept. AreOwn kept × AllByRecursion (λ page. length page.infos.items ≤ most_messages) kept)

-- ---- why pages are refused

-- why the content of a system page wasn't read
abbrev pub RefusesOwn : ℕ → Chain → Refusal → Type 0
RefusesOwn pid chain OutOfMemory = ⊤
RefusesOwn pid chain (Io device) = ⊤
RefusesOwn pid chain (Corruption (Some pointer)) = (¬ IsFit pid chain) × (slice_get (map (λ entry. entry.place.pointer) chain) 0 ≡ Some pointer)
-- there is no other reason
RefusesOwn pid chain refusal = ⊥

-- why the pages of a log with these chains are refused
abbrev pub RefusesPages : List Chain → Refusal → Type 0
RefusesPages chains OutOfMemory = ⊤
RefusesPages chains (Io device) = ⊤
RefusesPages chains (Corruption None) = most_pages < length chains
RefusesPages chains (Corruption (Some pointer)) = (length chains ≤ most_pages) × BeginsAmiss chains pointer
-- there is no other reason
RefusesPages chains refusal = ⊥

-- ---- what is appended for the missing system pages

abbrev pub roots_event : Event Message
roots_event = Change 0 (message_of (Put (contents.Roots [])))

abbrev pub counter_event : Event Message
counter_event = Change 1 (message_of (Put (contents.Counter 0)))

module _ {X : Type 0} where
  -- given the pages, or the contents of pages, that are there
  abbrev pub events_of_roots : List X → List (Event Message)
  events_of_roots [] = roots_event ∷ []
  events_of_roots (page ∷ pages) = []

  abbrev pub events_at_start : List X → List (Event Message)
  events_at_start pages = drop (length pages) (roots_event ∷ counter_event ∷ [])

  -- the stamps of the pages after that
  abbrev pub stamps_at_start : List X → List ℕ
  stamps_at_start [] = 1 ∷ 1 ∷ []
  stamps_at_start (roots ∷ []) = 0 ∷ 1 ∷ []
  stamps_at_start (roots ∷ counter ∷ pages) = map (λ _. 0) (roots ∷ counter ∷ pages)

-- the first generated id, by the counter that was found
abbrev pub next_id : ℕ → Option ℕ → ℕ
next_id interval None = 0
next_id interval (Some n) = n + 2 * interval

-- What a cache over these contents is opened with: the stamps of its pages, its next id, and whether the system pages were there.
pub record IsOpenedWith (config : Config) (held : List Content) (stamps : List ℕ) (next : ℕ) (recovered : Bool) : Type 0 where
  pub stamps_are : stamps ≡ stamps_of (opened_state config held)
  pub next_is : next ≡ first_id config.idgen_persist_interval held
  pub recovered_is : recovered ≡ has_own held
