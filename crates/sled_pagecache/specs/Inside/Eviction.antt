-- What leaves memory after a call, in the table of pages.
use Rattle.std.specs.Prelude.{◌≡◌, ℕ, Bool, true, List, [], ◌∷◌, ◌++◌, Option, None, Some, Result, Ok, Err, MatchOption, slice_get, slice_set}
use Rattle.sled_base.specs.Errors.{error_of}
use Rattle.sled_base.specs.declared.types.Error.{Error}
use Rattle.sled_base.specs.declared.types.Refusal.{Refusal}
use Rattle.sled_pagecache.specs.State.{Token}
use Rattle.sled_pagecache.specs.Step.{Swapped}
use Rattle.sled_pagecache.specs.declared.pagecache.table.page_entry.PageContent.{PageContent}
use Rattle.sled_pagecache.specs.declared.pagecache.table.page_entry.PageContent.TheVariants.{Free, OnLog, Counter, Roots, Node}
use Rattle.sled_pagecache.specs.declared.pagecache.table.page_entry.Page.{Page}
use Rattle.sled_base.specs.Lru.{Recency}
use Rattle.sled_log.specs.declared.log.Log.{Ghosts}
use Rattle.sled_pagecache.specs.Cache.{Cache}
use Rattle.sled_pagecache.specs.Inside.Invariant.{IsWhole, stamps_in, resident_in, nodes_in}
use Rattle.sled_pagecache.specs.Memory.{IsBounded}
use Rattle.sled_pagecache.specs.declared.pagecache.memory.accesses.Accesses.{Accesses}
use Rattle.sled_pagecache.specs.declared.pagecache.handles.config.Config.{Config}
use Rattle.sled_pagecache.specs.declared.pagecache.write.sticky_log.StickyLog.{StickyLog}
use Rattle.sled_pagecache.specs.declared.pagecache.write.token_check.Rejection.{Rejection}
use Rattle.sled_pagecache.specs.declared.pagecache.write.token_check.Rejection.TheVariants.{Refused}

-- what a page holds after its node was dropped
abbrev pub content_behind_eviction : PageContent → PageContent
content_behind_eviction (Node node) = OnLog
content_behind_eviction Free = Free
content_behind_eviction OnLog = OnLog
content_behind_eviction (Counter n) = Counter n
content_behind_eviction (Roots roots) = Roots roots

-- the page is the same, except that its node was dropped
pub record IsPagedOut (old new : Page) : Type 0 where
  pub stamp : new.stamp ≡ old.stamp
  pub infos : new.infos.items ≡ old.infos.items
  pub kept : new.kept ≡ content_behind_eviction old.kept

-- the node of the page left memory, if there is one
abbrev pub IsOutAt : ℕ → List Page → List Page → Type 0
IsOutAt pid old new = MatchOption (slice_get old pid) (new ≡ old) (λ q. (page : Page) × IsPagedOut q page × (new ≡ slice_set old pid page))

-- the nodes of these pages left memory, one after another
abbrev pub AreOut : List ℕ → List Page → List Page → Type 0
AreOut [] old new = new ≡ old
AreOut (pid ∷ pids) old new = (mid : List Page) × IsOutAt pid old mid × AreOut pids mid new

abbrev pub lost_pages : Option ℕ → List ℕ
lost_pages None = []
lost_pages (Some pid) = pid ∷ []

-- what the list dropped, if a page was accessed, and the lost pages with it
abbrev pub left_pages : Option (List ℕ) → List ℕ → List ℕ
left_pages None lost = []
left_pages (Some dropped) lost = dropped ++ lost

-- These pages were evicted.
pub record Evicts (accesses : Accesses) (lost : Option ℕ) (old new : List Page) (then : Accesses) : Type 0 where
  pub none : then.dropped ≡ None
  pub lru : then.lru ≡ accesses.lru
  pub out : AreOut (left_pages accesses.dropped (lost_pages lost)) old new

-- the page of a change, if the change failed
abbrev pub lost_by : {T E : Type 0} → ℕ → Result T E → Option ℕ
lost_by pid (Ok done) = None
lost_by pid (Err refusal) = Some pid

-- what a swap returns after its write: the token that the page has now, or why it failed
abbrev pub answer_behind : {R : Type 0} → Token → Result (Unit {0}) Refusal → Swapped R
answer_behind token (Ok done) = Ok (Ok token)
answer_behind token (Err refusal) = Err (error_of refusal)

-- what a link returns: the token, and whether it joined the messages of its page
abbrev pub link_behind : Token → Result Bool Refusal → Result (Token × Bool) Rejection
link_behind token (Ok joins) = Ok (token, joins)
link_behind token (Err refusal) = Err (Refused refusal)

-- what an allocation returns
abbrev pub allocation_behind : Token → Result (Unit {0}) Refusal → Result (ℕ × Token) Error
allocation_behind token (Ok done) = Ok (token.pid, token)
allocation_behind token (Err refusal) = Err (error_of refusal)

-- what a move returns
abbrev pub move_behind : Result (Unit {0}) Refusal → Result Bool Error
move_behind (Ok done) = Ok true
move_behind (Err refusal) = Err (error_of refusal)

-- a cache over a log and a table
abbrev pub cache_of : {L : Type 0} → ℕ → Config → Bool → Recency → StickyLog L → List Page → Cache L
cache_of next config recovered lru sticky_log pages =
    record { stamps = stamps_in pages; resident = resident_in pages; nodes = nodes_in pages; next = next; batch = sticky_log.batch; fault = sticky_log.fault; config = config; recovered = recovered; lru = lru; log = sticky_log.log }

-- What always holds of a cache. Between two calls nothing is left to be evicted.
pub record IsSettled {L : Type 0} (g : Ghosts L) (next : ℕ) (config : Config) (recovered : Bool) (sticky_log : StickyLog L) (pages : List Page) (free_pids : List ℕ) (accesses : Accesses) : Type 0 where
  pub whole : IsWhole g.tells g.state config.idgen_persist_interval next sticky_log pages free_pids
  pub none : accesses.dropped ≡ None
  pub bounded : IsBounded g (cache_of next config recovered accesses.lru sticky_log pages)
