-- Which pages of a cache are in memory, the list of their recent use, and how often a call reads the log.
use Rattle.std.specs.Prelude.{◌≡◌, ◌≢◌, ◌⊎◌, ◌≤◌, ◌+◌, ℕ, Bool, true, false, List, ◌∷◌, length, slice_get, Some, Result, ⊤, Contains, zero, suc, OnOk, OnErr}
use Rattle.sled_base.specs.declared.types.Error.{Error}
use Rattle.sled_base.specs.declared.types.Error.TheVariants.{Unsupported, Io, OutOfMemory}
use Rattle.sled_base.specs.declared.types.Why.TheVariants.{LogFull}
use Rattle.sled_log.specs.Calls.{one_more, Counts}
use Rattle.sled_log.specs.Messages.{Chain}
use Rattle.sled_log.specs.declared.log.Log.{Ghosts}
use Rattle.sled_pagecache.specs.Cache.{Cache, IsResident, chain_size, chain_length, IsAway}
use Rattle.sled_pagecache.specs.Limits.{most_messages}
use Rattle.sled_base.specs.Lru.{Recency, IsAccessed, IsListed, IsSound, rounded}

-- out of memory, a device that failed, or a full log
abbrev pub IsHindrance : Error → Type 0
IsHindrance OutOfMemory = ⊤
IsHindrance (Io device) = ⊤
IsHindrance (Unsupported LogFull) = ⊤
IsHindrance other = ⊥

-- the node of the page is in memory, and the messages of the page take this many bytes of the log
abbrev pub HasNode : {L : Type 0} → Cache L → ℕ → ℕ → Type 0
HasNode cache pid size = slice_get cache.nodes pid ≡ Some (Some size)

abbrev pub HasNoNode : {L : Type 0} → Cache L → ℕ → Type 0
HasNoNode cache pid = (size : ℕ) → ¬ HasNode cache pid size

-- each page whose node is in memory is listed with what its messages take, rounded
abbrev pub AreListed : {L : Type 0} → Cache L → Recency → Type 0
AreListed cache lru = (pid size : ℕ) → HasNode cache pid size → IsListed pid (rounded size) lru

-- That is what the messages of its chain take, if the device tells its bytes.
abbrev pub AreSized : {L : Type 0} → Ghosts L → Cache L → Type 0
AreSized g cache = g.tells → cache.fault ≡ false → (pid size : ℕ) → HasNode cache pid size → size ≡ chain_size g.state cache pid

-- Every node in memory is listed. In each shard of the list the sizes add up to at most its part of the capacity, or one page is
-- listed.
pub record IsBounded {L : Type 0} (g : Ghosts L) (cache : Cache L) : Type 0 where
  pub listed : AreListed cache cache.lru
  pub sized : AreSized g cache
  pub sound : IsSound cache.lru
  pub capacity : cache.lru.capacity ≡ cache.config.cache_capacity

-- every page that is listed is in memory
abbrev pub ListsResident : {L : Type 0} → Cache L → Type 0
ListsResident cache = (pid size : ℕ) → IsListed pid size cache.lru → IsResident cache pid

-- the page stays in memory or out of it
pub record StaysAt {L : Type 0} (old new : Cache L) (pid : ℕ) : Type 0 where
  pub resident : slice_get new.resident pid ≡ slice_get old.resident pid
  pub node : slice_get new.nodes pid ≡ slice_get old.nodes pid

-- all pages stay so, and nothing was accessed
pub record KeepsMemory {L : Type 0} (old new : Cache L) : Type 0 where
  pub stay : (pid : ℕ) → StaysAt old new pid
  pub lru : new.lru ≡ old.lru

module _ {L : Type 0} (old : Cache L) (pid : ℕ) (new : Cache L) where
  -- The page was accessed. The other pages stay as they were, except those that the list dropped for it.
  pub record AccessesPage : Type 0 where
    pub size : ℕ
    pub dropped : List ℕ
    pub accessed : IsAccessed pid (rounded size) old.lru new.lru dropped
    pub others : (other : ℕ) → other ≢ pid → ¬ Contains dropped other → StaysAt old new other

  -- nothing was accessed, and all other pages stay as they were
  pub record LeavesOthers : Type 0 where
    pub lru : new.lru ≡ old.lru
    pub others : (other : ℕ) → other ≢ pid → StaysAt old new other

  -- What an error leaves in memory: only a refused append evicts pages, namely its own and those that its access drops. Other errors leave
  -- everything as it was.
  pub record EvictsAtMost (tells : Type 0) (error : Error) : Type 0 where
    pub others : AccessesPage ⊎ LeavesOthers
    pub unasked : tells → IsHindrance error ⊎ KeepsMemory old new

-- the same for a page that has no node in memory
abbrev pub LeavesNodes : {L : Type 0} → Type 0 → Cache L → Cache L → Error → Type 0
LeavesNodes tells old new error = (pid : ℕ) × HasNoNode old pid × EvictsAtMost old pid new tells error

-- a count after that many more
abbrev pub count_after : ℕ → ℕ → ℕ
count_after zero count = count
count_after (suc times) count = one_more (count_after times count)

-- the log wasn't read
abbrev pub ReadsNothing : {L : Type 0} → Ghosts L → Cache L → Cache L → Type 0
ReadsNothing g old new = (g.counts new.log).reads ≡ (g.counts old.log).reads

module _ {L : Type 0} (g : Ghosts L) where
  -- The log was read once for each message that makes the page, which is at most ten times, if the page wasn't in memory and is now; fewer
  -- times if the call failed; and otherwise not at all.
  pub record ReadsPage (old : Cache L) (pid : ℕ) (new : Cache L) : Type 0 where
    pub in_memory : ¬ IsAway old pid → ReadsNothing g old new
    pub whole : g.tells → IsAway old pid → IsResident new pid → (g.counts new.log).reads ≡ count_after (chain_length g.state old pid) (g.counts old.log).reads
    pub times : ℕ
    pub most : times ≤ most_messages
    pub is : (g.counts new.log).reads ≡ count_after times (g.counts old.log).reads

-- how many of the first pages are the cache's own
abbrev pub own_among : ℕ → ℕ
own_among zero = 0
own_among (suc zero) = 1
own_among (suc (suc pages)) = 2

-- how many messages make the pages that aren't in memory
abbrev pub messages_away : List Chain → List Bool → ℕ
messages_away (chain ∷ chains) (false ∷ resident) = length chain + messages_away chains resident
messages_away (chain ∷ chains) (true ∷ resident) = messages_away chains resident
messages_away chains resident = 0

-- the log was read this often or, if the call failed, at most this often
pub record HasRead {L T E : Type 0} (counts : L → Counts) (old new : L) (n : ℕ) (result : Result T E) : Type 0 where
  pub whole : OnOk result ((counts new).reads ≡ count_after n (counts old).reads)
  pub part : OnErr result ((times : ℕ) × (times ≤ n) × ((counts new).reads ≡ count_after times (counts old).reads))
