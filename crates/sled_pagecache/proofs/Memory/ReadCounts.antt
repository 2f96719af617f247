-- How often a call that may bring a page into memory reads its log.
use Rattle.sled_pagecache.proofs.Names.{min, ◌≡◌, ◌≤◌, ◌+◌, ℕ, List, length, Result, Err, ◌∙◌, ap, arith, AllZip-long, AllZip, Bool, true, false, Refusal, is_resident, StickyLog, Counts, Chain, count_after, IsLoaded, Page, HasRead, own_among, OnErr}
use Rattle.sled_pagecache.proofs.Memory.ChainReads.{more-add}

-- ---- how many pages are the cache's own

pub own-is : (n : ℕ) → own_among n ≡ min n 2
own-is n = grind arith

-- ---- reads of one call after another

module _ {L : Type 0} (counts : L → Counts) where
  -- a call that is refused, behind one that has read so often, is handed on by one that might read more
  pub read-then : {T U E F : Type 0} (old mid new : L) (m n k : ℕ) (e : E) (f : F) → n + m ≤ k → (counts mid).reads ≡ count_after m (counts old).reads → (let result : Result T E = Err e in HasRead counts mid new n result)
      → (let result : Result U F = Err f in HasRead counts old new k result)
  read-then old mid new m n k e f le first second =
      record { whole = tt; part = (second.part.0 + m, omega (arith, second.part.1, le), second.part.2 ∙ ap (count_after second.part.0) first ∙ more-add second.part.0 m (counts old).reads) }

  -- the system pages were read, of as many pages as the log has chains
  pub read-loaded : (old mid new : L) (chains : List Chain) (pages : List Page) → AllZip IsLoaded chains pages → (counts mid).reads ≡ (counts old).reads
      → (counts new).reads ≡ count_after (own_among (length pages)) (counts mid).reads → (counts new).reads ≡ count_after (own_among (length chains)) (counts old).reads
  read-loaded old mid new chains pages loaded first second =
      second ∙ ap (count_after (own_among (length pages))) first ∙ ap (λ n. count_after (own_among n) (counts old).reads) (AllZip-long IsLoaded chains pages loaded)

-- a refusal that comes once a page was read, or lay in memory
pub read-all : {L T : Type 0} (counts : L → Counts) (before after : StickyLog L) (q : Page) (result : Result T Refusal) (resident : Bool) → is_resident q.kept ≡ resident
    → (is_resident q.kept ≡ true → after ≡ before) → (is_resident q.kept ≡ false → (counts after.log).reads ≡ count_after (length q.infos.items) (counts before.log).reads)
    → OnErr result ((times : ℕ) × (times ≤ length q.infos.items) × ((counts after.log).reads ≡ count_after times (counts before.log).reads))
read-all counts before after q result resident h1 h2 h3 = grind arith
