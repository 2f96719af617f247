-- Borrowing the cache of the maps.
use Rattle.std.specs.Borrow.{Fml, RattleType, MutBor, Lends}
use Rattle.sled_log.specs.declared.log.Log.{Ghosts}
use Rattle.sled_pagecache.specs.Cache.{Cache}
use Rattle.sled_pagecache.specs.contracts.pagecache.calls.PageCache as cache
use Rattle.sled_tree.specs.contracts.trees.Trees as trees

module _ (L : RattleType) (g : Ghosts L.Denot) where
  -- after the borrow, the maps have the cache as the borrower left it
  abbrev pub LendsCache : MutBor (Cache L.Denot) → MutBor (Cache L.Denot) → Fml
  LendsCache maps lent = Lends (trees.the_row L g) (cache.the_row L g) maps lent (λ last. last)
