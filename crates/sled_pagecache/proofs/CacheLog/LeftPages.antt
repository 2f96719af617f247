-- Calls of the log that append nothing leave the pages as they were.
use Rattle.sled_pagecache.proofs.Names.{◌≡◌, false, [], Ghosts, Cache, effect_of_entry}
use Rattle.sled_log.specs.LogState.{now}
use Rattle.sled_pagecache.specs.Calls.{IsSameOpening}
use Rattle.sled_pagecache.specs.Damage.{LeavesPages}
use Rattle.sled_pagecache.specs.Inside.PageIn.{sticky_log_of}
use Rattle.sled_pagecache.specs.Inside.StickyLog.{Went}

module _ {L : Type 0} (g : Ghosts L) (old new : Cache L) where
  pub leaves-went : IsSameOpening old new → new.stamps ≡ old.stamps → new.next ≡ old.next → Went g (sticky_log_of old) (sticky_log_of new) []
      → (g.tells → new.fault ≡ false → now effect_of_entry (g.state new.log) ≡ now effect_of_entry (g.state old.log)) → LeavesPages g old new
  leaves-went opening stamps next went same = assumption

  pub went-left : LeavesPages g old new → Went g (sticky_log_of old) (sticky_log_of new) []
  went-left left = assumption
