-- A cache that isn't served stays as it is: calls with nothing between them are a row of a cache that may be served.
use Rattle.std.proofs.Common.{List, [], ◌∷◌, refl, sym, subst, arith}
use Rattle.sled_log.specs.declared.log.Log.{Ghosts}
use Rattle.sled_disk.specs.Served.{StaysALog}
use Rattle.sled_pagecache.specs.Cache.{Cache}
use Rattle.sled_pagecache.specs.Openings.{AreMadeServed}
use Rattle.sled_pagecache.specs.Rows.{AreMade}
use Rattle.sled_pagecache.specs.Served.{IsServed}
use Rattle.sled_pagecache.specs.declared.pagecache.handles.call.Answer.{Answer}
use Rattle.sled_pagecache.specs.declared.pagecache.handles.call.Call.{Call}

module _ {L : Type 0} (g : Ghosts L) where
  pub log-stays : (log : L) → StaysALog g log log
  log-stays log = record { usable = refl; opened = refl; counts = refl; state = λ told. refl; later = λ told. omega arith; nothing_else = λ told t pages early was. was; kept = λ told t pages early was. was }

  pub unserved : (cache : Cache L) → IsServed g cache cache
  unserved cache = record { same = refl; stays = log-stays cache.log }

  pub made-unserved : (old new : Cache L) (calls : List (Call × Answer)) → AreMade g old calls new → AreMadeServed g old calls new
  made-unserved old new [] same = subst (λ (cache : Cache L). IsServed g old cache) (sym same) (unserved old)
  made-unserved old new (made ∷ calls) (mid, here, others) = (old, mid, unserved old, here, made-unserved mid new calls others)
