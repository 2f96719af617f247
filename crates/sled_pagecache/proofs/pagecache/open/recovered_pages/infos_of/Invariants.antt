use Rattle.sled_pagecache.proofs.Names.{◌≡◌, ◌∷◌, map, take, info_at}
use Rattle.sled_pagecache.proofs.pagecache.open.recovered_pages.infos_of.Given as goal

abbrev pub invariant-loop-frag : goal.invariant-loop-frag
invariant-loop-frag l = l.infos.items ≡ info_at l.fn.base ∷ map info_at (take l.frag-index l.frags)
