use Rattle.sled_pagecache.proofs.Names.{◌≡◌, map, take, place_of}
use Rattle.sled_pagecache.proofs.pagecache.table.page_entry.places.Given as goal

abbrev pub invariant-loop-info : goal.invariant-loop-info
invariant-loop-info l = l.places.items ≡ map place_of (take l.info-index l.infos)
