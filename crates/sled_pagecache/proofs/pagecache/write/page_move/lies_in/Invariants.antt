use Rattle.std.specs.List.{list_any}
use Rattle.sled_base.specs.Pointers.{offset_of}
use Rattle.sled_pagecache.proofs.Names.{◌≡◌, ◌==◌, false, segment_of, take, CacheInfo}
use Rattle.sled_pagecache.proofs.pagecache.write.page_move.lies_in.Given as goal

-- none of those so far lies there
abbrev pub invariant-loop-info : goal.invariant-loop-info
invariant-loop-info l = list_any (λ (info : CacheInfo). segment_of l.config (offset_of info.pointer) == l.segment) (take l.info-index l.infos) ≡ false
