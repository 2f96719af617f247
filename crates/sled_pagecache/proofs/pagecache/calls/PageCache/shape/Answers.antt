use Rattle.sled_pagecache.proofs.Names.{refl}
use Rattle.sled_pagecache.proofs.Table.PageKinds.{shows}
use Rattle.sled_pagecache.proofs.pagecache.calls.PageCache.shape.Goals as goal

pub returns : goal.returns
returns g c = rw (← c.self.view_is) (shows g.L.Log _ c.self.inside.pages.pages _ refl refl refl c.self.invariant.whole.consistent.beside c.self.invariant.whole.consistent.own c.in_ok-pages.ensures refl refl)
