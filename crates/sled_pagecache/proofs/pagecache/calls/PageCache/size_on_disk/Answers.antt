use Rattle.sled_base.specs.declared.types.Error.TheVariants.{Io}
use Rattle.sled_pagecache.proofs.Names.{Err, refl, Write, Sized, SizeOnDisk}
use Rattle.sled_pagecache.proofs.Steps.CacheSteps.{steps-stuck}
use Rattle.sled_pagecache.proofs.Steps.Flushes.{sizes}
use Rattle.sled_pagecache.proofs.pagecache.calls.PageCache.size_on_disk.Goals as goal

pub returns-clause-step : goal.returns-clause-step
returns-clause-step g c =
    rw (← c.self.view_is)
    (sizes g.L.Log _ _ _ _ c.self.inside.pages.pages c.self.inside.writer.sticky_log c.if-self.false _ (c.self.invariant.whole.consistent.beside c.if-self.false).usable (g.met.L.Log.only_now _))

pub returns-then-self-clause-step : goal.returns-then-self-clause-step
returns-then-self-clause-step g c = rw (← c.self.view_is) (steps-stuck g.L.Log _ SizeOnDisk (Sized (Err (Io Write))) c.if-self.true (λ s kept. rw kept (refl, refl)))
