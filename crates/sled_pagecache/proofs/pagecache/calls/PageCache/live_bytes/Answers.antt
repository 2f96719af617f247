use Rattle.sled_pagecache.proofs.Names.{◌≡◌, ◌^◌, ◌-◌, ◌∙◌, ap, false, min, subst, sym, Cache}
use Rattle.sled_pagecache.proofs.Sizes.LiveSizes.{all-live}
use Rattle.sled_pagecache.proofs.pagecache.calls.PageCache.live_bytes.Goals as goal

pub returns : goal.returns
returns g c = record {
  live = λ told ready.
      let clear = subst (λ (cache : Cache g.row.L.Denot). cache.fault ≡ false) (sym c.self.view_is) ready in
      rw (← c.self.view_is)
      (c.live_size.ensures ∙ ap (λ n. min n (2 ^ 64 - 1)) (all-live _ c.self.inside.pages.pages ((c.self.invariant.whole.consistent.beside clear).kept told)));
}
