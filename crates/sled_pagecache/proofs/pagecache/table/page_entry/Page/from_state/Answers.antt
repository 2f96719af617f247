use Rattle.sled_pagecache.proofs.Names.{◌∷◌, length, map, sym, ◌∙◌, ap, stamps_to, CacheInfo}
use Rattle.sled_pagecache.proofs.Table.Stamps.{stamps-none}
use Rattle.sled_pagecache.proofs.pagecache.table.page_entry.Page.from_state.Goals as goal

pub invariant_of-result-in-Present-clause-stamped : goal.invariant_of-result-in-Present-clause-stamped
invariant_of-result-in-Present-clause-stamped c =
    let places = c.in-Present.base ∷ c.deref.result.now in
    let is = c.in_ok-infos_of-in-Present.ensures in
    ap (map (λ (info : CacheInfo). info.ts)) is ∙ stamps-none places ∙ sym (ap (λ infos. stamps_to 0 (length infos)) is)
