-- What a change of the map of named roots leaves where it wasn't written.
use Rattle.sled_pagecache.proofs.Names.{◌<◌, length, map, CacheInfo, PageContent, Page, ◌≡◌, Result, Ok, Err, OnErr, stamps_to}
use Rattle.std.proofs.Props.{props}

-- what an error leaves
pub on-err : {T E : Type 0} (P : Type 0) (result : Result T E) → P → OnErr result P
on-err P (Ok t) p = tt
on-err P (Err e) p = p

-- the page, where it keeps the same
pub same-page : (page : Page) (held : PageContent) (some : 0 < length page.infos.items) (stamped : map (λ (info : CacheInfo). info.ts) page.infos.items ≡ stamps_to page.stamp (length page.infos.items)) → held ≡ page.kept
    → record page { kept = held; some = some; stamped = stamped } ≡ page
same-page page held some stamped is = λ i. record page { kept = is i; some = one some page.some i; stamped = all stamped page.stamped i }
  where
    one : IsProp (0 < length page.infos.items)
    one = hlevel props

    all : IsProp (map (λ (info : CacheInfo). info.ts) page.infos.items ≡ stamps_to page.stamp (length page.infos.items))
    all = hlevel props
