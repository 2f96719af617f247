use Rattle.sled_pagecache.proofs.Names.{◌≡◌, length, map, rules, stamps_to, CacheInfo}
use Rattle.sled_pagecache.proofs.Table.Stamps.{stamped-more}
use Rattle.sled_pagecache.proofs.pagecache.table.page_entry.keep_also.Goals as goal

pub invariant_of-page-clause-stamped : goal.invariant_of-page-clause-stamped
invariant_of-page-clause-stamped c =
    let page = c.args.page.now in
    let was : map (λ (info : CacheInfo). info.ts) page.infos.items ≡ stamps_to page.stamp (length page.infos.items) = search rules in
    stamped-more page.stamp page.infos.items c.push_reserved.new.self.items c.args.info was c.requires.stamped c.push_reserved.ensures
