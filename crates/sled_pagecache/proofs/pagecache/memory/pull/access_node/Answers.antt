use Rattle.sled_pagecache.proofs.Names.{◌≡◌, ◌∙◌, List, ap, subst, on_ok_weaker, CacheInfo, WasAccessed, capped_size, size_in, access_size, arith}
use Rattle.sled_pagecache.proofs.Memory.ResidentPages.{held-accessed, held-listed}
use Rattle.sled_pagecache.proofs.Sizes.ChainSizes.{capped-total}
use Rattle.sled_pagecache.proofs.pagecache.memory.pull.access_node.Goals as goal

pub returns-in-Node : goal.returns-in-Node
returns-in-Node c =
    let page = c.args.page.now in
    let size : capped_size c.total_size.result ≡ access_size page = capped-total (size_in c.cache_infos.result.now) c.total_size.result c.total_size.ensures ∙ ap (λ (infos : List CacheInfo). capped_size (size_in infos)) c.cache_infos.ensures in
    let accessed = on_ok_weaker c.access.result (λ was. held-accessed c.args.pid page _ c.in-Node.is c.args.accesses.now c.access.new.self (subst (λ n. WasAccessed c.args.accesses.now c.args.pid n c.access.new.self) size was)) c.access.ensures.accessed in
    let listed = held-listed c.args.pid page _ c.in-Node.is c.args.accesses.now c.args.accesses.now in
    grind arith
