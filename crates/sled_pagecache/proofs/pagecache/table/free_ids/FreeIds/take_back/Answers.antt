use Rattle.sled_pagecache.proofs.Names.{ap, ◌∙◌, ℕ, List, is_at, nat_cmp, remove_key}
use Rattle.sled_pagecache.proofs.Table.FreeIds.{back}
use Rattle.sled_pagecache.proofs.pagecache.table.free_ids.FreeIds.take_back.Goals as goal

pub returns : goal.returns
returns c = λ before lacks is. c.remove.ensures.keys ∙ ap (λ (l : List ℕ). remove_key (is_at (nat_cmp c.args.pid)) l) is ∙ back c.args.pid before lacks
