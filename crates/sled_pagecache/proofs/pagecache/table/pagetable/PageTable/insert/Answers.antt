use Rattle.sled_pagecache.proofs.Names.{rules}
use Rattle.sled_pagecache.proofs.pagecache.table.pagetable.PageTable.insert.Goals as goal

-- A wrong body is refused at this answer, so that no offers are printed.
pub returns-clause-ok : goal.returns-clause-ok
returns-clause-ok c = search rules
