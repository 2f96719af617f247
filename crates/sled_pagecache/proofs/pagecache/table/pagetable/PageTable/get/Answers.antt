use Rattle.sled_pagecache.proofs.Names.{Some, length, ap, arith}
use Rattle.sled_pagecache.proofs.Table.PageChunks.{got-is}
use Rattle.sled_pagecache.proofs.Table.PageTables.{none-at, page-in}
use Rattle.sled_pagecache.proofs.pagecache.table.pagetable.PageTable.get.Goals as goal

pub returns-in_err-get : goal.returns-in_err-get
returns-in_err-get c =
    let split = c.split_fanout-left.ensures in
    let same = ap length c.deref.ensures.value in
    rw (c.from_residual.ensures, ← c.self.view_is) (none-at c.self.invariant _ split.left split.right (omega (arith, c.in_err-get.ensures.lookup.3)))

pub returns : goal.returns
returns c =
    let split = c.split_fanout-left.ensures in
    let at = rw c.deref.ensures.value at (got-is c.deref.result.now c.split_fanout-left.result.0 (Some c.in_ok-get.field-0) c.in_ok-get.ensures.lookup) in
    rw (← c.self.view_is, page-in c.self.invariant _ split.left split.right at, ← c.deref-2.ensures.value) (got-is c.deref-2.result.now c.split_fanout-left.result.1 c.get-2.result c.get-2.ensures.lookup)
