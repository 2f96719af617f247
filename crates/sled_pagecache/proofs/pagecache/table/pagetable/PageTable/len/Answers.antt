use Rattle.sled_pagecache.proofs.Names.{length, ap, arith, TableView}
use Rattle.sled_pagecache.proofs.Table.PageTables.{table-length}
use Rattle.sled_pagecache.proofs.pagecache.table.pagetable.PageTable.len.Goals as goal

pub overflow_mul-result : goal.overflow_mul-result
overflow_mul-result c = omega (arith, c.self.inside.chunks.ok.0, table-length c.self.invariant (rw c.deref.ensures.value at c.in-Some.ensures.value), c.self.invariant.few)

pub overflow_add-result : goal.overflow_add-result
overflow_add-result c = omega (arith, c.self.inside.chunks.ok.0, table-length c.self.invariant (rw c.deref.ensures.value at c.in-Some.ensures.value), c.self.invariant.few)

pub returns-in-Some : goal.returns-in-Some
returns-in-Some c =
    let seen = ap (λ (t : TableView). length t.pages) c.self.view_is in
    omega (arith, c.self.inside.chunks.ok.0, table-length c.self.invariant (rw c.deref.ensures.value at c.in-Some.ensures.value), c.self.invariant.few, seen)
