use Rattle.sled_pagecache.proofs.Names.{refl, arith, ap, sym, ◌∙◌, slice_get, TableView}
use Rattle.sled_pagecache.specs.Lending.{with_page}
use Rattle.sled_pagecache.proofs.Table.PageTables.{chunk-within, page-within, page-is, stays-table, seen-after}
use Rattle.sled_pagecache.proofs.pagecache.table.pagetable.PageTable.get_mut.Goals as goal

pub index_mut-chunk-requires : goal.index_mut-chunk-requires
index_mut-chunk-requires c =
    let split = c.split_fanout-left.ensures in
    omega (arith, chunk-within c.self.invariant c.args.pid split.left split.right (rw (← c.self.view_is) at c.requires), c.self.inside.chunks.ok.0)

pub index_mut-requires : goal.index_mut-requires
index_mut-requires c =
    let split = c.split_fanout-left.ensures in
    omega (arith, page-within c.self.invariant c.args.pid split.left split.right (rw (← c.self.view_is) at c.requires) c.index_mut-chunk.ensures.value)

pub invariant_of-self-lent : goal.invariant_of-self-lent
invariant_of-self-lent c =
    let split = c.split_fanout-left.ensures in
    stays-table c.self.invariant _ split.left split.right (rw (← c.self.view_is) at c.requires) c.index_mut-chunk.ensures.value

pub returns : goal.returns
returns c =
    let split = c.split_fanout-left.ensures in
    let few = rw (← c.self.view_is) at c.requires in
    let chunk = c.index_mut-chunk.ensures.value in
    let seen = seen-after c.self.invariant _ split.left split.right few chunk in
    let page = page-is c.self.invariant _ split.left split.right few chunk _ c.index_mut.ensures.value in
    ((refl, λ page. seen page ∙ ap (λ (t : TableView). with_page t c.args.pid page) c.self.view_is), record { lends = tt; page = ap (λ (t : TableView). slice_get t.pages c.args.pid) (sym c.self.view_is) ∙ page })
