use Rattle.sled_pagecache.proofs.Names.{◌∙◌, [], ap, sym, arith, append-nil, on_ok_weaker, chunk_length, length, TableView, IsPageTable, is_unfilled}
use Rattle.sled_pagecache.proofs.Table.PageTables.{grown, room-after}
use Rattle.sled_pagecache.proofs.pagecache.table.pagetable.PageTable.reserve.Goals as goal

pub invariant_of-self-2 : goal.invariant_of-self-2
invariant_of-self-2 c =
    let ready = c.in_ok-open_last.ensures in
    let opened : IsPageTable c.open_last.new.chunks.items = record { filled = ready.filled; few = omega (arith, ap length ready.same, c.self.invariant.few) } in
    (grown c.open_last.new.chunks (is_unfilled chunk_length) ready.open c.len-last.ensures c.index_mut-chunk.ensures.value opened c.reserve.new.self [] (c.reserve.ensures.items ∙ sym (append-nil _)) (λ few. omega (arith, few, c.reserve.ensures.len)) (omega (arith, opened.few))).0

pub returns-clause-same : goal.returns-clause-same
returns-clause-same c =
    let ready = c.in_ok-open_last.ensures in
    let opened : IsPageTable c.open_last.new.chunks.items = record { filled = ready.filled; few = omega (arith, ap length ready.same, c.self.invariant.few) } in
    (grown c.open_last.new.chunks (is_unfilled chunk_length) ready.open c.len-last.ensures c.index_mut-chunk.ensures.value opened c.reserve.new.self [] (c.reserve.ensures.items ∙ sym (append-nil _)) (λ few. omega (arith, few, c.reserve.ensures.len)) (omega (arith, opened.few))).1
    ∙ append-nil _ ∙ ready.same ∙ ap (λ (t : TableView). t.pages) c.self.view_is

pub returns-clause-room : goal.returns-clause-room
returns-clause-room c =
    let ready = c.in_ok-open_last.ensures in
    on_ok_weaker c.reserve.result (λ spare. room-after c.open_last.new.chunks (is_unfilled chunk_length) ready.open c.len-last.ensures c.index_mut-chunk.ensures.value ready.open _ c.reserve.ensures.len (omega (arith, spare))) c.reserve.ensures.ok
