use Rattle.sled_pagecache.proofs.Names.{◌∷◌, ◌++◌, ◌∙◌, [], length, ap, arith, TableView, has_room, chunk_length}
use Rattle.sled_pagecache.proofs.Table.PageTables.{grown, room-in}
use Rattle.sled_pagecache.proofs.pagecache.table.pagetable.PageTable.push_reserved.Goals as goal

pub invariant_of-self : goal.invariant_of-self
invariant_of-self c =
    let room = ap (λ (t : TableView). t.room) c.self.view_is ∙ c.requires.room in
    let few = ap (λ (t : TableView). length t.pages) c.self.view_is in
    let short = room-in c.self.inside.chunks (has_room chunk_length) room c.len-last.ensures c.index_mut-chunk.ensures.value room in
    (grown c.self.inside.chunks (has_room chunk_length) room c.len-last.ensures c.index_mut-chunk.ensures.value c.self.invariant c.push_reserved.new.self (c.args.page ∷ []) c.push_reserved.ensures.items (λ _. omega (arith, short, c.push_reserved.ensures.len)) (omega (arith, few, c.requires.few))).0

pub returns : goal.returns
returns c =
    let room = ap (λ (t : TableView). t.room) c.self.view_is ∙ c.requires.room in
    let few = ap (λ (t : TableView). length t.pages) c.self.view_is in
    let short = room-in c.self.inside.chunks (has_room chunk_length) room c.len-last.ensures c.index_mut-chunk.ensures.value room in
    (grown c.self.inside.chunks (has_room chunk_length) room c.len-last.ensures c.index_mut-chunk.ensures.value c.self.invariant c.push_reserved.new.self (c.args.page ∷ []) c.push_reserved.ensures.items (λ _. omega (arith, short, c.push_reserved.ensures.len)) (omega (arith, few, c.requires.few))).1
    ∙ ap (λ (t : TableView). t.pages ++ c.args.page ∷ []) c.self.view_is
