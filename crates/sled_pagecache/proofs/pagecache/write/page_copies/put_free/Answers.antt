use Rattle.sled_pagecache.proofs.Names.{Err, Ok, refl, refused-is}
use Rattle.sled_pagecache.proofs.Rewrites.PutCopies.{free-put, leaf-refused}
use Rattle.sled_pagecache.proofs.pagecache.write.page_copies.put_free.Goals as goal

pub returns-in_err-write_empty_leaf : goal.returns-in_err-write_empty_leaf
returns-in_err-write_empty_leaf g c =
    rw (refused-is c.from_residual.result _ c.from_residual.ensures.1) (leaf-refused g.L.Log g.met.L.Log.only_now c.args.pid 0 c.args.copy.now c.requires.ready.clear c.requires.ready.usable _ c.in_err-write_empty_leaf.field-0.0 c.in_err-write_empty_leaf.ensures)

pub returns-in_err-write_content : goal.returns-in_err-write_content
returns-in_err-write_content g c =
    rw (refused-is c.from_residual-in_err-write_content.result _ c.from_residual-in_err-write_content.ensures.1)
    (free-put g.L.Log g.met.L.Log.only_now c.args.pid 0 c.args.copy.now _ _ c.requires.ready.clear c.requires.ready.usable _ (Err c.in_err-write_content.field-0.0) (Err c.in_err-write_content.field-0.0) refl c.in_ok-write_empty_leaf.ensures c.in_err-write_content.ensures)

pub returns : goal.returns
returns g c = free-put g.L.Log g.met.L.Log.only_now c.args.pid 0 c.args.copy.now _ _ c.requires.ready.clear c.requires.ready.usable _ (Ok c.in_ok-write_content.field-0) (Ok tt) refl c.in_ok-write_empty_leaf.ensures c.in_ok-write_content.ensures
