use Rattle.sled_pagecache.proofs.Names.{arith, refused-is}
use Rattle.sled_pagecache.proofs.Rewrites.PutCopies.{puts-refused}
use Rattle.sled_pagecache.proofs.pagecache.write.page_copies.put_copy.Goals as goal

pub returns-in_err-put_content-in_default : goal.returns-in_err-put_content-in_default
returns-in_err-put_content-in_default g c =
    rw (refused-is c.from_residual.result _ c.from_residual.ensures.1)
    (puts-refused g.L.Log g.met.L.Log.only_now c.args.pid 0 c.args.copy.now c.requires.ready.clear c.requires.ready.usable c.args.kept.now _ c.in_err-put_content-in_default.field-0.0 (grind (arith, c.in_default.not-Free)) c.in_err-put_content-in_default.ensures)
