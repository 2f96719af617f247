use Rattle.sled_pagecache.proofs.Names.{ap, arith, length}
use Rattle.sled_pagecache.proofs.Rewrites.PageCopies.{copies-kept, copies-read, read-none}
use Rattle.sled_pagecache.proofs.pagecache.write.page_copies.copy_page.Goals as goal

pub returns-in_default : goal.returns-in_default
returns-in_default g c =
    let old = c.args.sticky_log.now in
    copies-kept g.L.Log g.M.Log c.args.pid c.args.page.now old c.args.copy.now c.put_copy.new.copy c.put_copy.result (grind (arith, c.in_default.not-OnLog)) (read-none g.L.Log old c.requires.ready.clear c.requires.ready.usable (g.met.L.Log.only_now old.log)) c.requires.kept
    c.put_copy.ensures

pub returns : goal.returns
returns g c =
    copies-read g.L.Log g.M.Log c.args.pid c.args.page.now c.args.sticky_log.now c.args.copy.now c.in-OnLog.is c.read_node.new.sticky_log c.put_copy-2.new.copy c.in_ok-node.node c.put_copy-2.result _ (ap length c.cache_infos.ensures) c.in_ok-node.ensures.read c.in_ok-node.ensures.made
    c.put_copy-2.ensures
