use Rattle.sled_pagecache.proofs.Names.{subst, List, ℕ, ◌∙◌, WritesMap}
use Rattle.sled_pagecache.proofs.CacheLog.Writes.{writes-no-map}
use Rattle.sled_pagecache.proofs.pagecache.write.root_page.put_without.Goals as goal

pub returns-in_default-clause-put : goal.returns-in_default-clause-put
returns-in_default-clause-put g c = writes-no-map g.L.Log c.requires.ready.clear c.requires.ready.usable (g.met.L.Log.only_now c.args.writer.now.sticky_log.log)

pub returns-clause-put : goal.returns-clause-put
returns-clause-put g c = subst (λ (payload : List ℕ). WritesMap g.L.Log c.args.writer.now c.put_payload-written.new.writer payload c.args.stamp c.put_payload-written.result) (c.deref.ensures.value ∙ c.in-Ok.ensures) c.put_payload-written.ensures
