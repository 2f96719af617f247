use Rattle.std.proofs.Common.{Ok, Some}
use Rattle.sled_pagecache.specs.Calls.{Steps}
use Rattle.sled_pagecache.specs.declared.pagecache.handles.call.Answer.TheVariants.{Got}
use Rattle.sled_pagecache.specs.declared.pagecache.handles.call.Call.TheVariants.{Get}
use Rattle.sled_shared.proofs.Unread.{unread-made}
use Rattle.sled_shared.proofs.copies.read.Goals as goal

pub returns-in-Err-two_of-clause-failed : goal.returns-in-Err-two_of-clause-failed
returns-in-Err-two_of-clause-failed g c =
    let got = c.get.follows.holds-at-none in
    let last = c.get.follows.lender-at-none in
    let view = c.in-Ok-Some.view in
    let step : Steps g.L.Log c.args.cache.now (Get c.args.pid) (Got (Ok (Some (view.token, view.node.now)))) last = rw (c.in-Ok-Some.is, c.in-Ok-Some.field-0-is) at got.step in
    unread-made g.L.Log c.args.cache.now last c.args.pid (view.token, view.node.now) step (rw (c.in-Ok-Some.is, c.in-Ok-Some.field-0-is) at got.keeps)
