use Rattle.std.proofs.Common.{arith, codes, refl}
use Rattle.sled_pagecache.specs.declared.pagecache.handles.call.Call.TheVariants.{Link}
use Rattle.sled_script.proofs.Replied.{made_behind, refused_behind}
use Rattle.sled_script.proofs.line.serve_del.Goals as goal

pub returns-in-Some-clause-replies : goal.returns-in-Some-clause-replies
returns-in-Some-clause-replies g c =
    let asks = rw c.in-Some.is at c.in_ok-old.ensures.some in
    rw c.answered.ensures (made_behind g.L.Log c.args.cache.now _ _ _ _ _ c.serve_link.result (codes "del") _ (Link c.in-Some.old c.in-Some.link) asks c.serve_link.ensures)

pub returns-in-None-clause-replies : goal.returns-in-None-clause-replies
returns-in-None-clause-replies g c =
    let none = rw c.in-None.is at c.in_ok-old.ensures.none in
    rw c.answered-in-None.ensures (refused_behind g.L.Log c.args.cache.now _ _ _ _ _ c.refuse.result (codes "del") _ refl (omega arith, omega arith, omega arith, omega arith) none c.refuse.ensures)
