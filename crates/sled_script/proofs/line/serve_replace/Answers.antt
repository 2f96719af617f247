use Rattle.std.proofs.Common.{arith, codes, refl}
use Rattle.sled_pagecache.specs.declared.pagecache.handles.call.Answer.TheVariants.{Replaced}
use Rattle.sled_pagecache.specs.declared.pagecache.handles.call.Call.TheVariants.{Replace}
use Rattle.sled_script.proofs.Replied.{made_behind, refused_behind}
use Rattle.sled_script.proofs.line.serve_replace.Goals as goal

pub returns-in-Some-clause-replies : goal.returns-in-Some-clause-replies
returns-in-Some-clause-replies g c =
    let asks = rw c.in-Some.is at c.in_ok-old.ensures.some in
    let replaced = c.replace-answer.ensures in
    rw c.answered.ensures (made_behind g.L.Log c.args.cache.now _ _ _ _ _ c.gather_line.result (codes "replace") _ (Replace c.in-Some.old c.in-Some.node) asks (record {
      answer = Replaced c.replace-answer.result;
      made = record { step = replaced.step; bytes = tt; faults = replaced.blame; covered = tt; keeps = replaced.keeps };
      batch = replaced.keeps.batch;
      written = c.gather_line.ensures;
    }))

pub returns-in-None-clause-replies : goal.returns-in-None-clause-replies
returns-in-None-clause-replies g c =
    let none = rw c.in-None.is at c.in_ok-old.ensures.none in
    rw c.answered-in-None.ensures (refused_behind g.L.Log c.args.cache.now _ _ _ _ _ c.refuse.result (codes "replace") _ refl (omega arith, omega arith, omega arith, omega arith) none c.refuse.ensures)
