use Rattle.std.proofs.Common.{arith, codes, refl}
use Rattle.sled_pagecache.specs.declared.pagecache.handles.call.Answer.TheVariants.{Freed}
use Rattle.sled_pagecache.specs.declared.pagecache.handles.call.Call.TheVariants.{Free}
use Rattle.sled_script.proofs.Replied.{made_behind, refused_behind}
use Rattle.sled_script.proofs.line.serve_free.Goals as goal

pub returns-in-Some-clause-replies : goal.returns-in-Some-clause-replies
returns-in-Some-clause-replies g c =
    let freed = c.free-answer.ensures in
    rw c.answered.ensures (made_behind g.L.Log c.args.cache.now _ _ _ _ _ c.gather_line.result (codes "free") _ (Free c.in-Some.old) c.in-Some.ensures.some (record {
      answer = Freed c.free-answer.result;
      made = record { step = freed.step; bytes = tt; faults = freed.blame; covered = tt; keeps = freed.keeps };
      batch = freed.keeps.batch;
      written = c.gather_line.ensures;
    }))

pub returns-in-None-clause-replies : goal.returns-in-None-clause-replies
returns-in-None-clause-replies g c =
    let none = c.in-None.ensures.none in
    rw c.answered-in-None.ensures (refused_behind g.L.Log c.args.cache.now _ _ _ _ _ c.refuse.result (codes "free") _ refl (omega arith, omega arith, omega arith, omega arith) none c.refuse.ensures)
