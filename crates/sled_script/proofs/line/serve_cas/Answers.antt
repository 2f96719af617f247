use Rattle.std.proofs.Common.{arith, codes, refl}
use Rattle.sled_pagecache.specs.declared.pagecache.handles.call.Answer.TheVariants.{RootSwapped}
use Rattle.sled_pagecache.specs.declared.pagecache.handles.call.Call.TheVariants.{CasRoot}
use Rattle.sled_script.proofs.Replied.{made_behind, refused_behind}
use Rattle.sled_script.proofs.line.serve_cas.Goals as goal

pub returns-in-Some-clause-replies : goal.returns-in-Some-clause-replies
returns-in-Some-clause-replies g c =
    let asks = rw c.in-Some.is at c.in_ok-name.ensures.some in
    let swapped = c.cas_root_in_meta-answer.ensures in
    rw c.answered.ensures (made_behind g.L.Log c.args.cache.now _ _ _ _ _ c.gather_line.result (codes "cas") _ (CasRoot c.in-Some.name c.in-Some.old c.in-Some.new) asks (record {
      answer = RootSwapped c.cas_root_in_meta-answer.result;
      made = record { step = rw (← c.as_slice.ensures) swapped.step; bytes = tt; faults = swapped.blame; covered = tt; keeps = swapped.keeps };
      batch = swapped.keeps.batch;
      written = c.gather_line.ensures;
    }))

pub returns-in-None-clause-replies : goal.returns-in-None-clause-replies
returns-in-None-clause-replies g c =
    let none = rw c.in-None.is at c.in_ok-name.ensures.none in
    rw c.answered-in-None.ensures (refused_behind g.L.Log c.args.cache.now _ _ _ _ _ c.refuse.result (codes "cas") _ refl (omega arith, omega arith, omega arith, omega arith) none c.refuse.ensures)
