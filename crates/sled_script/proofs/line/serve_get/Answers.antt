use Rattle.std.proofs.Common.{[], ◌∷◌, Some, ap, arith, codes, refl}
use Rattle.std.specs.Fmt.{decimal}
use Rattle.sled_pagecache.specs.declared.pagecache.handles.call.Answer.TheVariants.{Got}
use Rattle.sled_pagecache.specs.declared.pagecache.handles.call.Call.TheVariants.{Get}
use Rattle.sled_pagecache.specs.Lending.{lent_answer}
use Rattle.sled_script.proofs.Replied.{made_behind}
use Rattle.sled_script.proofs.line.serve_get.Goals as goal

pub returns-in-Some-clause-replies : goal.returns-in-Some-clause-replies
returns-in-Some-clause-replies g c =
    let pid = c.in-Some.pid in
    -- what the cache is once the node has come back
    let got = c.get.follows.holds-at-none in
    rw c.answered.ensures (made_behind g.L.Log c.args.cache.now _ _ _ _ _ c.gather_line.result (codes "get") _ (Get pid) (decimal pid ∷ [], (omega arith, refl), ap Some c.in-Some.ensures.some) (record {
      answer = Got (lent_answer c.get.result);
      made = record { step = got.step; bytes = tt; faults = got.blame; covered = tt; keeps = got.keeps };
      batch = got.keeps.batch;
      written = c.gather_line.ensures;
    }))
