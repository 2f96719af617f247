use Rattle.sled_pagecache.specs.declared.pagecache.handles.call.Answer.TheVariants.{Allocated}
use Rattle.sled_script.proofs.line.serve_alloc_empty.Goals as goal

pub returns : goal.returns
returns g c =
    let allocated = c.allocate-answer.ensures in
    record {
      answer = Allocated c.allocate-answer.result;
      made = record { step = rw c.default.ensures at allocated.step; bytes = tt; faults = allocated.blame; covered = tt; keeps = allocated.keeps };
      batch = allocated.keeps.batch;
      written = c.gather_line.ensures;
    }
