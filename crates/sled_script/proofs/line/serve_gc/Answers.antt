use Rattle.sled_pagecache.specs.declared.pagecache.handles.call.Answer.TheVariants.{AttemptedGc}
use Rattle.sled_script.proofs.line.serve_gc.Goals as goal

pub returns : goal.returns
returns g c = let attempted = c.attempt_gc-answer.ensures in
    record {
      answer = AttemptedGc c.attempt_gc-answer.result;
      made = record { step = attempted.step; bytes = tt; faults = attempted.blame; covered = tt; keeps = attempted.keeps };
      batch = attempted.keeps.batch;
      written = c.gather_line.ensures;
    }
