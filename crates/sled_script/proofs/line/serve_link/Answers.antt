use Rattle.sled_pagecache.specs.declared.pagecache.handles.call.Answer.TheVariants.{Linked}
use Rattle.sled_script.proofs.line.serve_link.Goals as goal

pub returns : goal.returns
returns g c = record {
  answer = Linked c.link-answer.result;
  made = record { step = c.link-answer.ensures.step; bytes = tt; faults = c.link-answer.ensures.blame; covered = tt; keeps = c.link-answer.ensures.keeps };
  batch = c.link-answer.ensures.keeps.batch;
  written = c.gather_swap.ensures;
}
