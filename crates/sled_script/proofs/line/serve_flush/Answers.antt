use Rattle.sled_pagecache.specs.declared.pagecache.handles.call.Answer.TheVariants.{Flushed}
use Rattle.sled_pagecache.specs.Inside.MadeLaws.{flush-made}
use Rattle.sled_script.proofs.line.serve_flush.Goals as goal

pub returns : goal.returns
returns g c = let flushed = c.flush-answer.ensures in
    record {
      answer = Flushed c.flush-answer.result;
      made = flush-made g.L.Log c.args.cache.now c.flush-answer.new.self c.flush-answer.result flushed.step flushed.blame flushed.number flushed.stable flushed.keeps;
      batch = flushed.keeps.batch;
      written = c.gather_line.ensures;
    }
