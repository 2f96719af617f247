use Rattle.sled_pagecache.specs.declared.pagecache.handles.call.Answer.TheVariants.{Amplified}
use Rattle.sled_pagecache.specs.Inside.MadeLaws.{amplification-made}
use Rattle.sled_script.proofs.line.serve_amp.Goals as goal

pub returns : goal.returns
returns g c = let measured = c.space_amplification-answer.ensures in
    record {
      answer = Amplified c.space_amplification-answer.result;
      made = amplification-made g.L.Log c.args.cache.now c.space_amplification-answer.new.self c.space_amplification-answer.result measured.step measured.blame measured.size measured.keeps;
      batch = measured.keeps.batch;
      written = c.gather_line.ensures;
    }
