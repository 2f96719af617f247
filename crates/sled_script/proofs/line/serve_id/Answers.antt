use Rattle.sled_pagecache.specs.declared.pagecache.handles.call.Answer.TheVariants.{Generated}
use Rattle.sled_pagecache.specs.Inside.MadeLaws.{id-made}
use Rattle.sled_script.proofs.line.serve_id.Goals as goal

pub returns : goal.returns
returns g c = let given = c.generate_id_inner-answer.ensures in
    record {
      answer = Generated c.generate_id_inner-answer.result;
      made = id-made g.L.Log c.args.cache.now c.generate_id_inner-answer.new.self c.generate_id_inner-answer.result given.step given.blame given.covered given.keeps given.id given.gives;
      batch = given.keeps.batch;
      written = c.gather_line.ensures;
    }
