use Rattle.std.proofs.Common.{refl}
use Rattle.sled_pagecache.specs.declared.pagecache.handles.call.Answer.TheVariants.{Sized}
use Rattle.sled_pagecache.specs.Inside.MadeLaws.{size-made}
use Rattle.sled_script.proofs.line.serve_size.Goals as goal

pub returns : goal.returns
returns g c = let sized = c.size_on_disk-answer.ensures in
    record {
      answer = Sized c.size_on_disk-answer.result;
      made = size-made g.L.Log c.args.cache.now c.size_on_disk-answer.result sized.step sized.size sized.keeps;
      batch = refl;
      written = c.gather_line.ensures;
    }
