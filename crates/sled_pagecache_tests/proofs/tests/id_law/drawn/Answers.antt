-- The cache that was opened, the call that it answered, and what it left.
use Rattle.std.proofs.Common.{rules}
use Rattle.sled_pagecache.proofs.Names.{refl}
use Rattle.sled_log.specs.contracts.memory.calls.MemLogLog.TheImpl as mem
use Rattle.sled_pagecache.specs.Inside.MadeLaws.{id-made}
use Rattle.sled_pagecache_tests.proofs.tests.id_law.drawn.Goals as goal

pub returns : goal.returns
returns c =
    let opened = c.in-Ok.ensures in
    let given = c.in-Ok-generate_id_inner.ensures in
    let last = c.generate_id_inner.new.self in (
      c.in-Ok.cache,
      last,
      c.in_ok-left.ensures.0,
      ((refl, search rules), record { settings = opened.settings; opens = λ sound held logged. opened.opens sound tt held logged }),
      (last, id-made mem.ghosts _ last _ given.step given.blame given.covered given.keeps given.id given.gives, refl),
      c.in_ok-left.ensures.1,
    )
