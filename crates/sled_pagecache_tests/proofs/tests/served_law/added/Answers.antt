-- The calls that the cache answered, and what was handed out between them.
use Rattle.sled_pagecache_tests.proofs.tests.served_law.added.Goals as goal

pub returns : goal.returns
returns g c =
    let page = c.in-Ok.ensures in
    let flushed = c.in-Ok-flush.ensures in (
      c.default.result,
      c.in-Ok._token,
      c.in-Ok-flush._written,
      (
        c.serve-before.new.cache,
        c.allocate.new.self,
        c.serve-before.ensures,
        record { step = page.step; bytes = tt; faults = page.blame; covered = tt; keeps = page.keeps },
        (
          c.serve-between.new.cache,
          c.flush.new.self,
          c.serve-between.ensures,
          record { step = flushed.step; bytes = (flushed.number, flushed.stable); faults = flushed.blame; covered = tt; keeps = flushed.keeps },
          c.serve-behind.ensures,
        ),
      ),
    )
