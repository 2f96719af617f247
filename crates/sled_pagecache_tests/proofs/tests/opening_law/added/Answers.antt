-- The cache that was opened, the calls that it answered, and what the crash left.
use Rattle.std.proofs.Common.{rules}
use Rattle.sled_pagecache.proofs.Names.{refl}
use Rattle.sled_pagecache_tests.proofs.tests.opening_law.added.Goals as goal

pub returns : goal.returns
returns c =
    let opened = c.in-Ok.ensures in
    let page = c.in-Ok-allocate.ensures in
    let flushed = c.in-Ok-flush.ensures in
    let last = c.flush.new.self in (
      c.in-Ok.cache,
      last,
      c.default.result,
      c.in-Ok-allocate._token,
      c.in-Ok-flush._written,
      ((refl, search rules), record { settings = opened.settings; opens = λ sound held logged. opened.opens sound tt held logged }),
      (c.allocate.new.self, record { step = page.step; bytes = tt; faults = page.blame; covered = tt; keeps = page.keeps }, (last, record { step = flushed.step; bytes = (flushed.number, flushed.stable); faults = flushed.blame; covered = tt; keeps = flushed.keeps }, refl)),
      c.in_ok-left.ensures,
    )
