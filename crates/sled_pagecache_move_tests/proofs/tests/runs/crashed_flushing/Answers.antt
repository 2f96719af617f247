-- The cache that was opened, the call that it answered, and what a crash left inside the next.
use Rattle.std.proofs.Common.{[], ◌∷◌, Ok, refl}
use Rattle.sled_pagecache.specs.Inside.MadeLaws.{flush-made}
use Rattle.sled_pagecache.specs.Inside.ServedLaws.{log-stays, made-unserved}
use Rattle.sled_pagecache.specs.Openings.{CrashedIn, Lasted}
use Rattle.sled_pagecache.specs.declared.pagecache.handles.call.Answer.TheVariants.{Allocated, Flushed}
use Rattle.sled_pagecache.specs.declared.pagecache.handles.call.Call.TheVariants.{Allocate, Flush}
use Rattle.sled_pagecache_move_tests.proofs.tests.runs.crashed_flushing.Goals as goal

pub returns : goal.returns
returns c =
    let opened = c.in-Ok.ensures in
    let page = c.in-Ok-allocate.ensures in
    let flushed = c.in-Ok-flush.ensures in
    let last = c.allocate.new.self in
    let then = c.flush.new.self in
    let written = c.in-Ok-flush._written in
    let calls = (Allocate c.default.result, Allocated (Ok (c.in-Ok-allocate._pid, c.in-Ok-allocate._token))) ∷ [] in
    let left = rw c.writes_and_syncs-since.ensures.moment at c.in_ok-left.ensures in (
      written,
      record {
        opening = Lasted c.args.config c.in-Ok.cache calls last (CrashedIn Flush (Flushed (Ok written))) c.in_ok-left.left;
        run = (
          c.args.log,
          log-stays _ c.args.log,
          (c.requires, record { settings = opened.settings; opens = λ sound held logged. opened.opens sound tt held logged }),
          made-unserved _ c.in-Ok.cache last calls (last, record { step = page.step; bytes = tt; faults = page.blame; covered = tt; keeps = page.keeps }, refl),
          (then, flush-made _ last then (Ok written) flushed.step flushed.blame flushed.number flushed.stable flushed.keeps, left.0),
          tt,
        );
        ends = refl;
        leaves = refl;
        again = left.1;
      },
    )
