-- The cache that was opened, and what a crash left while it was rewritten.
use Rattle.std.proofs.Common.{[], refl}
use Rattle.sled_pagecache.specs.Inside.ServedLaws.{log-stays, made-unserved}
use Rattle.sled_pagecache.specs.Openings.{CrashedRewriting, Lasted}
use Rattle.sled_pagecache_move_tests.proofs.tests.runs.crashed_rewriting.Goals as goal

pub returns : goal.returns
returns c =
    let opened = c.in-Ok.ensures in
    let last = c.in-Ok.cache in
    let then = c.rewrite_into-rewritten.new.self in
    let left = rw c.writes_and_syncs-since.ensures.moment at c.in_ok-left.ensures in
    record {
      opening = Lasted c.args.config last [] last CrashedRewriting c.in_ok-left.left;
      run = (
        c.args.log,
        log-stays _ c.args.log,
        (c.requires, record { settings = opened.settings; opens = λ sound held logged. opened.opens sound tt held logged }),
        made-unserved _ last last [] refl,
        (then, c.rewrite_into-rewritten.ensures.step, left.0),
        tt,
      );
      ends = refl;
      leaves = refl;
      again = left.1;
    }
