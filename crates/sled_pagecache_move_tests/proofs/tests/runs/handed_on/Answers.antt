-- The cache that was opened, the calls that it answered, and its log.
use Rattle.std.proofs.Common.{◌≡◌, false, List, [], ◌∷◌, Ok, refl, rules}
use Rattle.sled_pagecache.specs.Inside.MadeLaws.{flush-made}
use Rattle.sled_pagecache.specs.Inside.ServedLaws.{log-stays, made-unserved}
use Rattle.sled_pagecache.specs.Openings.{HandedOn, Lasted}
use Rattle.sled_pagecache.specs.declared.pagecache.handles.call.Answer.{Answer}
use Rattle.sled_pagecache.specs.declared.pagecache.handles.call.Answer.TheVariants.{Allocated, Flushed}
use Rattle.sled_pagecache.specs.declared.pagecache.handles.call.Call.{Call}
use Rattle.sled_pagecache.specs.declared.pagecache.handles.call.Call.TheVariants.{Allocate, Flush}
use Rattle.sled_pagecache_move_tests.proofs.tests.runs.handed_on.Goals as goal

pub returns : goal.returns
returns c =
    let opened = c.in-Ok.ensures in
    let page = c.in-Ok-allocate.ensures in
    let flushed = c.in-Ok-flush.ensures in
    let last = c.flush.new.self in
    let calls : List (Call × Answer) = (Allocate c.default.result, Allocated (Ok (c.in-Ok-allocate._pid, c.in-Ok-allocate._token))) ∷ (Flush, Flushed (Ok c.in-Ok-flush._written)) ∷ [] in
    let clear : c.flush.new.self.fault ≡ false = search rules in
    record {
      opening = Lasted c.args.config c.in-Ok.cache calls last HandedOn c.into_log.result;
      run = (
        c.args.log,
        log-stays _ c.args.log,
        (c.requires, record { settings = opened.settings; opens = λ sound held logged. opened.opens sound tt held logged }),
        made-unserved _ c.in-Ok.cache last calls (c.allocate.new.self, record { step = page.step; bytes = tt; faults = page.blame; covered = tt; keeps = page.keeps }, (last, flush-made _ c.allocate.new.self last (Ok c.in-Ok-flush._written) flushed.step flushed.blame flushed.number flushed.stable flushed.keeps, refl)),
        (clear, c.into_log.ensures.log),
        tt,
      );
      ends = refl;
      leaves = refl;
      again = c.into_log.ensures.again clear;
    }
