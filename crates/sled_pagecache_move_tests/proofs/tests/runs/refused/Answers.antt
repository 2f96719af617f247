-- The settings were refused, and the log came back.
use Rattle.std.proofs.Common.{◌≢◌, ◌∙◌, Err, inr, refl, sym}
use Rattle.sled_base.specs.declared.types.Device.TheVariants.{Write}
use Rattle.sled_base.specs.declared.types.Error.TheVariants.{Io}
use Rattle.sled_pagecache.specs.Inside.ServedLaws.{log-stays}
use Rattle.sled_pagecache.specs.Openings.{Refused}
use Rattle.sled_pagecache_move_tests.proofs.tests.runs.refused.Goals as goal

pub returns-in-Err-Unsupported-default : goal.returns-in-Err-Unsupported-default
returns-in-Err-Unsupported-default c =
    let told = c.in-Err-Unsupported-default.ensures in
    let log = c.in-Err-Unsupported-default.log in
    let other : c.in-Err-Unsupported-default.field-0-0 ≢ Io Write = λ same. let e = sym c.in-Err-Unsupported-default.field-0-0-is ∙ same in cc in
    record {
      opening = Refused c.args.config (Err (c.in-Err-Unsupported-default.field-0-0, log)) log;
      run = (
        c.args.log,
        log-stays _ c.args.log,
        (c.requires, record { settings = told.settings; opens = λ sound held logged. told.opens sound tt held logged }),
        inr (other, refl),
        tt,
      );
      ends = refl;
      leaves = refl;
      again = told.again other;
    }
