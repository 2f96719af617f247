use Rattle.sled_pagecache.proofs.Crash.ReopenedCaches.{kept-logged}
use Rattle.sled_pagecache.proofs.laws.what_a_crash_leaves_is_logged.Goals as goal

pub returns : goal.returns
returns c = λ held changes pages left. kept-logged pages _ left.is
