use Rattle.sled_pagecache.proofs.Crash.ReopenedCaches.{empty-logged}
use Rattle.sled_pagecache.proofs.laws.an_empty_log_is_logged.Goals as goal

pub returns : goal.returns
returns c = empty-logged
