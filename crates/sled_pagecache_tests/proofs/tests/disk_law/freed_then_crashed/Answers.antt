use Rattle.std.proofs.Common.{◌≡◌, ◌∙◌, false, List, Result, Ok, Err, ap, sym}
use Rattle.std.specs.Prelude.{◌||◌, IfOk}
use Rattle.sled_base.specs.declared.types.Error.{Error}
use Rattle.sled_log.specs.declared.log.Log.{Ghosts}
use Rattle.sled_pagecache.specs.Cache.{Cache}
use Rattle.sled_pagecache.specs.Reopening.{IsFlushed, ReopensAfter}
use Rattle.sled_pagecache.specs.State.{State}
use Rattle.sled_pagecache.specs.declared.pagecache.handles.call.Answer.{Answer}
use Rattle.sled_pagecache.specs.declared.pagecache.handles.call.Call.{Call}
use Rattle.sled_pagecache.specs.declared.pagecache.handles.config.Config.{Config}
use Rattle.sled_pagecache_tests.proofs.tests.disk_law.freed_then_crashed.Goals as goal

if-opened : {L : Type 0} (g : Ghosts L) (config : Config) (first last : Cache L) (s : State) (calls : List (Call × Answer)) (result : Result (Cache L) Error)
    → IsFlushed g first s → ReopensAfter g first s calls last config result
    → IfOk result (λ new. (first : Cache L) × (s : State) × (calls : List (Call × Answer)) × (last : Cache L) × IsFlushed g first s × ReopensAfter g first s calls last config (Ok new))
if-opened g config first last s calls (Ok new) flushed after = (first, s, calls, last, flushed, after)
if-opened g config first last s calls (Err e) flushed after = tt

pub returns : goal.returns
returns c =
    let started = c.in_ok-cache.ensures in
    let one = c.in_ok-pid.ensures.step.from_each started.held _ started.is in
    let two = c.in_ok-flush.ensures.step.from_each one.held_then one.out.state one.is in
    let added : c.allocate.new.self.fault ≡ false = c.in_ok-pid.ensures.keeps.fault ∙ ap (λ b. b || false) (sym started.is.fault) in
    let clear : c.flush.new.self.fault ≡ false = c.in_ok-flush.ensures.keeps.fault ∙ ap (λ b. b || false) added in
    let flushed = c.a_cache_is_flushed.ensures clear c.in_ok-flush.ensures.stable two.held_then two.out.state two.is in
    let row = c.in_ok-free_in_a_batch.ensures in
    if-opened _ c.args.config c.flush.new.self c.free_in_a_batch.new.cache two.out.state row.0 c.reopen_after_a_crash.result flushed
    (c.reopen_after_a_crash.ensures c.flush.new.self row.0 two.out.state flushed c.call_behind-n.ensures row.1)
