use Rattle.std.proofs.Common.{◌≡◌, ◌∙◌, false, Result, Ok, Err, ap, sym}
use Rattle.std.specs.Prelude.{◌||◌, IfOk}
use Rattle.sled_base.specs.declared.types.Error.{Error}
use Rattle.sled_log.specs.declared.log.Log.{Ghosts}
use Rattle.sled_pagecache.specs.Cache.{Cache}
use Rattle.sled_pagecache.specs.Reopening.{IsFlushed, HasFlushed}
use Rattle.sled_pagecache.specs.State.{State}
use Rattle.sled_pagecache.specs.declared.pagecache.handles.config.Config.{Config}
use Rattle.sled_pagecache_tests.proofs.tests.disk_law.flushed_then_crashed.Goals as goal

if-opened : {L : Type 0} (g : Ghosts L) (config : Config) (first : Cache L) (s : State) (result : Result (Cache L) Error)
    → IsFlushed g first s → IfOk result (HasFlushed g s config)
    → IfOk result (λ new. (first : Cache L) × (s : State) × IsFlushed g first s × HasFlushed g s config new)
if-opened g config first s (Ok new) flushed after = (first, s, flushed, after)
if-opened g config first s (Err e) flushed after = tt

pub returns : goal.returns
returns c =
    let started = c.in_ok-cache.ensures in
    let one = c.in_ok-allocate.ensures.step.from_each started.held _ started.is in
    let two = c.in_ok-flush.ensures.step.from_each one.held_then one.out.state one.is in
    let added : c.allocate.new.self.fault ≡ false = c.in_ok-allocate.ensures.keeps.fault ∙ ap (λ b. b || false) (sym started.is.fault) in
    let clear : c.flush.new.self.fault ≡ false = c.in_ok-flush.ensures.keeps.fault ∙ ap (λ b. b || false) added in
    let flushed = c.a_cache_is_flushed.ensures clear c.in_ok-flush.ensures.stable two.held_then two.out.state two.is in
    if-opened _ c.args.config c.flush.new.self two.out.state c.what_was_flushed_is_there.result flushed
    (c.what_was_flushed_is_there.ensures two.held_then two.out.state two.is c.call_behind-n.ensures).0
