-- The log is empty, so the cache has no page but its own, which were missing.
use Rattle.std.proofs.Common.{refl, sym, subst}
use Rattle.sled_log.specs.Messages.{Entry}
use Rattle.sled_log.specs.LogState as log
use Rattle.sled_pagecache.specs.Logged.{IsLogged}
use Rattle.sled_script.proofs.Job.{nothing, empty_logged, some_missing}
use Rattle.sled_script.proofs.program.open_memory.Goals as goal

pub returns-in-Ok : goal.returns-in-Ok
returns-in-Ok c =
    let logged = subst (λ (state : log.LogState Entry). IsLogged (log.unplaced_state state) nothing) (sym c.new_log.ensures.state) empty_logged in
    let opened = c.in-Ok.ensures.opens refl tt nothing logged in
    record { settings = opened.config_is; held = opened.held_then; is = opened.is; stable = opened.stable some_missing; closed = c.in-Ok.ensures.closed }
