-- The log is empty, so the cache has no page but its own, which were missing.
use Rattle.sled_pagecache.specs.Opening.{fault_of}
use Rattle.sled_handle.specs.Openings.{config_of}
use Rattle.sled_handle.proofs.Opened.{nothing, holds_nothing, own_are_missing, faultless}
use Rattle.sled_handle.proofs.handle.memory.new_cache.Goals as goal

pub returns-in-Ok-clause-new : goal.returns-in-Ok-clause-new
returns-in-Ok-clause-new c =
    let started = rw c.config.ensures at c.in-Ok.ensures in
    let none = faultless (fault_of (config_of c.args.settings)) (λ why fault. cc (started.settings why fault)) in
    let opened = started.opens none tt nothing (holds_nothing _ c.log.ensures) in
    record { faultless = none; settings = opened.config_is; held = opened.held_then; is = opened.is; stable = opened.stable own_are_missing; closed = started.closed }
