use Rattle.std.proofs.Common.{rules, Ok, Err}
use Rattle.sled_base.specs.Errors.{error_of}
use Rattle.sled_pagecache.specs.Batches.{OpensBatch}
use Rattle.sled_pagecache.specs.Inside.SequenceLaws.{also-of}
use Rattle.sled_shared.proofs.Batching.{BatchMade, batch-cancelled, batch-sealed, batch-unopened, batch-unsealed, ended-none}
use Rattle.sled_shared.proofs.batch.swap_in_batch.Goals as goal

pub returns-in-Err-clause-made : goal.returns-in-Err-clause-made
returns-in-Err-clause-made g c =
    let last = c.pin_log.follows.lender-at-none in
    let opens : OpensBatch g.L.Log c.args.cache.now (Err c.in-Err.e) last = rw c.in-Err.is at c.pin_log.follows.holds-at-none in
    rw (c.refusal_of.ensures, c.requires.none.0) (batch-unopened g.L.Log c.args.copies.items c.in-Err.e c.args.cache.now last opens)

pub returns-in-Ok-seal_batch-clause-made : goal.returns-in-Ok-seal_batch-clause-made
returns-in-Ok-seal_batch-clause-made g c =
    let pinned = c.in-Ok.guard.cache.now in
    let lent = c.cache.result.now in
    let mid = c.swap_all.new.cache in
    let last = c.seal_batch.new.self.0 in
    let (inner, are, made) = c.in-Ok-swap_all.ensures.made in
    also-of (λ now. BatchMade g.L.Log c.args.copies.items (Ok c.swap_all.new.answers.items) c.args.cache.now now) last
    (batch-sealed g.L.Log c.args.copies.items c.swap_all.new.answers.items inner c.args.cache.now pinned lent mid last c.in-Ok.ensures.pinned c.cache.ensures.value are made c.in-Ok-seal_batch.ensures)
    (search rules)

pub returns-in-Err-seal_batch-clause-made : goal.returns-in-Err-seal_batch-clause-made
returns-in-Err-seal_batch-clause-made g c =
    let pinned = c.in-Ok.guard.cache.now in
    let lent = c.cache.result.now in
    let mid = c.swap_all.new.cache in
    let last = c.seal_batch.new.self.0 in
    let (inner, are, made) = c.in-Ok-swap_all.ensures.made in
    also-of (λ now. BatchMade g.L.Log c.args.copies.items (Err (error_of c.refusal_of-in-Err-seal_batch.result, c.swap_all.new.answers.items)) c.args.cache.now now) last
    (rw c.refusal_of-in-Err-seal_batch.ensures (batch-unsealed g.L.Log c.args.copies.items c.swap_all.new.answers.items inner c.in-Err-seal_batch.e c.args.cache.now pinned lent mid last c.in-Ok.ensures.pinned c.cache.ensures.value are made c.in-Err-seal_batch.ensures))
    (search rules)

pub returns-in-Err-swap_all-clause-made : goal.returns-in-Err-swap_all-clause-made
returns-in-Err-swap_all-clause-made g c =
    let pinned = c.in-Ok.guard.cache.now in
    let lent = c.cache.result.now in
    let mid = c.swap_all.new.cache in
    let last = c.cancel.new.self.0 in
    let (inner, are, made) = c.in-Err-swap_all.ensures.made in
    also-of (λ now. BatchMade g.L.Log c.args.copies.items (Err (error_of c.in-Err-swap_all.refusal, c.swap_all.new.answers.items)) c.args.cache.now now) last
    (batch-cancelled g.L.Log c.args.copies.items c.swap_all.new.answers.items inner (error_of c.in-Err-swap_all.refusal) c.cancel.result c.args.cache.now pinned lent mid last c.in-Ok.ensures.pinned c.cache.ensures.value are made c.cancel.ensures)
    (search rules)

pub returns-in-Err-clause-same : goal.returns-in-Err-clause-same
returns-in-Err-clause-same g c = rw (c.requires.none.0, c.requires.none.1) (ended-none c.args.copies.items)
