use Rattle.sled_log.specs.LogState.{now as log_now}
use Rattle.sled_pagecache.proofs.Names.{ap, open_after, ◌∙◌, false, sym, refl, effect_of_entry, StickyLog, OutOfMemory, events_at_start, holds_now}
use Rattle.sled_pagecache.proofs.Ids.DurableCounter.{positive}
use Rattle.sled_pagecache.proofs.Opening.OpenedCaches.{no-fault, opens-refused, opens-done}
use Rattle.sled_pagecache.proofs.CacheLog.LogCalls.{proceeds-not}
use Rattle.sled_pagecache.proofs.Opening.OpenedPages.{resident-empty, opened-bounded}
use Rattle.sled_pagecache.specs.Logged.{now}
use Rattle.sled_pagecache.proofs.pagecache.calls.PageCache.start.Goals as goal

-- there is no memory for the list of recent use
pub returns-in_default-new-clause-opens : goal.returns-in_default-new-clause-opens
returns-in_default-new-clause-opens g c =
    let before : StickyLog g.row.L.Denot = record { alloc = c.args.alloc; log = c.args.log; fault = false; batch = false } in
    let chains = log_now effect_of_entry (g.L.Log.state c.args.log) in
    λ sound told held logged.
    opens-refused g.L.Log told c.args.config before held logged before OutOfMemory sound
    (proceeds-not g.L.Log before (g.met.L.Log.only_now c.args.log) refl c.requires.usable (events_at_start chains) OutOfMemory tt) tt

pub invariant_of-result : goal.invariant_of-result
invariant_of-result g c =
    let done = c.in-Ok-open.ensures in
    record {
      whole = record { consistent = done.consistent; positive = positive c.args.config (sym c.fault.ensures ∙ c.in_default.is); counted = done.counted };
      none = c.none.ensures;
      bounded = opened-bounded g.L.Log _ _ _ _ _ _ _ done.consistent done.unread c.in-Ok.ensures.empty c.in-Ok.ensures.sound;
    }

pub returns-in-Ok-open-clause-opens : goal.returns-in-Ok-open-clause-opens
returns-in-Ok-open-clause-opens g c =
    let done = c.in-Ok-open.ensures in
    let reaches = done.proceeds.proceeds.reaches in
    λ sound told held logged.
    opens-done g.L.Log told c.args.config _ held logged _ (rw (done.proceeds.are told) at done.proceeds.proceeds)
    (done.consistent.opened done.proceeds.proceeds.fault ∙ reaches.batch) reaches.batch (done.opened told (now held) (holds_now (g.L.Log.state c.args.log) held logged)) refl (done.stable told)

pub returns-in-Ok-open-clause-unread : goal.returns-in-Ok-open-clause-unread
returns-in-Ok-open-clause-unread g c =
    let done = c.in-Ok-open.ensures in
    λ told pid from is. resident-empty (log_now effect_of_entry (g.L.Log.state c.open.new.sticky_log.log)) c.in-Ok-open.opening.pages.pages ((done.consistent.beside done.proceeds.proceeds.fault).kept told) pid (done.unread pid from) is

pub returns-in-Ok-open-clause-bounded : goal.returns-in-Ok-open-clause-bounded
returns-in-Ok-open-clause-bounded g c =
    let done = c.in-Ok-open.ensures in
    opened-bounded g.L.Log _ _ _ _ _ _ _ done.consistent done.unread c.in-Ok.ensures.empty c.in-Ok.ensures.sound

pub returns-in-Err-clause-opens : goal.returns-in-Err-clause-opens
returns-in-Err-clause-opens g c =
    let done = c.in-Err.ensures in
    λ sound told held logged. rw c.from.ensures (opens-refused g.L.Log told c.args.config _ held logged c.open.new.sticky_log c.in-Err.refusal sound (rw (done.proceeds.are told) at done.proceeds.proceeds) (done.refused told))

pub returns-in-Err-clause-again : goal.returns-in-Err-clause-again
returns-in-Err-clause-again g c = rw c.from.ensures (λ other.
    let began = c.in-Err.ensures.proceeds in
    let clear = began.proceeds.fault ∙ no-fault c.in-Err.refusal other in
    let cut = began.proceeds.reaches in
    (cut.went.usable clear, cut.went.opened clear ∙ ap (λ b. open_after b cut.came) c.requires.closed ∙ began.marks cut.came cut.rest cut.is))
