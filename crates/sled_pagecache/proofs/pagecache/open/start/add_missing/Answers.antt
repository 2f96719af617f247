use Rattle.sled_pagecache.proofs.Names.{append-nil, ◌<◌, List, length, None, subst, sym, rules, Ok, Err, Event, Message, events_at_start, Proceeds, refused-is, drop_all, roots_event, counter_event, events_of_roots, slice_get_past, ◌∙◌, ◌∷◌, [], arith}
use Rattle.sled_pagecache.proofs.CacheLog.LogCalls.{proceeds-none, proceeds-first}
use Rattle.sled_pagecache.proofs.Opening.OpenedPages.{events-split, missing-both, missing-stable, stays-closed, changes-closed}
use Rattle.sled_pagecache.proofs.pagecache.open.start.add_missing.Goals as goal

pub returns-then-len-gt1-clause-proceeds : goal.returns-then-len-gt1-clause-proceeds
returns-then-len-gt1-clause-proceeds g c =
    let sticky_log = c.args.sticky_log.now in
    subst (λ (l : List (Event Message)). Proceeds g.L.Log sticky_log sticky_log l None) (sym (drop_all (length c.args.pages.now.pages) (roots_event ∷ counter_event ∷ []) (search rules)))
    (proceeds-none g.L.Log sticky_log (g.met.L.Log.only_now sticky_log.log) c.requires.ready.clear c.requires.ready.usable)

pub returns-in_err-add_roots-clause-proceeds : goal.returns-in_err-add_roots-clause-proceeds
returns-in_err-add_roots-clause-proceeds g c =
    let pages = c.args.pages.now.pages in
    rw (refused-is c.from_residual.result _ c.from_residual.ensures.1, ← events-split pages (search rules))
    (proceeds-first g.L.Log c.args.sticky_log.now c.add_roots.new.sticky_log (events_of_roots pages) (counter_event ∷ []) c.in_err-add_roots.field-0.0 c.in_err-add_roots.ensures.proceeds)

pub returns-in_err-add_counter-clause-proceeds : goal.returns-in_err-add_counter-clause-proceeds
returns-in_err-add_counter-clause-proceeds g c =
    rw (refused-is c.from_residual-in_err-add_counter.result _ c.from_residual-in_err-add_counter.ensures.1) (missing-both g.L.Log c.args.sticky_log.now c.add_roots.new.sticky_log c.args.pages.now.pages (search rules) c.add_counter.new.sticky_log _ c.in_ok-add_roots.ensures.proceeds c.in_err-add_counter.ensures.proceeds)

pub make_stable-requires-clause-closed : goal.make_stable-requires-clause-closed
make_stable-requires-clause-closed g c =
    let pages = c.args.pages.now.pages in
    stays-closed g.L.Log c.args.sticky_log.now c.add_counter.new.sticky_log (events_at_start pages)
    (missing-both g.L.Log c.args.sticky_log.now c.add_roots.new.sticky_log pages (search rules) c.add_counter.new.sticky_log None c.in_ok-add_roots.ensures.proceeds c.in_ok-add_counter.ensures.proceeds) c.requires.closed (changes-closed (length pages) (events_at_start pages) [] (append-nil _))

pub returns-in_err-make_stable-clause-proceeds : goal.returns-in_err-make_stable-clause-proceeds
returns-in_err-make_stable-clause-proceeds g c =
    let done = c.in_err-make_stable.ensures in
    rw (refused-is c.from_residual-in_err-make_stable.result _ c.from_residual-in_err-make_stable.ensures.1)
    (missing-stable g.L.Log c.args.sticky_log.now c.add_roots.new.sticky_log c.args.pages.now.pages (search rules) c.add_counter.new.sticky_log c.make_stable.new.self (Err c.in_err-make_stable.field-0.0)
    c.in_ok-add_roots.ensures.proceeds c.in_ok-add_counter.ensures.proceeds done.went done.cause)

pub returns-clause-proceeds : goal.returns-clause-proceeds
returns-clause-proceeds g c =
    let done = c.in_ok-make_stable.ensures in
    missing-stable g.L.Log c.args.sticky_log.now c.add_roots.new.sticky_log c.args.pages.now.pages (search rules) c.add_counter.new.sticky_log c.make_stable.new.self (Ok c.in_ok-make_stable.field-0)
    c.in_ok-add_roots.ensures.proceeds c.in_ok-add_counter.ensures.proceeds done.went done.cause

pub returns-clause-others : goal.returns-clause-others
returns-clause-others g c = λ pid from.
    let few : length c.args.pages.now.pages < 2 = search rules in
    slice_get_past c.add_counter.new.pages.pages pid (omega (arith, c.in_ok-add_counter.ensures.two, from)) ∙ sym (slice_get_past c.args.pages.now.pages pid (omega (arith, few, from)))
