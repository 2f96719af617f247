use Rattle.sled_pagecache.proofs.Names.{◌∙◌, List, [], ap, chains_after, Event, LogState, Entry, effect_of_entry}
use Rattle.sled_disk.specs.AppendedFrameLaws.{one-meaning}
use Rattle.sled_pagecache.proofs.Crash.FlushedCaches.{starts-flushed}
use Rattle.sled_pagecache.proofs.crashes.start_on_a_new_disk.Goals as goal

pub returns-in-Ok-start : goal.returns-in-Ok-start
returns-in-Ok-start c =
    let log = c.in-Ok.log in
    let opens = c.in-Ok.ensures in
    let opened = opens.opened tt in
    let events = one-meaning c.create.new.disk.bytes.items opened.0 [] opened.1 (c.in_ok-create.ensures.empty tt) in
    let stable = ap (λ (state : LogState Entry). state.stable) opened.2 ∙ ap (λ (l : List (Event Entry)). chains_after effect_of_entry [] l) events in
    starts-flushed _ log opens.usable opens.none stable c.args.config c.in-Ok-start.cache c.start.result c.in-Ok-start.is
    (record { settings = c.start.ensures.settings; opens = λ sound held logged. c.start.ensures.opens sound tt held logged })
