-- A log that was created on a disk holds no page.
use Rattle.sled_pagecache.proofs.Names.{◌∙◌, List, [], ap, chains_after, Event, LogState, Entry, effect_of_entry}
use Rattle.sled_disk.specs.AppendedFrameLaws.{one-meaning}
use Rattle.sled_pagecache_move_tests.proofs.tests.rewriting.new_log.Goals as goal

pub returns-in-Ok-open : goal.returns-in-Ok-open
returns-in-Ok-open c =
    let opens = c.in-Ok-open.ensures in
    let opened = opens.opened tt in
    let events = one-meaning c.create.new.disk.bytes.items opened.0 [] opened.1 (c.in-Ok.ensures.empty tt) in
    let stable = ap (λ (state : LogState Entry). state.stable) opened.2 ∙ ap (λ (l : List (Event Entry)). chains_after effect_of_entry [] l) events in
    (opens.usable, opens.none, ap (chains_after effect_of_entry _) opens.none ∙ stable)
