use Rattle.sled_pagecache.proofs.Names.{append-nil, [], length, TableView, ap, rules, OutOfMemory, events_at_start, nat_tests, by-id-all, ◌∙◌, sym, arith, IfSome_then, slice_get, past-two, IsRoots, IsUnread}
use Rattle.sled_pagecache.proofs.Ids.DurableCounter.{opened-counted}
use Rattle.sled_pagecache.proofs.CacheLog.LogCalls.{proceeds-refused}
use Rattle.sled_pagecache.proofs.Opening.OpenedPages.{all-kept, all-fresh, stays-closed, changes-closed, opened-with}
use Rattle.sled_pagecache.proofs.pagecache.open.start.complete.Goals as goal

pub add_missing-requires-clause-table : goal.add_missing-requires-clause-table
add_missing-requires-clause-table g c =
    let read = c.requires.read in
    let pages = c.args.pages.pages in
    record {
      kept = λ known. all-kept _ pages (read.kept known);
      hold = ((λ k. IfSome_then (slice_get pages k) (read.hold.0 k) (λ page found. grind arith)), by-id-all _ pages (λ k. IfSome_then (slice_get pages k) (c.requires.fit k) (λ page fits. grind (arith, nat_tests))));
      few = read.few;
      chains_are = read.chains_are;
      sized = read.sized;
    }

pub add_missing-requires-clause-fresh : goal.add_missing-requires-clause-fresh
add_missing-requires-clause-fresh g c = λ told. all-fresh _ c.args.pages.pages (c.requires.read.kept told)

pub returns-in_default-clause-proceeds : goal.returns-in_default-clause-proceeds
returns-in_default-clause-proceeds g c = proceeds-refused g.L.Log c.args.sticky_log.now c.add_missing.new.sticky_log (events_at_start c.args.pages.pages) OutOfMemory tt c.in_ok-add_missing.ensures.proceeds

pub returns-clause-consistent : goal.returns-clause-consistent
returns-clause-consistent g c =
    let added = c.in_ok-add_missing.ensures in
    let table = added.table in
    let pages = c.args.pages.pages in
    record {
      opened = λ clear. stays-closed g.L.Log c.args.sticky_log.now c.add_missing.new.sticky_log (events_at_start pages) added.proceeds c.requires.closed (changes-closed (length pages) (events_at_start pages) [] (append-nil _)) ∙ sym (added.proceeds.reaches.batch ∙ c.requires.unopened);
      beside = λ clear. record { usable = added.proceeds.reaches.usable clear; kept = table.kept; chains = table.chains_are; sized = table.sized };
      own = table.hold.0;
      both = omega (arith, added.both);
      short = table.hold.1;
      few = table.few;
      free = search rules;
    }

pub returns-clause-opened : goal.returns-clause-opened
returns-clause-opened g c = λ told.
    opened-with c.args.config _ c.args.pages.pages c.args.counter _ c.next_id.result c.is_some.result c.requires.read told (c.in_ok-add_missing.ensures.stamps told) c.next_id.ensures (search rules)

pub returns-clause-unread : goal.returns-clause-unread
returns-clause-unread g c = λ pid from. rw (c.in_ok-add_missing.ensures.others pid from) (IfSome_then (slice_get c.args.pages.pages pid) (c.requires.read.hold.0 pid) (λ page. (past-two IsRoots _ IsUnread pid page.kept from).1))

pub returns-clause-counted : goal.returns-clause-counted
returns-clause-counted g c =
    let added = c.in_ok-add_missing.ensures in
    rw c.next_id.ensures
    (opened-counted g.L.Log c.args.config.idgen_persist_interval c.add_missing.new.sticky_log c.args.pages.pages c.add_missing.new.pages.pages c.args.counter (λ free. added.table.kept) c.requires.read.hold (λ both. ap (λ (t : TableView). t.pages) (added.there both)) added.stable)
