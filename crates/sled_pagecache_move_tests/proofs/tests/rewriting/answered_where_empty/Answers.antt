-- A log of which no page was recovered holds none.
use Rattle.std.proofs.Common.{rules}
use Rattle.sled_pagecache.proofs.Names.{◌≡◌, ◌∙◌, [], arith, length, AllZip-long, IsPageState, effect_of_entry, nil_from_length, now, now-Adds}
use Rattle.sled_pagecache_move_tests.proofs.tests.rewriting.answered_where_empty.Goals as goal

pub rewrite_into-requires-clause-empty : goal.rewrite_into-requires-clause-empty
rewrite_into-requires-clause-empty g c = λ told.
    let done = c.in-Ok.ensures in
    let old = g.M.Log.state c.args.into in
    let none : length c.in-Ok.pages.items ≡ 0 = search rules in
    now-Adds effect_of_entry old (g.M.Log.state c.recover.new.self) [] (done.called.added told)
    ∙ nil_from_length (now effect_of_entry old) (omega (arith, AllZip-long IsPageState (now effect_of_entry old) c.in-Ok.pages.items (done.pages told), none))
