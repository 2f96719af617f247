use Rattle.sled_pagecache.proofs.Names.{arith, rules, Went-none}
use Rattle.sled_pagecache.proofs.pagecache.write.page_link.link_page.Goals as goal

pub returns-in_default : goal.returns-in_default
returns-in_default g c =
    let none = Went-none g.L.Log c.args.writer.now.sticky_log c.requires.ready.usable (search rules) in
    grind arith

pub returns-then-not-accepts : goal.returns-then-not-accepts
returns-then-not-accepts g c =
    let none = Went-none g.L.Log c.args.writer.now.sticky_log c.requires.ready.usable (search rules) in
    grind arith

pub returns-then-page : goal.returns-then-page
returns-then-page g c =
    let none = Went-none g.L.Log c.args.writer.now.sticky_log c.requires.ready.usable (search rules) in
    let accepts = c.accepts.ensures.accepted.0 c.if-not-accepts.false in
    grind arith
