use Rattle.sled_pagecache.proofs.Names.{Ok, Err, refl}
use Rattle.sled_pagecache.proofs.Moves.AddedMoves.{puts-promises}
use Rattle.sled_pagecache.proofs.pagecache.calls.PageCache.replace.Goals as goal

pub returns-in-Ok-Ok : goal.returns-in-Ok-Ok
returns-in-Ok-Ok g c =
    puts-promises g.L.Log c.args.self.now _ c.args.pid c.args.old c.args.node (Ok (Ok c.in-Ok-Ok.made))
    (record { swap = c.replace_alone.new.self; puts = rw (c.in-Ok-Ok.is, c.in-Ok-Ok.field-0-is) at c.replace_alone.ensures; moves = (c.attempt_gc.result, c.attempt_gc.ensures) })

pub returns-in-Ok-Err : goal.returns-in-Ok-Err
returns-in-Ok-Err g c =
    puts-promises g.L.Log c.args.self.now _ c.args.pid c.args.old c.args.node (Ok (Err c.in-Ok-Err.rejection))
    (record { swap = c.replace_alone.new.self; puts = rw (c.in-Ok-Err.is, c.in-Ok-Err.field-0-is) at c.replace_alone.ensures; moves = refl })

pub returns-in-Err : goal.returns-in-Err
returns-in-Err g c =
    puts-promises g.L.Log c.args.self.now _ c.args.pid c.args.old c.args.node (Err c.in-Err.error)
    (record { swap = c.replace_alone.new.self; puts = rw c.in-Err.is at c.replace_alone.ensures; moves = refl })
