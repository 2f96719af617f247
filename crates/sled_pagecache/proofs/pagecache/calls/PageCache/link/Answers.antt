use Rattle.sled_pagecache.proofs.Names.{Ok, answer_to, refl, true}
use Rattle.sled_pagecache.proofs.Moves.AddedMoves.{joins-promises}
use Rattle.sled_pagecache.proofs.Steps.TokenCheck.{rejected-unmade}
use Rattle.sled_pagecache.proofs.pagecache.calls.PageCache.link.Goals as goal

-- it wrote a whole node, and a move was attempted
pub returns-else-joins : goal.returns-else-joins
returns-else-joins g c =
    joins-promises g.L.Log c.args.self.now _ c.args.pid c.args.old c.args.link (Ok (Ok c.in-Ok.token)) c.requires
    (record { swap = c.link_alone.new.self; links = c.in-Ok.ensures.links; joins = c.in-Ok.joins; joined = c.in-Ok.ensures.joins; moves = rw c.if-joins.false (c.attempt_gc.result, c.attempt_gc.ensures) })

-- it joined the messages of its page
pub returns-then-joins : goal.returns-then-joins
returns-then-joins g c =
    joins-promises g.L.Log c.args.self.now _ c.args.pid c.args.old c.args.link (Ok (Ok c.in-Ok.token)) c.requires
    (record { swap = c.link_alone.new.self; links = c.in-Ok.ensures.links; joins = c.in-Ok.joins; joined = c.in-Ok.ensures.joins; moves = rw c.if-joins.true refl })

-- it wasn't made
pub returns-in-Err : goal.returns-in-Err
returns-in-Err g c =
    rw c.answer.ensures (joins-promises g.L.Log c.args.self.now _ c.args.pid c.args.old c.args.link (answer_to c.in-Err.rejection c.args.link) c.requires
    (record { swap = c.link_alone.new.self; links = c.in-Err.ensures.links; joins = true; joined = λ told. rejected-unmade _ c.in-Err.rejection c.args.link; moves = refl }))
