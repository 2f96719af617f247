use Rattle.sled_pagecache.proofs.Names.{subst, Counter, Roots, Node, Put, written-update, CanPut}
use Rattle.sled_pagecache.proofs.pagecache.write.page_swap.payload_size.Goals as goal

pub returns-in-Node-clause-is : goal.returns-in-Node-clause-is
returns-in-Node-clause-is c = rw (c.in-Node.is) (written-update (Put (Node c.in-Node.node)) c.written_size.ensures.well_formed)

pub returns-in-Roots-clause-is : goal.returns-in-Roots-clause-is
returns-in-Roots-clause-is c = rw (c.in-Roots.is) (written-update (Put (Roots c.in-Roots.roots)) (subst CanPut c.in-Roots.is c.requires))

pub returns-in-Counter-clause-is : goal.returns-in-Counter-clause-is
returns-in-Counter-clause-is c = rw (c.in-Counter.is) (written-update (Put (Counter c.in-Counter.n)) (subst CanPut c.in-Counter.is c.requires))
