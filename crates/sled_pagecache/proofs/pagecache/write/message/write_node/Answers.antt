use Rattle.sled_pagecache.proofs.CacheLog.Writes.{writes-at}
use Rattle.sled_pagecache.proofs.Names.{Node, Put, written-update}
use Rattle.sled_pagecache.proofs.pagecache.write.message.write_node.Goals as goal

pub write-requires-clause-can_write : goal.write-requires-clause-can_write
write-requires-clause-can_write g c = c.data.ensures.well_formed

pub returns : goal.returns
returns g c = rw (← c.in-Some.ensures) (record { is = written-update (Put (Node c.in-Some.node.now)) c.data.ensures.well_formed; writes = writes-at g.L.Log c.new-token.ensures c.write.ensures })
