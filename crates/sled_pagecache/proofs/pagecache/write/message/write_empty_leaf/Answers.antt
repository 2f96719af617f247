use Rattle.sled_pagecache.proofs.Names.{Node, Put, empty_leaf, rules, written-update}
use Rattle.sled_pagecache.proofs.pagecache.write.message.write_empty_leaf.Goals as goal

pub returns : goal.returns
returns g c = record { is = written-update (Put (Node empty_leaf)) (search rules); writes = c.write_payload.ensures }
