use Rattle.sled_node.specs.Meta.{roots_size}
use Rattle.sled_pagecache.proofs.Names.{◌≡◌, Counter, HoldsChain, Node, Roots, refl, subst}
use Rattle.sled_pagecache.proofs.pagecache.memory.page_sizes.page_rss.Goals as goal

pub returns-in_ok-read_node-in-OnLog-clause-size : goal.returns-in_ok-read_node-in-OnLog-clause-size
returns-in_ok-read_node-in-OnLog-clause-size g c = λ known. (Node c.in_ok-read_node-in-OnLog.field-0, c.in_ok-read_node-in-OnLog.ensures.made known, c.rss-in-OnLog.ensures)

pub returns-in-Counter-clause-size : goal.returns-in-Counter-clause-size
returns-in-Counter-clause-size g c = λ known. (Counter c.in-Counter.field-0, subst (HoldsChain _) c.in-Counter.is (c.requires.kept known).holds, refl)

pub returns-in-Roots-clause-size : goal.returns-in-Roots-clause-size
returns-in-Roots-clause-size g c = λ known. (Roots c.in-Roots.roots, subst (HoldsChain _) c.in-Roots.is (c.requires.kept known).holds, subst (λ roots. c.rss-in-Roots.result ≡ roots_size roots) c.as_meta.ensures c.rss-in-Roots.ensures)

pub returns-in-Node-clause-size : goal.returns-in-Node-clause-size
returns-in-Node-clause-size g c = λ known. (Node c.in-Node.node, subst (HoldsChain _) c.in-Node.is (c.requires.kept known).holds, c.rss-in-Node.ensures)
