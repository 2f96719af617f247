use Rattle.sled_pagecache.proofs.Names.{IfErr-weaker, arith}
use Rattle.sled_pagecache.proofs.Memory.FoundMessages.{refuses_so}
use Rattle.sled_pagecache.proofs.pagecache.memory.reading.first_node.Goals as goal

pub returns-in-InlineNode-clause-refused : goal.returns-in-InlineNode-clause-refused
returns-in-InlineNode-clause-refused c =
    let found = c.args.found.now in
    IfErr-weaker c.whole.result _ _ (refuses_so found.pointer _ _ (λ none node reads. none node (grind arith))) c.whole.ensures.refused
