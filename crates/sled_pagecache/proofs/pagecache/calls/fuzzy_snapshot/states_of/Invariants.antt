use Rattle.sled_pagecache.proofs.Names.{take, AllZip}
use Rattle.sled_pagecache.proofs.pagecache.calls.fuzzy_snapshot.states_of.Given as goal
use Rattle.sled_pagecache.specs.Table.{IsSaidBy}

-- the pages so far are said
abbrev pub invariant-loop-pid : goal.invariant-loop-pid
invariant-loop-pid l = AllZip IsSaidBy (take l.pid l.pages.pages) l.states.items
