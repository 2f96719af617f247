-- The pages so far stand in their shapes.
use Rattle.sled_pagecache.proofs.Names.{◌≡◌, map, take, shape_of_entry}
use Rattle.sled_pagecache.proofs.pagecache.calls.cache_shape.shapes_of.Given as goal

abbrev pub invariant-loop-pid : goal.invariant-loop-pid
invariant-loop-pid l = l.shapes.items ≡ map shape_of_entry (take l.pid l.pages.pages)
