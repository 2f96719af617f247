-- The map of named roots in memory.
use Rattle.std.specs.Borrow.{Lends, MutBor, Fml}
use Rattle.sled_node.specs.Meta.{Roots}
use Rattle.sled_node.specs.contracts.meta.Meta.{the_row as roots_row}
use Rattle.sled_pagecache.specs.contracts.pagecache.table.boxed_roots.BoxedRoots.{the_row as boxed_row}

-- what is held when the borrow ends is the map that the borrower left
abbrev pub LendsRoots : MutBor Roots → MutBor Roots → Fml
LendsRoots held roots = Lends boxed_row roots_row held roots (λ roots. roots)
