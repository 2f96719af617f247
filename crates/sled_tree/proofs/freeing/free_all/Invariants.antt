use Rattle.sled_tree.specs.Dropping.{AreLoose}
use Rattle.sled_tree.specs.Performs.{Performs}
use Rattle.sled_tree.proofs.Keeping.{Kept}
use Rattle.sled_tree.proofs.freeing.free_all.Given as goal

-- the maps stayed, and no search is at any of the pages
abbrev pub invariant-loop-page : goal.invariant-loop-page
invariant-loop-page g l = Performs g.L.Log (Kept (AreLoose l.pages) (AreLoose l.pages)) l.initial.cache l.cache
