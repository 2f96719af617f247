-- The ledger is that of the blank, and the cache's state is known.
use Rattle.std.specs.Prelude.{⊤}
use Rattle.sled_script.proofs.program.serve_crew.Given as goal

abbrev pub ghosts-draw_ids-K-Ledger : goal.ghosts-draw_ids-K-Ledger
ghosts-draw_ids-K-Ledger g a = record { name = a.blank.name; parts = a.blank.parts }

abbrev pub ghosts-draw_ids-K-Tally : goal.ghosts-draw_ids-K-Tally
ghosts-draw_ids-K-Tally g a = record { known = ⊤; history = a.blank.history }
