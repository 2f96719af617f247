use Rattle.std.proofs.Common.{inl, inr, refl}
use Rattle.sled_search.proofs.InARow.{no-change, one-change, two-parts, rows-join}
use Rattle.sled_search.specs.Maps.{AreTrees}
use Rattle.sled_search.proofs.calls.changes_make_a_call.Goals as goal

pub returns-clause-none : goal.returns-clause-none
returns-clause-none c pages maps trees = no-change AreTrees pages maps trees

pub returns-clause-one : goal.returns-clause-one
returns-clause-one c pages old new event was is = one-change AreTrees pages old new event was is

pub returns-clause-kept_first : goal.returns-clause-kept_first
returns-clause-kept_first c pages old new us vs first later = two-parts AreTrees pages old old new us vs first later (inl refl)

pub returns-clause-kept_last : goal.returns-clause-kept_last
returns-clause-kept_last c pages old new us vs first later = two-parts AreTrees pages old new new us vs first later (inr refl)

pub returns-clause-row : goal.returns-clause-row
returns-clause-row c pages maps xs ys first later = rows-join AreTrees xs ys pages maps first later
