use mathlib.Core.List.{map-id}
use Rattle.std.proofs.Common.{rules}
use Rattle.sled_base.proofs.prefix.binary_search_lub.Goals as goal

-- A wrong body is refused at this answer, so that no offers are printed.
pub returns-clause-none : goal.returns-clause-none
returns-clause-none c = search (rules, map-id)
