use mathlib.Core.List.{map-id}
use Rattle.std.proofs.Common.{rules}
use Rattle.sled_base.proofs.prefix.binary_search.Goals as goal

-- A wrong body is refused at this answer, so that no offers are printed.
pub returns-clause-missing : goal.returns-clause-missing
returns-clause-missing c = search (rules, map-id)

pub returns-clause-below : goal.returns-clause-below
returns-clause-below c = search (rules, map-id)
