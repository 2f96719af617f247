use Rattle.std.proofs.Common.{rules}
use Rattle.sled_base.proofs.prefix.decode.Goals as goal

-- A wrong body is refused at this answer, so that no offers are printed.
pub returns-then-len-le-CUTOFF-clause-ok : goal.returns-then-len-le-CUTOFF-clause-ok
returns-then-len-le-CUTOFF-clause-ok c = search rules
