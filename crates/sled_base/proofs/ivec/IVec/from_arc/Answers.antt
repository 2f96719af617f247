use Rattle.std.proofs.Common.{rules}
use Rattle.sled_base.proofs.ivec.IVec.from_arc.Goals as goal

-- A wrong body is refused at this answer, so that no offers are printed.
pub returns-then-len-gt-CUTOFF-clause-ok : goal.returns-then-len-gt-CUTOFF-clause-ok
returns-then-len-gt-CUTOFF-clause-ok c = search rules
