-- It is the log that was read.
use Rattle.std.proofs.Common.{rules, refl}
use Rattle.sled_handle.proofs.opening.Opening+F.take_new_log.Goals as goal

pub returns-clause-some : goal.returns-clause-some
returns-clause-some g c = (c.in-Some-Read-take.read, search rules, refl)
