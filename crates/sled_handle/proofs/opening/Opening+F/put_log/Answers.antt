-- It is the log that was read.
use Rattle.std.proofs.Common.{[], refl}
use Rattle.sled_handle.proofs.opening.Opening+F.put_log.Goals as goal

pub returns-clause-read : goal.returns-clause-read
returns-clause-read g c = (_, refl, refl)

pub returns-clause-over : goal.returns-clause-over
returns-clause-over g c told none = record { tried = []; is = c.a_log_is_of_its_bytes.ensures told c.requires.0 none }
