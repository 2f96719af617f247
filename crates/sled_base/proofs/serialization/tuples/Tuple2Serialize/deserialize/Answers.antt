use Rattle.std.proofs.Common.{rules}
use Rattle.sled_base.proofs.serialization.tuples.Tuple2Serialize.deserialize.Goals as goal

-- A wrong body is refused at this answer, so that no offers are printed.
pub returns-clause-read : goal.returns-clause-read
returns-clause-read g c = search rules
