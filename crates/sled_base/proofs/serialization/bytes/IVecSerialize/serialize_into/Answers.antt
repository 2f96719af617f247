use Rattle.std.proofs.Common.{rules}
use Rattle.sled_base.proofs.serialization.bytes.IVecSerialize.serialize_into.Goals as goal

-- A wrong body is refused at this answer, so that no offers are printed.
pub returns-clause-bytes : goal.returns-clause-bytes
returns-clause-bytes c = search rules
