use Rattle.std.proofs.Common.{rules}
use Rattle.sled_base.proofs.serialization.bytes.IVecSerialize.deserialize.Goals as goal

-- A wrong body is refused at this answer, so that no offers are printed.
pub returns-in_default-clause-refused : goal.returns-in_default-clause-refused
returns-in_default-clause-refused c = search rules
