use Rattle.std.proofs.Common.{rules}
use Rattle.sled_base.proofs.serialization.numbers.U64Serialize.deserialize.Goals as goal

-- A wrong body is refused at this answer, so that no offers are printed.
pub returns-in-None-clause-refused : goal.returns-in-None-clause-refused
returns-in-None-clause-refused c = search rules
