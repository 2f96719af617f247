use Rattle.sled_base.proofs.serialization.numbers.I64Serialize.deserialize.Goals as goal

pub returns-in-None-clause-refused : goal.returns-in-None-clause-refused
returns-in-None-clause-refused c = let nothing = rw c.in-None.is at c.read_low.ensures.nothing in λ value rest found. nothing found.0 rest found.1
