use Rattle.std.proofs.Common.{Ok, ap}
use Rattle.sled_shared.proofs.keeping.keep_ending.Goals as goal

pub returns-in-Ok : goal.returns-in-Ok
returns-in-Ok g c stamps old change = rw c.in-Ok.is (λ so. ap (λ x. Ok x) (c.ending_of.ensures stamps old change so))
