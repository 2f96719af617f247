use Rattle.sled_shared.proofs.Reading.{found-kept}
use Rattle.sled_shared.proofs.copies.get_twice.Goals as goal

pub returns-in-Ok-clause-same : goal.returns-in-Ok-clause-same
returns-in-Ok-clause-same g c = found-kept c.args.pid c.in-Ok.copy c.in-Ok.found c.in-Ok.ensures.same
