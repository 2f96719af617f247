-- Reading changes no byte.
use Rattle.sled_handle.proofs.OverBytes.{yields, waits}
use Rattle.sled_handle.proofs.opening.Opening+F.begin.Goals as goal

pub returns-in-Ok-clause-over : goal.returns-in-Ok-clause-over
returns-in-Ok-clause-over g c told = yields _ c.args.self.now.config c.read.result (c.begin.ensures.rests.same told) (c.read.ensures.over told)

pub returns-in-Ok-clause-waits : goal.returns-in-Ok-clause-waits
returns-in-Ok-clause-waits g c told = waits _ c.read.new.self c.read.result (c.begin.ensures.rests.same told) (c.read.ensures.waits told)
