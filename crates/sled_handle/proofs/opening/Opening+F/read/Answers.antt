-- Reading changes no byte.
use Rattle.sled_handle.proofs.OverBytes.{yields, waits}
use Rattle.sled_handle.proofs.opening.Opening+F.read.Goals as goal

pub returns-in-Ok-clause-over : goal.returns-in-Ok-clause-over
returns-in-Ok-clause-over g c told = yields _ c.args.self.now.config c.make_durable.result (c.read.ensures.rests.same told) (c.make_durable.ensures.over told)

pub returns-in-Ok-clause-waits : goal.returns-in-Ok-clause-waits
returns-in-Ok-clause-waits g c told = waits _ c.make_durable.new.self c.make_durable.result (c.read.ensures.rests.same told) (c.make_durable.ensures.waits told)
