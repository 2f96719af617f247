-- The log is one of the bytes that the disk showed as it was read.
use Rattle.sled_handle.proofs.OverBytes.{fresh}
use Rattle.sled_handle.proofs.opening.Opening+F.make_durable.Goals as goal

pub returns-in-Ok-clause-over : goal.returns-in-Ok-clause-over
returns-in-Ok-clause-over g c told = fresh _ c.args.self.now.config (c.in_default.ensures.seen told) (c.in-Ok.ensures.opened told)
