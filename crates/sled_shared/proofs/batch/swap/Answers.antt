use Rattle.std.proofs.Common.{ap}
use Rattle.sled_shared.specs.declared.calls.SwapAnswer.TheVariants as swapped
use Rattle.sled_shared.proofs.batch.swap.Goals as goal

pub returns-in-Ok-clause-same : goal.returns-in-Ok-clause-same
returns-in-Ok-clause-same g c = rw c.in-Link.is (ap swapped.Link (c.ending_of-ending.ensures c.args.cache.now.stamps c.in-Link.old c.in-Link.link c.in-Ok.ensures.token))

pub returns-in-Ok-replace-clause-same : goal.returns-in-Ok-replace-clause-same
returns-in-Ok-replace-clause-same g c = rw c.in-Replace.is (ap swapped.Replace (c.ending_of-ending-in-Ok-replace.ensures c.args.cache.now.stamps c.in-Replace.old c.in-Replace.node c.in-Ok-replace.ensures.token))

pub returns-in-Ok-free-clause-same : goal.returns-in-Ok-free-clause-same
returns-in-Ok-free-clause-same g c = rw c.in-Free.is (ap swapped.Free (c.ending_of-ending-in-Ok-free.ensures c.args.cache.now.stamps c.in-Free.old tt c.in-Ok-free.ensures.token))
