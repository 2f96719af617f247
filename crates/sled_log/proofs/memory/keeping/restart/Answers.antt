use Rattle.sled_log.proofs.Names.{arith, restarts}
use Rattle.sled_log.proofs.Stored.{over_more}
use Rattle.sled_log.proofs.memory.keeping.restart.Goals as goal

pub loop-item-preserved : goal.loop-item-preserved
loop-item-preserved c = over_more restarts c.item-item.result c.args.items.now c.loop-item.items c.loop-item.item-index (omega arith) (omega (arith, c.loop-item.auto.items)) c.loop-item.invariant
