use Rattle.std.proofs.Common.{arith}
use Rattle.sled_log.proofs.memory.finding.before_change.Goals as goal

pub overflow_add-n : goal.overflow_add-n
overflow_add-n c =
    let few = c.requires.few in
    let passed = c.loop-item.invariant.1 in
    let end = c.loop-item.auto.item-index-end in
    let more = c.loop-item-test.true in
    omega arith
